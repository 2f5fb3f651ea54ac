use Rattle.std.proofs.Common.{ap}
use Rattle.std.proofs.lemmas.Result.{err_from_is_err_and}
use Rattle.doc_server.proofs.SiteSteps.{site_refused}
use Rattle.doc_server.proofs.site.site_hub_taking.Goals as goal

pub returns-in_err-put_pages-clause-fault : goal.returns-in_err-put_pages-clause-fault
returns-in_err-put_pages-clause-fault g c =
    let p = err_from_is_err_and c.from_residual-in_err-put_pages.result c.from_residual-in_err-put_pages.ensures.1 in
    rw (p.1, p.2) (λ other. site_refused c.args.takes_edits c.args.config c.args.texts.now c.args.media c.in_ok-hub.hub.1 c.get.result.now
    c.in_err-put_pages.field-0.0 c.in_ok-hub.ensures.capacity (ap (λ h. h.1) c.in_ok-hub.ensures.made) c.get.ensures
    (c.in_err-put_pages.ensures.fault other))
