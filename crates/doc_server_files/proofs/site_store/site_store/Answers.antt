use Rattle.std.proofs.Common.{sym, ◌∙◌}
use Rattle.std.proofs.lemmas.Result.{err_from_is_err_and}
use Rattle.doc_server_files.proofs.StoreSteps.{site_refused, site_stored}
use Rattle.doc_server_files.proofs.site_store.site_store.Goals as goal

pub returns-in_err-put_pages-clause-fault : goal.returns-in_err-put_pages-clause-fault
returns-in_err-put_pages-clause-fault c =
    let p = err_from_is_err_and c.from_residual.result c.from_residual.ensures.1 in
    rw (p.1, p.2) (λ other. site_refused c.args.config.now c.args.texts.now c.get.result.now c.new-store.result
    c.in_err-put_pages.field-0.0 (sym c.is_capacity.ensures ∙ c.if-not-is_capacity.false) c.get.ensures c.new-store.ensures
    (c.in_err-put_pages.ensures.fault other))

pub returns-clause-store : goal.returns-clause-store
returns-clause-store c =
    site_stored c.args.config.now c.args.texts.now c.get.result.now c.new-store.result c.put_pages.new.store
    (sym c.is_capacity.ensures ∙ c.if-not-is_capacity.false) c.get.ensures c.new-store.ensures c.in_ok-put_pages.ensures.stored
