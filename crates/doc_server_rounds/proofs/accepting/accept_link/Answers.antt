use Rattle.std.proofs.lemmas.Result.{err_from_is_err_and}
use Rattle.doc_server_rounds.proofs.Making.{refused_for}
use Rattle.doc_server_rounds.proofs.accepting.accept_link.Goals as goal

pub returns-in_err-link-clause-why : goal.returns-in_err-link-clause-why
returns-in_err-link-clause-why g c =
    let p = err_from_is_err_and c.from_residual-in_err-link.result c.from_residual-in_err-link.ensures.1 in
    rw (p.1, p.2) (refused_for (g.R.Renderer.page c.args.hub.now.0) c.args.hub.now.1 c.new-2.new.hub.1 c.in_err-link.field-0.0
    c.in_err-link.ensures.refused)
