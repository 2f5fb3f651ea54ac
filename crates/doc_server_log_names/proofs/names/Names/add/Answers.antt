use Rattle.std.proofs.Common.{subst, sym, ap, ◌∙◌}
use Rattle.std.specs.FinMap as map
use Rattle.std.proofs.lemmas.Result.{on_ok_weaker}
use Rattle.toml.specs.View.{view}
use Rattle.doc_server_log_names.specs.Names.{IsWithRow}
use Rattle.doc_server_log_names.proofs.NameSteps.{lacks, listed_as, row_added}
use Rattle.doc_server_log_names.proofs.names.Names.add.Goals as goal

pub returns : goal.returns
returns c =
    on_ok_weaker c.insert.result (λ is. subst (IsWithRow c.args.self.now c.args.number (view c.args.row.now))
    (sym (is ∙ ap (λ name. map.insert c.args.self.now c.in-Some.digest (listed_as c.args.number name)) c.in_ok-name.ensures))
    (row_added c.args.self.now c.args.number (view c.args.row.now) c.in-Some.digest (sym c.digest_in.ensures ∙ c.in-Some.is)
    (lacks c.with_digest.result _ c.with_digest.ensures (sym c.is_some.ensures ∙ c.if-is_some.false))))
    c.insert.ensures
