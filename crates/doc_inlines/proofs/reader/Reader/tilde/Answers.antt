use Rattle.std.proofs.Common.{sym, ◌∙◌}
use Rattle.doc_inlines.proofs.PlainEndLaws.{plain_tilde, all_on_ok}
use Rattle.doc_inlines.proofs.reader.Reader.tilde.Goals as goal

pub plain-requires-clause-plain : goal.plain-requires-clause-plain
plain-requires-clause-plain c = plain_tilde c.args.entities.now (sym c.strikethrough.ensures ∙ c.if-not-strikethrough.true)

pub returns : goal.returns
returns c = all_on_ok c.tildes.result (λ all targets. all c.args.entities.now targets (sym c.strikethrough.ensures ∙ c.if-not-strikethrough.false))
    c.tildes.ensures
