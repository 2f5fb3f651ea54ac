use Rattle.std.proofs.Common.{sym, ◌∙◌}
use Rattle.doc_inlines.proofs.PlainEndLaws.{none_begins}
use Rattle.doc_inlines.proofs.plain.begins_also.Goals as goal

pub returns-then-not-may_begin : goal.returns-then-not-may_begin
returns-then-not-may_begin c =
    sym (none_begins c.args.strikes c.args.links c.args.byte (sym c.may_begin.ensures ∙ c.if-not-may_begin.true))
