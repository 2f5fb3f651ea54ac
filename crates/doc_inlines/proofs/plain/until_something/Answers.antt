use Rattle.std.proofs.Common.{◌∙◌}
use Rattle.std.proofs.lemmas.Bool.{or_from}
use Rattle.doc_inlines.specs.ReadingSteps.{begins_something}
use Rattle.doc_inlines.proofs.PlainEndLaws.{beginnings_are_ascii, begins_without}
use Rattle.doc_inlines.proofs.plain.until_something.Goals as goal

pub returns : goal.returns
returns c =
    c.until-2.ensures.cut (begins_something c.args.entities.now)
    (λ b t h. h ∙ begins_without c.args.entities.now c.strikethrough-strikes.result c.bare_links-links.result
    c.strikethrough-strikes.ensures c.bare_links-links.ensures (or_from _ _ c.if-strikes.false c.if-links.false) b) (beginnings_are_ascii c.args.entities.now)
