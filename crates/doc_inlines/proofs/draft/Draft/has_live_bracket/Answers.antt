use Rattle.std.proofs.Common.{true, false, length, refl, ap, sym, ◌∙◌}
use Rattle.doc_inlines_emphasis.specs.Views.{items_of, runs_in}
use Rattle.doc_inlines.proofs.LiveLaws.{live_told}
use Rattle.doc_inlines.proofs.draft.Draft.has_live_bracket.Goals as goal

pub returns-then-has_image : goal.returns-then-has_image
returns-then-has_image c =
    let draft = c.args.self.now in
    c.if-has_image.true
    ∙ live_told (items_of draft.marks) (runs_in draft.marks) draft.brackets.items draft.dead (length draft.brackets.items) true
    (sym c.if-has_image.true ∙ c.has_image.ensures) refl

pub returns-else-has_image : goal.returns-else-has_image
returns-else-has_image c =
    let draft = c.args.self.now in
    live_told (items_of draft.marks) (runs_in draft.marks) draft.brackets.items draft.dead (length c.as_slice.result.now) false
    (sym c.if-has_image.false ∙ c.has_image.ensures) (ap length c.as_slice.ensures.value)
