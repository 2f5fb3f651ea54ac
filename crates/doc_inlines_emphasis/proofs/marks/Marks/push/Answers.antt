use Rattle.std.proofs.Common.{[], ◌∷◌, length, sym, subst}
use Rattle.doc_inlines_emphasis.specs.Marks.{ArePlaced}
use Rattle.doc_inlines_emphasis.specs.RunSteps.{all_placed}
use Rattle.doc_inlines_emphasis.specs.Views.{marks_shown, StandsApart}
use Rattle.doc_inlines_emphasis.proofs.MarkLaws.{placed_more, place_more}
use Rattle.doc_inlines_emphasis.proofs.marks.Marks.push.Goals as goal

pub returns-clause-sound : goal.returns-clause-sound
returns-clause-sound c =
    subst (λ t. ArePlaced (marks_shown t) 0 (length t) (all_placed c.args.self.now.runs.items)) (sym c.in_ok-push.ensures.items)
    (placed_more c.args.self.now.marks.items (c.args.mark ∷ []) 0 (all_placed c.args.self.now.runs.items) c.requires)

pub returns-clause-places : goal.returns-clause-places
returns-clause-places c = λ place h.
    subst (λ t. StandsApart t (all_placed c.args.self.now.runs.items) place) (sym c.in_ok-push.ensures.items)
    (place_more c.args.self.now.marks.items (c.args.mark ∷ []) (all_placed c.args.self.now.runs.items) place h)
