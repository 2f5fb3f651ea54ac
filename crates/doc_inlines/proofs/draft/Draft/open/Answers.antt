use Rattle.std.proofs.Common.{◌||◌, reverse, ap, sym, ◌∙◌}
use Rattle.std.proofs.lemmas.Bool.{or_left}
use Rattle.doc_inlines.specs.DraftSteps.{holds_image}
use Rattle.doc_inlines.proofs.DraftLaws.{bracket_made, bracket_open, still_below, adds_bracket}
use Rattle.doc_inlines.proofs.LiveLaws.{images_told}
use Rattle.doc_inlines.proofs.draft.Draft.open.Goals as goal
use Rattle.doc_inlines.proofs.draft.Draft.open.Goals.{then-image, else-image}

pub returns-clause-brackets : goal.returns-clause-brackets
returns-clause-brackets c = adds_bracket _ _ _ c.in_ok-push.ensures.items

pub returns-clause-made : goal.returns-clause-made
returns-clause-made c =
    bracket_made _ _ _ _ _ _ _ _ _ c.requires.sound.brackets c.requires.sound.dead c.place-place.ensures.marks c.place-place.ensures.runs
    c.requires.text c.in_ok-push-2.ensures.items c.in_ok-push-2.ensures.runs c.in_ok-push.ensures.items

pub returns-clause-sound : goal.returns-clause-sound
returns-clause-sound c = record {
  marks = c.in_ok-push-2.ensures.sound;
  brackets = bracket_open _ _ _ _ _ _ _ _ c.requires.sound.brackets c.place-place.ensures.marks c.place-place.ensures.runs c.requires.text
      c.in_ok-push-2.ensures.items c.in_ok-push-2.ensures.runs c.in_ok-push.ensures.items;
  dead = still_below _ _ _ _ c.requires.sound.dead c.in_ok-push.ensures.items;
  images = images_told _ _ _ c.requires.sound.images c.in_ok-push.ensures.items (elim c.if-image.branch [
    | then-image w ↦ w.images-is ∙ (w.if-image.true ∙ sym (or_left c.args.image _ w.if-image.true))
    | else-image w ↦
        w.images-is ∙ (w.has_image-images.ensures ∙ sym (ap (λ i. i || holds_image (reverse c.args.self.now.brackets.items)) w.if-image.false))
  ]);
}
