use Rattle.std.proofs.Common.{refl, ap, ◌∙◌, length, min, ◌||◌, nat_le}
use Rattle.doc_inlines.proofs.ClosingLaws.{popped_live, popped_text, popped_stood, popped_open, popped_dead}
use Rattle.doc_inlines.proofs.LiveLaws.{images_left}
use Rattle.doc_inlines.proofs.draft.Draft.pop.Goals as goal

pub returns : goal.returns
returns c =
    let e = c.in_ok-bracket.ensures.items in
    let new = c.min-self.ensures ∙ ap (λ n. min c.args.self.now.dead n) (ap length c.as_slice-count.ensures.value) in
    let live = c.is_live-live.ensures ∙ ap (λ n. c.in_ok-bracket.bracket.image || nat_le c.args.self.now.dead n)
    (ap length c.as_slice-count.ensures.value) in
    record {
      items = refl;
      brackets = e;
      last = popped_live _ _ _ _ _ _ _ _ e new live;
      text = popped_text _ _ _ _ _ _ e c.requires.brackets;
      stood = popped_stood _ _ _ _ _ e c.requires.brackets;
      sound = record { marks = c.requires.marks; brackets = popped_open _ _ _ _ _ e c.requires.brackets; dead = popped_dead _ _ _ new; images = images_left _ _ _ e c.requires.images };
    }
