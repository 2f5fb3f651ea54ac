use Rattle.std.proofs.Common.{arith, refl, ap, ◌∙◌, length}
use Rattle.doc_inlines.proofs.ClosingLaws.{place_behind, bracket_below, one_more, wrapped_marks, turned_marks, kept_more, lower_placed}
use Rattle.doc_inlines.proofs.ClosingLaws.{link_open, link_made_at, dead_within}
use Rattle.doc_inlines.proofs.SliceLaws.{link_slices, link_cut}
use Rattle.doc_inlines.proofs.draft.Draft.link.Goals as goal

pub wrap-requires : goal.wrap-requires
wrap-requires c = place_behind _ _ _ _ _ c.requires.stood (one_more _) refl

pub turn-requires-clause-behind : goal.turn-requires-clause-behind
turn-requires-clause-behind c = lower_placed _ _ _ _ _ _ c.requires.stood (wrapped_marks _ _ _ c.in_ok-wrap.ensures.before)
    c.in_ok-wrap.ensures.runs

pub returns-clause-made : goal.returns-clause-made
returns-clause-made c = λ live.
    link_made_at _ _ _ _ _ _ _ _ _ _ _ _ _ _ _ live c.requires.stood c.in_ok-wrap.ensures.size c.in_ok-wrap.ensures.before
    c.in_ok-wrap.ensures.emphasis c.in_ok-wrap.ensures.runs
    c.turn.ensures.items c.turn.ensures.runs c.in_ok-push.ensures.items c.in_ok-push.ensures.runs c.span-span.ensures
    c.span-span.ensures c.dead_behind-self.ensures.image (λ e. c.dead_behind-self.ensures.link e
    ∙ ap length c.as_slice.ensures.value)

pub returns-clause-slices : goal.returns-clause-slices
returns-clause-slices c = λ text h. link_slices text _ _ _ _ _ _ c.turn.ensures.items c.in_ok-push.ensures.items
    (c.in_ok-wrap.ensures.slices text h)

pub returns-clause-cut : goal.returns-clause-cut
returns-clause-cut c = λ h. link_cut _ _ _ _ _ _ c.turn.ensures.items c.in_ok-push.ensures.items (c.in_ok-wrap.ensures.cut h)

pub returns-clause-sound : goal.returns-clause-sound
returns-clause-sound c =
    let below = bracket_below _ _ _ _ c.requires.stood in
    let turned = turned_marks _ _ _ _ _ c.in_ok-wrap.ensures.before c.in_ok-wrap.ensures.size (omega (arith, below)) c.turn.ensures.items in
    let more = kept_more _ _ _ _ _ turned.0 turned.1 (omega (arith, below)) c.in_ok-push.ensures.items in
    record {
      marks = c.in_ok-push.ensures.sound;
      brackets = link_open _ _ _ _ _ _ c.requires.stood more.0 more.1 (c.in_ok-push.ensures.runs
          ∙ (c.turn.ensures.runs ∙ c.in_ok-wrap.ensures.runs));
      dead = dead_within _ _ _ _ c.requires.sound.dead c.dead_behind-self.ensures.image (λ e. c.dead_behind-self.ensures.link e
          ∙ ap length c.as_slice.ensures.value);
      images = c.requires.sound.images;
    }
