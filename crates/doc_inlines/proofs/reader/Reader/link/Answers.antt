use Rattle.std.proofs.Common.{ap, chars, refl, ◌∙◌}
use Rattle.doc_rules.specs.Links.{linked}
use Rattle.doc_inlines_marks.specs.Targets.{named}
use Rattle.doc_inlines_emphasis.specs.Views.{items_of}
use Rattle.doc_inlines.specs.DraftSteps.{last_of}
use Rattle.doc_inlines.proofs.ReaderLaws.{plain_moved, moved_behind, none_uncut, all_of_itself, nothing_pending}
use Rattle.doc_inlines.proofs.BracketItemLaws.{longer_slices}
use Rattle.doc_inlines.proofs.reader.Reader.link.Goals as goal

pub returns-clause-made : goal.returns-clause-made
returns-clause-made c = λ live. nothing_pending _ (chars c.args.after.now)
    ∙ (c.in_ok-link.ensures.made live ∙ ap (λ t. linked (last_of c.args.self.now.draft c.args.bracket live) (named t)) c.in_ok-kept.ensures)

pub returns-clause-sound : goal.returns-clause-sound
returns-clause-sound c =
    let s = c.requires.sound in
    let l = c.in_ok-link.ensures in
    let p = ap (λ t. chars t.now) c.requires.plain in
    record {
      draft = l.sound;
      plain = plain_moved _ _ _ _ s.plain p c.requires.after;
      rest = all_of_itself (chars c.args.after.now);
      slices = longer_slices _ _ _ _ (items_of c.args.self.now.draft.marks) _ s.plain p c.requires.after s.slices l.slices;
      cut = l.cut s.cut;
      pending = none_uncut (chars c.args.after.now);
      behind = moved_behind _ _ (chars c.args.after.now) c.args.self.now.draft.brackets.items _ refl c.requires.after l.brackets s.behind;
      backticks = s.backticks;
      missing = s.missing;
    }
