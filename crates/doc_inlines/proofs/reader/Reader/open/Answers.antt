use Rattle.std.proofs.Common.{ap, sym, chars, ◌∙◌}
use Rattle.doc_inlines_emphasis.specs.Views.{items_of}
use Rattle.doc_inlines.specs.DraftSteps.{made_of}
use Rattle.doc_inlines.proofs.ReaderLaws.{plain_moved, moved_slices, put_cut, none_uncut, all_of_itself}
use Rattle.doc_inlines.proofs.BracketItemLaws.{behind_codes, bracket_cut, bracket_slices, opened_made, opened_behind}
use Rattle.doc_inlines.proofs.reader.Reader.open.Goals as goal

pub returns-clause-made : goal.returns-clause-made
returns-clause-made c =
    let f = c.in_ok-flush.ensures in
    opened_made (made_of c.flush.new.self.draft) _ _ _ _ _ _ (ap (λ t. chars t.now) (f.plain ∙ sym f.rest)) c.in_ok-open.ensures.made f.made

pub returns-clause-sound : goal.returns-clause-sound
returns-clause-sound c =
    let f = c.in_ok-flush.ensures in
    let p = ap (λ t. chars t.now) f.plain in
    let r = ap (λ t. chars t.now) f.rest in
    let behind = behind_codes c.args.image _ _ c.requires.first in
    record {
      draft = c.in_ok-open.ensures.sound;
      plain = plain_moved _ _ _ _ f.sound.plain p behind;
      rest = all_of_itself (chars c.args.after.now);
      slices = moved_slices _ _ _ _ (items_of c.flush.new.self.draft.marks) _ _ f.sound.plain p behind c.in_ok-open.ensures.items
          f.sound.slices (bracket_slices _ _ c.front-own.result c.front-own.ensures.value);
      cut = put_cut (items_of c.flush.new.self.draft.marks) _ _ c.in_ok-open.ensures.items f.sound.cut
          (bracket_cut c.args.image (chars c.args.self.now.rest.now) (chars c.args.after.now) c.front-own.result c.requires.first
          c.front-own.ensures.value);
      pending = none_uncut (chars c.args.after.now);
      behind = opened_behind _ _ (chars c.args.after.now) c.flush.new.self.draft.brackets.items _ r behind c.in_ok-open.ensures.brackets
          f.sound.behind;
      backticks = f.sound.backticks;
      missing = f.sound.missing;
    }
