use Rattle.std.proofs.Common.{ap, sym, chars, ◌∙◌}
use Rattle.doc_inlines_emphasis.specs.Views.{items_of}
use Rattle.doc_inlines.proofs.ReaderLaws.{put_made, plain_moved, moved_slices, moved_behind, put_cut, none_uncut, all_of_itself}
use Rattle.doc_inlines.proofs.reader.Reader.put.Goals as goal

pub returns-clause-sound : goal.returns-clause-sound
returns-clause-sound c =
    let f = c.in_ok-flush.ensures in
    let p = ap (λ t. chars t.now) f.plain in
    let r = ap (λ t. chars t.now) f.rest in
    record {
      draft = c.in_ok-put.ensures.sound;
      plain = plain_moved _ _ _ _ f.sound.plain p c.requires.stands.behind;
      rest = all_of_itself (chars c.args.rest.now);
      slices = moved_slices _ _ _ _ (items_of c.flush.new.self.draft.marks) _ _ f.sound.plain p c.requires.stands.behind
          c.in_ok-put.ensures.items f.sound.slices c.requires.stands.slices;
      cut = put_cut (items_of c.flush.new.self.draft.marks) _ _ c.in_ok-put.ensures.items f.sound.cut c.requires.stands.cut;
      pending = none_uncut (chars c.args.rest.now);
      behind = moved_behind _ _ (chars c.args.rest.now) c.flush.new.self.draft.brackets.items _ r c.requires.stands.behind
          c.in_ok-put.ensures.brackets f.sound.behind;
      backticks = f.sound.backticks;
      missing = f.sound.missing;
    }

pub returns-clause-made : goal.returns-clause-made
returns-clause-made c =
    let f = c.in_ok-flush.ensures in
    put_made _ _ _ _ _ _ _ (ap (λ t. chars t.now) (f.plain ∙ sym f.rest)) c.in_ok-put.ensures.made f.made
