use Rattle.std.proofs.Common.{ap, sym, chars, ◌++◌, ◌∙◌}
use Rattle.doc_inlines_emphasis.specs.Views.{items_of}
use Rattle.doc_inlines.proofs.ReaderLaws.{plain_moved, moved_behind, none_uncut, all_of_itself}
use Rattle.doc_inlines.proofs.EnclosedLaws.{link_added, link_put, added_slices, added_cut}
use Rattle.doc_inlines.proofs.reader.Reader.put_autolink.Goals as goal

pub returns-clause-made : goal.returns-clause-made
returns-clause-made c =
    let f = c.in_ok-flush.ensures in
    link_put _ _ _ _ _ (chars c.args.scheme.now ++ chars c.args.address.now) (chars c.args.address.now) _ _ _ c.in_ok-span.span
    c.in_ok-span.span (ap (λ t. chars t.now) (f.plain ∙ sym f.rest)) c.in_ok-put.ensures.made
    c.in_ok-put_text.ensures.made c.in_ok-put-2.ensures.made c.in_ok-span.ensures c.in_ok-span.ensures f.made

pub returns-clause-sound : goal.returns-clause-sound
returns-clause-sound c =
    let f = c.in_ok-flush.ensures in
    let p = ap (λ t. chars t.now) f.plain in
    let r = ap (λ t. chars t.now) f.rest in
    let a = link_added (items_of c.flush.new.self.draft.marks) _ _ _ _ _ _ c.in_ok-span.span c.in_ok-span.span
    c.requires.stands
    c.in_ok-put.ensures.items c.in_ok-put_text.ensures.items c.in_ok-put-2.ensures.items in
    record {
      draft = c.in_ok-put-2.ensures.sound;
      plain = plain_moved _ _ _ _ f.sound.plain p c.requires.behind;
      rest = all_of_itself (chars c.args.rest.now);
      slices = added_slices _ _ _ _ (items_of c.flush.new.self.draft.marks) _ f.sound.plain p c.requires.behind a f.sound.slices;
      cut = added_cut _ _ _ a f.sound.cut;
      pending = none_uncut (chars c.args.rest.now);
      behind = moved_behind _ _ (chars c.args.rest.now) c.flush.new.self.draft.brackets.items _ r c.requires.behind
          (c.in_ok-put-2.ensures.brackets ∙ (c.in_ok-put_text.ensures.brackets ∙ c.in_ok-put.ensures.brackets)) f.sound.behind;
      backticks = f.sound.backticks;
      missing = f.sound.missing;
    }
