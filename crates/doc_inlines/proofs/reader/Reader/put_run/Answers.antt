use Rattle.std.proofs.Common.{ap, sym, chars, ◌∙◌}
use Rattle.doc_inlines_emphasis.specs.Views.{items_of}
use Rattle.doc_inlines.proofs.ReaderLaws.{plain_moved, moved_behind, none_uncut, all_of_itself}
use Rattle.doc_inlines.proofs.RunLaws.{run_put, run_slices, run_cut}
use Rattle.doc_inlines.proofs.reader.Reader.put_run.Goals as goal

pub returns-clause-made : goal.returns-clause-made
returns-clause-made c = λ n d r.
    let f = c.in_ok-flush.ensures in
    run_put _ _ _ _ _ _ _ (ap (λ t. chars t.now) (f.plain ∙ sym f.rest)) (c.in_ok-put_run.ensures.made n d r) f.made

pub returns-clause-sound : goal.returns-clause-sound
returns-clause-sound c =
    let f = c.in_ok-flush.ensures in
    let p = ap (λ t. chars t.now) f.plain in
    let r = ap (λ t. chars t.now) f.rest in
    record {
      draft = c.in_ok-put_run.ensures.sound;
      plain = plain_moved _ _ _ _ f.sound.plain p c.requires.behind;
      rest = all_of_itself (chars c.args.rest.now);
      slices = run_slices _ _ _ _ (chars c.args.run.now) (items_of c.flush.new.self.draft.marks) _ f.sound.plain p c.requires.behind
          c.requires.stands c.in_ok-put_run.ensures.items f.sound.slices;
      cut = run_cut (chars c.args.run.now) (items_of c.flush.new.self.draft.marks) _ c.in_ok-put_run.ensures.items f.sound.cut;
      pending = none_uncut (chars c.args.rest.now);
      behind = moved_behind _ _ (chars c.args.rest.now) c.flush.new.self.draft.brackets.items _ r c.requires.behind
          c.in_ok-put_run.ensures.brackets f.sound.behind;
      backticks = f.sound.backticks;
      missing = f.sound.missing;
    }
