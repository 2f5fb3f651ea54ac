use Rattle.doc_inlines.proofs.DraftLaws.{run_made, run_open, run_of}
use Rattle.doc_inlines.proofs.draft.Draft.put_run.Goals as goal

pub returns-clause-made : goal.returns-clause-made
returns-clause-made c = λ n d r.
    run_made _ _ _ _ _ _ n d _ _ _ c.requires.sound.brackets r c.in_ok-push_run.ensures.items (c.in_ok-push_run.ensures.runs n d r.same)
    c.in_ok-push_run.ensures.sound

pub returns-clause-sound : goal.returns-clause-sound
returns-clause-sound c =
    let r = run_of _ _ c.requires.text in
    record {
      marks = c.in_ok-push_run.ensures.sound;
      brackets = run_open _ _ _ _ _ _ _ _ _ _ c.requires.sound.brackets r c.in_ok-push_run.ensures.items
          (c.in_ok-push_run.ensures.runs _ _ r.same) c.in_ok-push_run.ensures.sound;
      dead = c.requires.sound.dead;
      images = c.requires.sound.images;
    }
