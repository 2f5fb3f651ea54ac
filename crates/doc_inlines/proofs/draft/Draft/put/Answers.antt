use Rattle.doc_inlines.proofs.DraftLaws.{put_made, put_open}
use Rattle.doc_inlines.proofs.draft.Draft.put.Goals as goal

pub returns-clause-made : goal.returns-clause-made
returns-clause-made c = put_made _ _ _ _ _ _ _ c.requires.brackets c.in_ok-push.ensures.items c.in_ok-push.ensures.runs

pub returns-clause-sound : goal.returns-clause-sound
returns-clause-sound c = record {
  marks = c.in_ok-push.ensures.sound;
  brackets = put_open _ _ _ _ _ _ c.requires.brackets c.in_ok-push.ensures.items c.in_ok-push.ensures.runs;
  dead = c.requires.dead;
  images = c.requires.images;
}
