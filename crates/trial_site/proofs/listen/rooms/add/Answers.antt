use Rattle.trial_site.proofs.listen.rooms.add.Goals as goal

pub returns-in-Ok : goal.returns-in-Ok
returns-in-Ok g c = record {
  «open» = (_, c.in-Ok.ensures.acknowledged c.requires.open.0 (c.in-Ok-true.ensures.«open» c.requires.open.0 c.requires.open.1));
}
