use Rattle.trial_site.proofs.Nobody.{untouched_still}
use Rattle.trial_site.proofs.serving.guests.invite_all.Goals as goal

pub guests-preserved : goal.guests-preserved
guests-preserved c = untouched_still c.guests.net c.invite.new.self c.guests.invariant c.invite.ensures.came c.invite.ensures.gone c.invite.ensures.free
