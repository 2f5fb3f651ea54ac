use Rattle.std.proofs.Common.{ℕ}
use Rattle.doc_server_serving.specs.Memories.{IsUntouched}
use Rattle.trial_site.proofs.serving.guests.invite_all.Given as goal

abbrev pub invariant-guests : goal.invariant-guests
invariant-guests l = (k : ℕ) → IsUntouched l.net k
