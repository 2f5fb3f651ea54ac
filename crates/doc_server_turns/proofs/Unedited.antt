-- What leaves a hub unedited.
use Rattle.std.proofs.Common.{◌≡◌, Bool, true, false, sym, subst}
use Rattle.doc_server_network.specs.Saved.{IsAllSaved, IsUnedited}
use Rattle.doc_server_network.specs.declared.saved_hub.SavedHub.{SavedHub}

pub no_yes : (b : Bool) → b ≡ false → b ≡ true → ⊥
no_yes false off on = cc
no_yes true off on = cc

-- where all was saved nothing is written
pub unedited_settled : {D R : Type 0} (old mid new : SavedHub D R) → IsUnedited old mid → (IsAllSaved mid → new ≡ mid) → IsAllSaved mid
    → IsUnedited old new
unedited_settled old mid new is rests all = subst (IsUnedited old) (sym (rests all)) is
