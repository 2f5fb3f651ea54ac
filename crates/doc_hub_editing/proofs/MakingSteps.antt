-- A move that can be made is not refused.
use Rattle.std.proofs.Common.{◌≡◌, ℕ, List, Bool, true, false, arith, refl, Ok, Err}
use Rattle.std.specs.Prelude.{not, ◌||◌, nat_le, if◌then◌else◌}
use Rattle.std.proofs.lemmas.Bool.Decides.{nat_tests}
use Rattle.doc_store_readers.specs.Sites.{IsSite}
use Rattle.doc_store.specs.Store.{StoreState, may_move, put_limit}
use Rattle.doc_store.specs.declared.moving.MoveError.TheVariants as move_errors
use Rattle.doc_hub_people.specs.Edits.{CanMove, puts_left}

pub not_out : (puts : ℕ) (out : Bool) → nat_le put_limit puts ≡ out → puts_left puts ≡ true → out ≡ false
not_out puts true is left = grind (arith, nat_tests)
not_out puts false is left = refl

pub can_move_is_fine : (store : StoreState) (from to : List ℕ) → IsSite store.site → CanMove store from to
    → may_move store from to ≡ Ok tt
can_move_is_fine store from to site can =
    λ i. if not (can.stands i) then Err move_errors.NoPage
    else (if can.free i then Err move_errors.Taken
    else (if can.room site i || not_out store.puts _ refl can.left i then Err move_errors.StoreFull else Ok tt))
