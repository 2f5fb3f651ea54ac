-- One more page.
use Rattle.std.proofs.Common.{◌≡◌, List, [], ◌∷◌, ◌++◌, sym, subst}
use Rattle.std.specs.Prelude.{Option, Some, Result, Ok, Err, IfSome, OnOk}
use Rattle.std.specs.List.{All}
use Rattle.std.proofs.lemmas.List.Elements.{All-push}

all_more : {X : Type 0} (P : X → Type 0) (xs ys : List X) (x : X) → All P xs → P x → ys ≡ xs ++ x ∷ [] → All P ys
all_more P xs ys x all holds is = subst (All P) (sym is) (All-push P xs x all holds)

-- the same where growing may have found no memory
pub more_where_grown : {X E : Type 0} (P : X → Type 0) (grown : Result (Unit {0}) E) (xs ys : List X) (found : Option X) (x : X)
    → IfSome found P → found ≡ Some x → OnOk grown (ys ≡ xs ++ x ∷ []) → All P xs → OnOk grown (All P ys)
more_where_grown P (Ok unit) xs ys found x holds some is all = all_more P xs ys x all (subst (λ o. IfSome o P) some holds) is
more_where_grown P (Err e) xs ys found x holds some is all = tt
