-- Values that are joined one by one.
use Rattle.std.proofs.Common.{◌≡◌, ℕ, List, [], ◌∷◌, ◌++◌, refl, sym, ap, ◌∙◌, append_assoc}
use Rattle.std.proofs.lemmas.List.{append-nil}
use Rattle.std.specs.Prelude.{Option, Some, None, codes}
use Rattle.std.specs.List.{flat_map}
use Rattle.doc_http.specs.Conditions.{joined_values}
use Rattle.doc_http.specs.ConditionSteps.{with_value, with_values}

-- the first of the values goes behind what is joined, and the others behind that
pub one_behind : (joined : Option (List ℕ)) (value : List ℕ) (others : List (List ℕ))
    → with_values joined (value ∷ others) ≡ with_values (Some (with_value joined value)) others
unfolding joined_values
one_behind None value others = refl
one_behind (Some before) value others =
    let behind = flat_map (λ v. codes ", " ++ v) others in
    ap Some (sym (append_assoc (before ++ codes ", ") value behind ∙ append_assoc before (codes ", ") (value ++ behind)))

pub none_behind : (joined : Option (List ℕ)) → with_values joined [] ≡ joined
unfolding joined_values
none_behind None = refl
none_behind (Some before) = ap Some (append-nil before)
