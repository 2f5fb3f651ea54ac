-- What is given with one option more.
use Rattle.std.proofs.Common.{◌≡◌, ℕ, List, [], ◌∷◌, Bool, true, false, Option, Some, None, Ok, Err, refl, ap, ◌∙◌}
use Rattle.std.specs.Prelude.{codes, Result}
use Rattle.doc_server_arguments.specs.TokenSteps.{names_behind}
use Rattle.doc_server_arguments.specs.TokenWords.{given_by}
use Rattle.doc_server_arguments.specs.Usage.{Wrong}

pub owner_more : (is_owner : Bool) (groups : Option (List ℕ)) (word : List ℕ) (words : List (List ℕ)) → word ≡ codes "--owner"
    → is_owner ≡ false
    → given_by (record { is_owner = true; groups = groups }) words
    ≡ given_by (record { is_owner = is_owner; groups = groups }) (word ∷ words)
owner_more is_owner groups word [] is none = rw (is, none) refl
owner_more is_owner groups word (next ∷ words) is none = rw (is, none) refl

-- the names that were found, and the words behind them
abbrev names_in : Result (List ℕ × List (List ℕ)) Wrong → List ℕ
names_in (Ok found) = found.0
names_in (Err wrong) = []

abbrev rest_in : Result (List ℕ × List (List ℕ)) Wrong → List (List ℕ)
rest_in (Ok found) = found.1
rest_in (Err wrong) = []

pub groups_more : (is_owner : Bool) (groups : Option (List ℕ)) (word : List ℕ) (words : List (List ℕ)) (names : List ℕ)
    (rest : List (List ℕ)) → word ≡ codes "--groups" → Ok (names, rest) ≡ names_behind word groups words
    → given_by (record { is_owner = is_owner; groups = Some names }) rest
    ≡ given_by (record { is_owner = is_owner; groups = groups }) (word ∷ words)
groups_more is_owner (Some before) word words names rest is found = absurd (cc)
groups_more is_owner None word [] names rest is found = absurd (cc)
groups_more is_owner None word (next ∷ words) names rest is found =
    ap (λ result. given_by (record { is_owner = is_owner; groups = Some (names_in result) }) (rest_in result)) found ∙ rw is refl
