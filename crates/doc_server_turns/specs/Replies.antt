-- The replies of a client, and its stages.
use Rattle.std.specs.Prelude.{◌≡◌, ⊤, ℕ, List, [], ◌∷◌, ◌++◌, Bool, true, false, drop, flat_map}
use Rattle.doc_server_turns.specs.declared.stage.Stage.{Stage}
use Rattle.doc_server_turns.specs.declared.stage.Stage.TheVariants as stages

-- what is left of replies, of whose first so many bytes were handed over
abbrev pub left_of : ℕ → List (List ℕ) → List ℕ
left_of sent [] = []
left_of sent (reply ∷ more) = drop sent reply ++ flat_map (λ r. r) more

-- where there is no reply, none of its bytes was
abbrev pub Starts : ℕ → List (List ℕ) → Type 0
Starts sent [] = sent ≡ 0
Starts sent (reply ∷ more) = ⊤

-- whether the connection is still the client's
abbrev pub is_open_in : Stage → Bool
is_open_in stages.Reads = true
is_open_in stages.Steps = true
is_open_in other = false

-- whether what was read holds no further request
abbrev pub is_reading_in : Stage → Bool
is_reading_in stages.Reads = true
is_reading_in other = false

-- whether it does nothing any more, and is let go
abbrev pub is_over_in : Stage → Bool
is_over_in stages.Over = true
is_over_in other = false

-- from how many pending bytes on a client takes no further step; this project's choice
unfoldable pub most_pending : ℕ
most_pending = 262144
