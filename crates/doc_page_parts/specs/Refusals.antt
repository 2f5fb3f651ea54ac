-- What a call answers that can be refused and that memory can fail. E is the type of its refusals,
-- and `memory` the one that says 'out of memory'. All of this is this project's choice.
use Rattle.std.specs.Prelude.{◌≡◌, Result, Ok, Err}

-- The answer of the definition, or 'out of memory' where that is no refusal: memory comes last.
abbrev pub IsAnswer : {X E : Type 0} → E → Result X E → Result X E → Type 0
IsAnswer memory (Ok x) (Ok y) = y ≡ x
IsAnswer memory (Ok x) (Err e) = e ≡ memory
IsAnswer memory (Err f) (Ok y) = ⊥
IsAnswer memory (Err f) (Err e) = e ≡ f

-- The same for a call that changes a state: `given` is the state after it and its answer, by the
-- definition. A refused call changes nothing.
abbrev pub Gives : {W X E : Type 0} → E → W × Result X E → W → W → Result X E → Type 0
Gives memory given old new (Ok x) = given ≡ (new, Ok x)
Gives memory given old new (Err e) = IsAnswer memory given.1 (Err e) × (new ≡ old)
