-- What the calls of a device do to its file, and what a crash leaves of it.
use Rattle.std.specs.Prelude.{◌≡◌, ◌⊎◌, ℕ, ◌+◌, ◌-◌, ◌≤◌, ◌<◌, max, List, ◌++◌, length, take, drop, get_or, replicate, Option, Some, None, IfSome}
use Rattle.std.specs.List.{slice_get}
use Rattle.std.specs.Option.{option_map}
use Rattle.std.specs.Prelude.{Bool, true, false, Result, Err}
use Rattle.doc_server_journal.specs.declared.fault.LoadError.{LoadError}
use Rattle.doc_server_journal.specs.declared.fault.LoadError.TheVariants.{Failed}

-- a known file has these bytes from there on
abbrev pub Writes : Option (List ℕ) → ℕ → List ℕ → Option (List ℕ) → Type 0
Writes old at bytes new = new ≡ option_map (λ file. take at file ++ bytes ++ drop (at + length bytes) file) old

-- a known file has so many zeros more at its end
abbrev pub Grows : Option (List ℕ) → ℕ → Option (List ℕ) → Type 0
Grows old count new = new ≡ option_map (λ file. file ++ replicate count 0) old

-- After a write that a crash cuts short. A byte is never torn: each is the one that was there or the one that was written, and behind
-- the old end 0 stands for the one that was there.
pub record Torn (at : ℕ) (bytes old new : List ℕ) : Type 0 where
  pub before : take (length old) (take at new) ≡ take at old
  pub behind : drop (at + length bytes) new ≡ drop (at + length bytes) old
  pub no_shorter : length old ≤ length new
  pub no_longer : length new ≤ max (length old) (at + length bytes)
  pub each : (i : ℕ) → at ≤ i → i < at + length bytes
      → (get_or new i 0 ≡ get_or old i 0) ⊎ (get_or new i 0 ≡ get_or bytes (i - at) 0)

-- after zeros were added that a crash may cut short: some of them
abbrev pub Grown : ℕ → List ℕ → List ℕ → Type 0
Grown count old new = (n : ℕ) × (n ≤ count) × (new ≡ old ++ replicate n 0)

-- each outcome of a crash now is one from before, after this step
abbrev pub Follows : (List ℕ → List ℕ → Type 0) → (List ℕ → Type 0) → (List ℕ → Type 0) → Type 0
Follows step old new = (c : List ℕ) → new c → (d : List ℕ) × old d × step d c

-- a crash leaves the file as it is known, and nothing else
abbrev pub LeavesFile : Option (List ℕ) → (List ℕ → Type 0) → Type 0
LeavesFile known outcomes = IfSome known (λ file. (c : List ℕ) → outcomes c → c ≡ file)

-- ---- places whose bytes no sync brings to the disk

abbrev pub IsFresh : (ℕ → Type 0) → Type 0
IsFresh stale = (i : ℕ) → stale i → ⊥

-- of a known file, and of no other
abbrev pub IsPlaceOf : Option (List ℕ) → ℕ → Type 0
IsPlaceOf None i = ⊥
IsPlaceOf (Some file) i = i < length file

-- behind the end of a known file
abbrev pub IsPastEnd : Option (List ℕ) → ℕ → Type 0
IsPastEnd None i = ⊥
IsPastEnd (Some file) i = length file ≤ i

-- they are at that place or behind it
abbrev pub AreBehind : (ℕ → Type 0) → ℕ → Type 0
AreBehind stale from = (i : ℕ) → stale i → from ≤ i

-- not among so many from there on
abbrev pub IsOutside : ℕ → ℕ → ℕ → Type 0
IsOutside at count i = (i < at) ⊎ (at + count ≤ i)

-- all that a crash may leave has there what the file has as it is known
abbrev pub IsSure : Option (List ℕ) → (List ℕ → Type 0) → ℕ → Type 0
IsSure known outcomes i = IfSome known (λ file. (c : List ℕ) → outcomes c → slice_get c i ≡ slice_get file i)

-- Time goes on: a crash since t might have left what it might have left before, or what it may leave now.
pub record Elapses (before now : ℕ) (past since : ℕ → List ℕ → Type 0) (may_leave : List ℕ → Type 0) : Type 0 where
  pub later : before ≤ now
  pub nothing_else : (t : ℕ) (c : List ℕ) → t ≤ before → since t c → past t c ⊎ may_leave c
  pub keeps : (t : ℕ) (c : List ℕ) → t ≤ before → past t c → since t c

-- a crash at any moment since old leaves a file that has P
pub record LeavesOnly {D : Type 0} (moment : D → ℕ) (left_since : D → ℕ → List ℕ → Type 0) (old new : D) (P : List ℕ
    → Type 0) : Type 0 where
  pub later : moment old ≤ moment new
  pub each : (c : List ℕ) → left_since new (moment old) c → P c
  -- for a run that began earlier
  pub before : (t : ℕ) (c : List ℕ) → t ≤ moment old → left_since new t c → left_since old t c ⊎ P c

-- what was there, or that after this step
abbrev pub Stepped : (List ℕ → List ℕ → Type 0) → (List ℕ → Type 0) → List ℕ → Type 0
Stepped step old c = old c ⊎ ((d : List ℕ) × old d × step d c)

-- whether a reading failed by the device
abbrev pub is_failed : Result (List ℕ) LoadError → Bool
is_failed (Err Failed) = true
is_failed result = false
