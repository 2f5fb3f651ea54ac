-- Who takes part in a turn.
use Rattle.std.specs.Prelude.{◌≡◌, ◌==◌, ℕ, List, ◌++◌, Bool, true, false, not, ◌||◌, Option, Some, None, count_by, filter, map as mapped}
use Rattle.std.specs.BTreeMap.Range.{entries_between}
use Rattle.std.specs.FinMap as map
use Rattle.std.specs.Ordering.{nat_cmp}
use Rattle.std.specs.declared.ops.Bound.TheVariants as bounds
use Rattle.doc_server_turns.specs.Wirings.{Peer, Table}

-- a client that waits neither for the network nor for the next sweep, and isn't let go
abbrev pub takes_part : Peer → Bool
takes_part p = not (p.rests || p.starves || p.is_over)

-- the same of the client of a number, where there is one
abbrev pub takes_part_at : Option Peer → Bool
takes_part_at None = false
takes_part_at (Some p) = takes_part p

-- whether the client of a number, where there is one, is let go
abbrev pub is_over_at : Option Peer → Bool
is_over_at None = false
is_over_at (Some p) = p.is_over

-- the numbers of those of these clients that pass
abbrev pub numbers_of : (Peer → Bool) → List (ℕ × Peer) → List ℕ
numbers_of test clients = mapped (λ client. client.0) (filter (λ client. test client.1) clients)

-- the numbers of those that take part: first those from a number on, and then those below it
abbrev pub turn_of : ℕ → Table → List ℕ
turn_of first table =
    numbers_of takes_part (entries_between nat_cmp (bounds.Included first) bounds.Unbounded (map.entries table))
    ++ numbers_of takes_part (entries_between nat_cmp bounds.Unbounded (bounds.Excluded first) (map.entries table))

-- how often a number stands among these
abbrev pub times_among : List ℕ → ℕ → ℕ
times_among numbers c = count_by (λ n. n == c) numbers

-- whoever isn't among these is as before
abbrev pub StayBut : List ℕ → Table → Table → Type 0
StayBut numbers t u = (k : ℕ) → times_among numbers k ≡ 0 → map.get u k ≡ map.get t k

-- whoever takes part did before
abbrev pub NoMore : Table → Table → Type 0
NoMore t u = (k : ℕ) → takes_part_at (map.get u k) ≡ true → takes_part_at (map.get t k) ≡ true

-- whoever takes part is minded: it is known that somebody does
abbrev pub AreMinded : Table → Bool → Type 0
AreMinded table goes_on = (k : ℕ) → takes_part_at (map.get table k) ≡ true → goes_on ≡ true
