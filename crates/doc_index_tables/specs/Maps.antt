-- Finite maps by numbers, by texts, and by both.
use Rattle.std.specs.Prelude.{ℕ, List, String, string_bytes, map as mapped}
use Rattle.std.specs.BTreeMap.{BTreeMap}
use Rattle.std.specs.Borrow.{Bor}
use Rattle.std.specs.FinMap as map
use Rattle.std.specs.Cmp.Lexicographic.{slice_cmp}
use Rattle.std.specs.Ordering.{nat_cmp, ordering_then}
use Rattle.std.specs.declared.cmp.Ordering.{Ordering}

abbrev pub NumberMap : Type 0 → Type 0
NumberMap X = map.FinMap nat_cmp X

-- by texts, in the order of their bytes
abbrev pub TextMap : Type 0 → Type 0
TextMap X = map.FinMap (slice_cmp nat_cmp) X

-- a text and a number after another: by text, then by number
abbrev pub pair_cmp : List ℕ × ℕ → List ℕ × ℕ → Ordering
pair_cmp x y = ordering_then (slice_cmp nat_cmp x.0 y.0) (nat_cmp x.1 y.1)

abbrev pub PairMap : Type 0 → Type 0
PairMap X = map.FinMap pair_cmp X

-- entries by the bytes of their keys
abbrev pub by_bytes : {A X : Type 0} → List (String A × X) → List (List ℕ × X)
by_bytes es = mapped (λ e. (string_bytes e.0, e.1)) es

-- the map that a `BTreeMap` of texts is
abbrev pub text_map : {A X : Type 0} → BTreeMap (String A) X → TextMap X
text_map m = map.from_entries (by_bytes m.entries)

-- entries of texts that are lent
abbrev pub shown : {X : Type 0} → List (Bor (List ℕ) × X) → List (List ℕ × X)
shown es = mapped (λ e. (e.0.now, e.1)) es
