-- The first bytes of words.
use Rattle.std.specs.Prelude.{ℕ, zero, suc, ◌+◌, ◌*◌, ◌<◌, List, slice_index_or}

-- the first n bytes as one number, the first one highest; zeros stand for those that there aren't
abbrev pub front_number : ℕ → List ℕ → ℕ
front_number zero bytes = 0
front_number (suc n) bytes = front_number n bytes * 256 + slice_index_or bytes n 0

abbrev pub AreBytes : List ℕ → Type 0
AreBytes bytes = (i : ℕ) → slice_index_or bytes i 0 < 256
