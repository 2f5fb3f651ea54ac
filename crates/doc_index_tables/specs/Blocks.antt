-- Rows of numbers in blocks.
use Rattle.std.specs.Prelude.{◌≡◌, ◌≤◌, ◌<◌, ℕ, suc, List, [], ◌∷◌, Bool, false, not, T, drop, flat_map, length, nat_le, take, ⊤}
use Rattle.std.specs.FinMap as map
use Rattle.std.specs.FinMap.Entries.{where_key}
use Rattle.std.specs.List.{AllByRecursion}
use Rattle.std.specs.Ordering.{eq_by_cmp, nat_cmp}
use Rattle.std.specs.declared.cmp.Ordering.TheVariants.{Less, Greater}
use Rattle.doc_index_tables.specs.Maps.{NumberMap}

abbrev pub block_limit : ℕ
block_limit = 512

-- a block that stands in a row: not empty, and no larger than it may be
abbrev pub IsBlock : NumberMap ℕ → Type 0
IsBlock block = (0 < map.len block) × (map.len block ≤ block_limit)

-- the entries of blocks, one block's behind another's
abbrev pub joined : List (NumberMap ℕ) → List (ℕ × ℕ)
joined blocks = flat_map (λ block. map.entries block) blocks

-- blocks of which each one's numbers stand before those of the next
abbrev pub AreBlocks : List (NumberMap ℕ) → Type 0
AreBlocks blocks = AllByRecursion IsBlock blocks × T (map.is_sorted nat_cmp (joined blocks))

-- whether the first number is at most another
abbrev pub begins_by : ℕ → List (ℕ × ℕ) → Bool
begins_by k [] = false
begins_by k (e ∷ es) = nat_le e.0 k

-- the place of a block: each number before it is lower, and each behind it higher
abbrev pub IsPlace : ℕ → List (NumberMap ℕ) → ℕ → Type 0
IsPlace k blocks i =
    AllByRecursion (λ e. nat_cmp k e.0 ≡ Greater) (joined (take i blocks))
    × AllByRecursion (λ e. nat_cmp k e.0 ≡ Less) (joined (drop (suc i) blocks)) × (length blocks ≤ i → blocks ≡ [])

-- the entries but that of a number
abbrev pub without : ℕ → List (ℕ × ℕ) → List (ℕ × ℕ)
without k es = where_key nat_cmp (λ n. not (eq_by_cmp nat_cmp k n)) es

-- a place among the entries of blocks: within the first, or at its end, and no other is empty
abbrev pub IsStart : ℕ → List (NumberMap ℕ) → Type 0
IsStart i [] = ⊤
IsStart i (block ∷ blocks) = (i ≤ map.len block) × AllByRecursion (λ b. 0 < map.len b) blocks
