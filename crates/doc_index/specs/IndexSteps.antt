-- How the order and the postings of an index agree with its slots.
use Rattle.std.specs.Prelude.{◌≡◌, ◌<◌, ℕ, List, Option, Some, None, length, map as mapped}
use Rattle.std.specs.FinMap as map
use Rattle.std.specs.declared.cmp.Ordering.{Ordering}
use Rattle.std.specs.declared.cmp.Ordering.TheVariants.{Less}
use Rattle.doc_index.specs.declared.held.Held.{Held}
use Rattle.doc_index.specs.Held.{AreApart, count_in, entries_of, held, slot_at}
use Rattle.doc_index_tables.specs.Maps.{pair_cmp}
use Rattle.doc_index_tables.specs.TableSteps.{NumberTable, number_at}

-- how the path and the stamp of a page compare with others: where there is no page, as less
abbrev pub compared : {T : Type 0} → Option (Held T) → List ℕ × ℕ → Ordering
compared None pair = Less
compared (Some page) pair = pair_cmp (page.path, page.stamp) pair

pub record IsIndex {T : Type 0} (last : ℕ) (slots : List (Option (Held T))) (order : List ℕ) (postings : NumberTable) : Type 0 where
  -- no page has a slot after the last
  pub within : (i : ℕ) → last < i → slot_at slots i ≡ None
  -- no two pages have the same path and stamp
  pub apart : AreApart slots
  -- what the pages of the order's slots are known for is what is held, in its order
  pub ordered : entries_of (mapped (slot_at slots) order) ≡ map.entries (held slots)
  -- as many slots stand in the order as pages are held
  pub count : length order ≡ map.len (held slots)
  -- a key has under a slot the count that its page has
  pub counted : (key : List ℕ) (i : ℕ) → number_at postings key i ≡ count_in (slot_at slots i) key
