-- Texts kept under keys, the one asked for or kept last in front: where there is no room, the one in front last gives way (LRU).
use Rattle.std.specs.Prelude.{ℕ, ◌-◌, Bool, ◌&&◌, ◌==◌, ltb, List, [], ◌∷◌, take, Option, Some, None, Result, Ok, Err}
use Rattle.std.specs.Prelude.{if◌then◌else◌}
use Rattle.std.specs.Cmp.Lexicographic.{pointwise}
use Rattle.std.specs.Map.{lookup, lookup_entry, remove_entry}
use Rattle.std.specs.Option.{option_eq}
use Rattle.doc_cache.specs.declared.failure.CacheError.{CacheError}
use Rattle.doc_cache.specs.declared.failure.CacheError.TheVariants.{BadCapacity}
use Rattle.doc_cache.specs.declared.key.Key.{Key}

-- the pairs of a key and a text, and how many there may be
pub record Cached : Type 0 where
  pub entries : List (Key × List ℕ)
  pub capacity : ℕ

abbrev pub cached : List (Key × List ℕ) → ℕ → Cached
cached entries capacity = record { entries = entries; capacity = capacity }

-- an empty cache of 1 to 4,096 texts (this project's choice)
abbrev pub cache_of : ℕ → Result Cached CacheError
cache_of capacity =
    if capacity == 0 then Err BadCapacity else (if ltb 4096 capacity then Err BadCapacity else Ok (cached [] capacity))

-- two keys have one stamp and the same decisions
abbrev pub same_key : Key → Key → Bool
same_key a b = a.stamp == b.stamp && pointwise (option_eq (pointwise ◌==◌)) a.decisions b.decisions

-- the text under a key
abbrev pub text_under : Cached → Key → Option (List ℕ)
text_under cache key = lookup (same_key key) cache.entries

-- pairs, with the one under a key in front where there is one
abbrev pub with_first : Option (Key × List ℕ) → Key → List (Key × List ℕ) → List (Key × List ℕ)
with_first None key entries = entries
with_first (Some pair) key entries = pair ∷ remove_entry (same_key key) entries

-- a cache after a look: the pair under the key is in front
abbrev pub looked : Cached → Key → Cached
looked cache key = cached (with_first (lookup_entry (same_key key) cache.entries) key cache.entries) cache.capacity

-- the pairs behind one that is kept, by the text that stood under its key: without that pair, or else without the last of a full cache
abbrev pub others : Option (List ℕ) → Cached → Key → List (Key × List ℕ)
others (Some text) cache key = remove_entry (same_key key) cache.entries
others None cache key = take (cache.capacity - 1) cache.entries

-- a cache after a text was kept: its pair is in front
abbrev pub kept : Cached → Key → List ℕ → Cached
kept cache key text = cached ((key, text) ∷ others (text_under cache key) cache key) cache.capacity
