-- Laws of caches; the proofs are in proofs/.
use Rattle.std.specs.Prelude.{◌≡◌, ℕ, ◌<◌, ◌≤◌, List, length, Some, IfOk}
use Rattle.doc_cache.specs.Caches.{Cached, cache_of, kept, looked, text_under}
use Rattle.doc_cache.specs.declared.key.Key.{Key}

-- no more texts than the capacity, which is 1 to 4,096
abbrev pub IsWithin : Cached → Type 0
IsWithin cache = (length cache.entries ≤ cache.capacity) × (0 < cache.capacity) × (cache.capacity ≤ 4096)

-- this holds of a cache as it is made, and then after each look and each text that is kept
abbrev pub CachesStayWithin : Type 0
CachesStayWithin =
    ((capacity : ℕ) → IfOk (cache_of capacity) IsWithin)
    × ((cache : Cached) (key : Key) → IsWithin cache → IsWithin (looked cache key))
    × ((cache : Cached) (key : Key) (text : List ℕ) → IsWithin cache → IsWithin (kept cache key text))

-- a text that was just kept stands under its key
abbrev pub KeptTextsAreFound : Type 0
KeptTextsAreFound = (cache : Cached) (key : Key) (text : List ℕ) → text_under (kept cache key text) key ≡ Some text
