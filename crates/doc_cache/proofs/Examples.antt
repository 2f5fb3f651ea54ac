-- Caches, worked.
use Rattle.std.specs.Prelude.{◌≡◌, ℕ, List, [], ◌∷◌, Option, Some, None, Ok, Err, codes, refl}
use Rattle.doc_cache.specs.Caches.{Cached, cached, cache_of, kept, looked, text_under}
use Rattle.doc_cache.specs.declared.failure.CacheError.TheVariants.{BadCapacity}
use Rattle.doc_cache.specs.declared.key.Key.{Key}

abbrev key : ℕ → List (Option (List ℕ)) → Key
key stamp decisions = record { stamp = stamp; decisions = decisions }

-- a page whose one link leads to another page for some readers and to none for others, and the page at its next revision
abbrev seen : Key
seen = key 5 (Some (codes "b.md") ∷ [])

abbrev hidden : Key
hidden = key 5 (None ∷ [])

abbrev next : Key
next = key 6 (Some (codes "b.md") ∷ [])

-- ---- capacities

none_at_all : cache_of 0 ≡ Err BadCapacity
none_at_all = refl

one : cache_of 1 ≡ Ok (cached [] 1)
one = refl

most : cache_of 4096 ≡ Ok (cached [] 4096)
most = refl

too_many : cache_of 4097 ≡ Err BadCapacity
too_many = refl

-- ---- a cache of one text

abbrev alone : Cached
alone = kept (cached [] 1) seen (codes "x")

found : text_under alone seen ≡ Some (codes "x")
found = refl

other_decisions : text_under alone hidden ≡ None
other_decisions = refl

other_stamp : text_under alone next ≡ None
other_stamp = refl

gives_way : kept alone hidden (codes "y") ≡ cached ((hidden, codes "y") ∷ []) 1
gives_way = refl

in_place : kept alone seen (codes "y") ≡ cached ((seen, codes "y") ∷ []) 1
in_place = refl

-- ---- a cache of two

abbrev both : Cached
both = kept (kept (cached [] 2) seen (codes "x")) hidden (codes "y")

first_stands : text_under both seen ≡ Some (codes "x")
first_stands = refl

second_stands : text_under both hidden ≡ Some (codes "y")
second_stands = refl

last_in_front : both ≡ cached ((hidden, codes "y") ∷ (seen, codes "x") ∷ []) 2
last_in_front = refl

after_look : looked both seen ≡ cached ((seen, codes "x") ∷ (hidden, codes "y") ∷ []) 2
after_look = refl

look_at_nothing : looked both next ≡ both
look_at_nothing = refl

last_gives_way : kept (looked both seen) next (codes "z") ≡ cached ((next, codes "z") ∷ (seen, codes "x") ∷ []) 2
last_gives_way = refl

kept_again : kept both seen (codes "z") ≡ cached ((seen, codes "z") ∷ (hidden, codes "y") ∷ []) 2
kept_again = refl
