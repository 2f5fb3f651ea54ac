-- The laws of caches.
use Rattle.std.proofs.Common.{◌≡◌, ℕ, suc, ◌-◌, ◌≤◌, ◌==◌, Bool, true, false, cond, ltb, List, [], ◌∷◌, length, Option, Some}
use Rattle.std.proofs.Common.{None, option_map, Ok, Err, IfOk, refl, ap, ◌∙◌, arith}
use Rattle.std.specs.Map.{lookup, lookup_entry, remove_entry}
use Rattle.std.proofs.lemmas.Bool.{cond_both}
use Rattle.std.proofs.lemmas.Bool.Decides.{nat_tests}
use Rattle.std.proofs.lemmas.List.{length-take}
use Rattle.doc_cache.specs.Caches.{Cached, cached, cache_of, kept, looked, others, same_key, text_under, with_first}
use Rattle.doc_cache.specs.Laws.{IsWithin, CachesStayWithin, KeptTextsAreFound}
use Rattle.doc_cache.specs.declared.failure.CacheError.TheVariants.{BadCapacity}
use Rattle.doc_cache.specs.declared.key.Key.{Key}
use Rattle.doc_cache.proofs.CacheSteps.{found-text, same_key-itself}

made : (capacity : ℕ) → IfOk (cache_of capacity) IsWithin
made capacity =
    cond_both (capacity == 0) (Err BadCapacity) (cond (ltb 4096 capacity) (Err BadCapacity) (Ok (cached [] capacity)))
    (λ r. IfOk r IsWithin) (λ _. tt)
    (λ some. cond_both (ltb 4096 capacity) (Err BadCapacity) (Ok (cached [] capacity)) (λ r. IfOk r IsWithin)
    (λ _. tt)
    (λ few. (grind (arith, nat_tests), grind (arith, nat_tests), grind (arith, nat_tests))))

-- without the pair that is found there is one fewer
length-removed : (test : Key → Bool) (pairs : List (Key × List ℕ)) (text : List ℕ) → lookup test pairs ≡ Some text
    → suc (length (remove_entry test pairs)) ≡ length pairs
length-removed test [] text h = absurd (cc)
length-removed test (pair ∷ pairs) text h =
    elim (test pair.0) as (λ b. cond b (Some pair.1) (lookup test pairs) ≡ Some text
    → suc (length (cond b pairs (pair ∷ remove_entry test pairs))) ≡ suc (length pairs)) [
      | true ↦ λ _. refl
      | false ↦ λ found. ap suc (length-removed test pairs text found)
    ] h

length-first : (key : Key) (pairs : List (Key × List ℕ)) (o : Option (Key × List ℕ)) → lookup_entry (same_key key) pairs ≡ o
    → length (with_first o key pairs) ≡ length pairs
length-first key pairs None h = refl
length-first key pairs (Some pair) h =
    length-removed (same_key key) pairs pair.1 (found-text (same_key key) pairs ∙ ap (option_map (λ found. found.1)) h)

after_look : (cache : Cached) (key : Key) → IsWithin cache → IsWithin (looked cache key)
after_look cache key within =
    let same = length-first key cache.entries (lookup_entry (same_key key) cache.entries) refl in
    (omega (arith, same, within.0), within.1, within.2)

length-kept : (cache : Cached) (key : Key) (o : Option (List ℕ)) → text_under cache key ≡ o → IsWithin cache
    → suc (length (others o cache key)) ≤ cache.capacity
length-kept cache key (Some text) h within =
    let fewer = length-removed (same_key key) cache.entries text h in
    omega (arith, fewer, within.0)
length-kept cache key None h within = omega (arith, length-take (cache.capacity - 1) cache.entries, within.1)

after_kept : (cache : Cached) (key : Key) (text : List ℕ) → IsWithin cache → IsWithin (kept cache key text)
after_kept cache key text within = (length-kept cache key (text_under cache key) refl within, within.1, within.2)

pub caches_stay_within : CachesStayWithin
caches_stay_within = (made, after_look, after_kept)

pub kept_texts_are_found : KeptTextsAreFound
kept_texts_are_found cache key text =
    ap (λ b. cond b (Some text) (lookup (same_key key) (others (text_under cache key) cache key))) (same_key-itself key)
