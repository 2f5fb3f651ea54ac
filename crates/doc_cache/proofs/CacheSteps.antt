-- Steps of the proofs on caches.
use Rattle.std.proofs.Common.{◌≡◌, ℕ, ◌-◌, ◌==◌, Bool, true, false, cond, List, [], ◌∷◌, take, Contains, Option, Some, None}
use Rattle.std.proofs.Common.{option_map, Result, Ok, Err, OnOk, refl, sym, ap, ◌∙◌, ◌⊎◌, inl, inr, subst}
use Rattle.std.specs.Bool.{Decides}
use Rattle.std.specs.Cmp.{unsigned_Decides}
use Rattle.std.specs.Cmp.Lexicographic.{pointwise}
use Rattle.std.specs.Map.{lookup, lookup_entry, remove_entry}
use Rattle.std.specs.Option.{option_eq, option_map_or}
use Rattle.std.specs.Result.{is_ok}
use Rattle.std.proofs.lemmas.Bool.{and_parts, and_from}
use Rattle.std.proofs.lemmas.Slice.Eq.{slice_eq-Decides}
use Rattle.lru.specs.LruCache.{LruCache, lru_cache, promoted, put_entries}
use Rattle.lru.proofs.CallerLemmas.{Contains-lookup, Contains-lookup_entry, Contains-promoted, Contains-remove_entry, Contains-take}
use Rattle.lru.proofs.Splits.{Contains-cons}
use Rattle.doc_cache.specs.Caches.{Cached, cached, kept, looked, others, same_key, text_under, with_first}
use Rattle.doc_cache.specs.declared.key.Key.{Key}

-- ---- keys

decision-Decides : (a b : Option (List ℕ)) → Decides (option_eq (pointwise ◌==◌) a b) (a ≡ b)
decision-Decides None None = (λ _. refl, λ _. refl)
decision-Decides None (Some y) = (λ h. absurd (cc), λ h. absurd (cc))
decision-Decides (Some x) None = (λ h. absurd (cc), λ h. absurd (cc))
decision-Decides (Some x) (Some y) =
    let paths = slice_eq-Decides unsigned_Decides x y (pointwise ◌==◌ x y) refl in
    (λ h. ap Some (paths.0 h), λ e. paths.1 (cc))

-- keys that are alike are one key
pub same_key-same : (a b : Key) → same_key a b ≡ true → a ≡ b
same_key-same a b h =
    let parts = and_parts (a.stamp == b.stamp) (pointwise (option_eq (pointwise ◌==◌)) a.decisions b.decisions) h in
    let stamps : a.stamp ≡ b.stamp = (unsigned_Decides a.stamp b.stamp).0 parts.0 in
    let decisions : a.decisions ≡ b.decisions = (slice_eq-Decides decision-Decides a.decisions b.decisions _ refl).0 parts.1 in
    λ i. record { stamp = stamps i; decisions = decisions i }

pub same_key-itself : (key : Key) → same_key key key ≡ true
same_key-itself key =
    and_from (key.stamp == key.stamp) (pointwise (option_eq (pointwise ◌==◌)) key.decisions key.decisions)
    ((unsigned_Decides key.stamp key.stamp).1 refl) ((slice_eq-Decides decision-Decides key.decisions key.decisions _ refl).1 refl)

-- ---- what is found

-- the text that is found is that of the pair that is found
pub found-text : (test : Key → Bool) (pairs : List (Key × List ℕ))
    → lookup test pairs ≡ option_map (λ pair. pair.1) (lookup_entry test pairs)
found-text test [] = refl
found-text test (pair ∷ pairs) =
    elim (test pair.0) as (λ b. cond b (Some pair.1) (lookup test pairs)
    ≡ option_map (λ found. found.1) (cond b (Some pair) (lookup_entry test pairs)))
    [ true ↦ refl | false ↦ found-text test pairs ]

by_pair : (test : Key → Bool) (pairs : List (Key × List ℕ)) (o : Option (Key × List ℕ)) → lookup_entry test pairs ≡ o
    → lookup test (option_map_or (λ pair. pair ∷ remove_entry test pairs) o pairs) ≡ option_map (λ found. found.1) o
by_pair test pairs None h = found-text test pairs ∙ ap (option_map (λ pair. pair.1)) h
by_pair test pairs (Some pair) h =
    let passes = (Contains-lookup_entry test pairs pair h).1 in
    ap (λ b. cond b (Some pair.1) (lookup test (remove_entry test pairs))) passes

-- what goes to the front is still found
found-promoted : (test : Key → Bool) (pairs : List (Key × List ℕ)) → lookup test (promoted test pairs) ≡ lookup test pairs
found-promoted test pairs = by_pair test pairs (lookup_entry test pairs) refl ∙ sym (found-text test pairs)

-- ---- a look

first : (key : Key) (pairs : List (Key × List ℕ)) (o : Option (Key × List ℕ))
    → option_map_or (λ pair. pair ∷ remove_entry (same_key key) pairs) o pairs ≡ with_first o key pairs
first key pairs None = refl
first key pairs (Some pair) = refl

-- after a look the pair is promoted
promoted-looked : (cache : LruCache Key (List ℕ)) (key : Key)
    → cached (promoted (same_key key) cache.entries) cache.cap ≡ looked (cached cache.entries cache.cap) key
promoted-looked cache key = ap (λ pairs. cached pairs cache.cap) (first key cache.entries (lookup_entry (same_key key) cache.entries))

-- so the cache ends as one that was looked at, and what is found then is what stood there
pub ends-looked : (old new : LruCache Key (List ℕ)) (cache : Cached) (key : Key)
    → new ≡ lru_cache (promoted (same_key key) old.entries) old.cap → cached old.entries old.cap ≡ cache
    → cached new.entries new.cap ≡ looked cache key
ends-looked old new cache key is view =
    ap (λ now. cached now.entries now.cap) is ∙ promoted-looked old key ∙ ap (λ before. looked before key) view

pub found-looked : (old new : LruCache Key (List ℕ)) (cache : Cached) (key : Key)
    → new ≡ lru_cache (promoted (same_key key) old.entries) old.cap → cached old.entries old.cap ≡ cache
    → lookup (same_key key) new.entries ≡ text_under cache key
found-looked old new cache key is view =
    ap (λ now. lookup (same_key key) now.entries) is ∙ found-promoted (same_key key) old.entries ∙ ap (λ before. text_under before key) view

-- ---- a text that is kept

by_found : (cache : LruCache Key (List ℕ)) (key : Key) (text : List ℕ) (o : Option (Key × List ℕ))
    → lookup_entry (same_key key) cache.entries ≡ o
    → option_map_or (λ pair. (pair.0, text) ∷ remove_entry (same_key key) cache.entries) o
    ((key, text) ∷ take (cache.cap - 1) cache.entries)
    ≡ (key, text) ∷ others (option_map (λ pair. pair.1) o) (cached cache.entries cache.cap) key
by_found cache key text None h = refl
by_found cache key text (Some pair) h =
    let same = same_key-same key pair.0 (Contains-lookup_entry (same_key key) cache.entries pair h).1 in
    ap (λ other. (other, text) ∷ remove_entry (same_key key) cache.entries) (sym same)

-- what is put is kept
pub put-kept : (cache : LruCache Key (List ℕ)) (key : Key) (text : List ℕ)
    → cached (put_entries same_key cache key text) cache.cap ≡ kept (cached cache.entries cache.cap) key text
put-kept cache key text =
    ap (λ pairs. cached pairs cache.cap)
    (by_found cache key text (lookup_entry (same_key key) cache.entries) refl
    ∙ ap (λ o. (key, text) ∷ others o (cached cache.entries cache.cap) key) (sym (found-text (same_key key) cache.entries)))

pub on_ok : {X E P : Type 0} (r : Result X E) → OnOk r P → is_ok r ≡ true → P
on_ok (Ok x) p h = p
on_ok (Err e) p h = absurd (cc)

-- ---- which pairs there are

-- a text that is found stands in the cache
pub found-in : (cache : Cached) (key : Key) (text : List ℕ) → text_under cache key ≡ Some text → Contains cache.entries (key, text)
found-in cache key text h =
    let found = Contains-lookup (same_key key) cache.entries text h in
    subst (λ other. Contains cache.entries (other, text)) (sym (same_key-same key found.0 found.2)) found.1

-- a look brings no pair
pub in-looked : (cache : Cached) (key : Key) (pair : Key × List ℕ) → Contains (looked cache key).entries pair → Contains cache.entries pair
in-looked cache key pair h =
    Contains-promoted (same_key key) cache.entries pair
    (subst (λ pairs. Contains pairs pair) (sym (first key cache.entries (lookup_entry (same_key key) cache.entries))) h)

in-others : (cache : Cached) (key : Key) (pair : Key × List ℕ) (o : Option (List ℕ)) → Contains (others o cache key) pair
    → Contains cache.entries pair
in-others cache key pair (Some text) h = Contains-remove_entry (same_key key) cache.entries pair h
in-others cache key pair None h = Contains-take (cache.capacity - 1) cache.entries pair h

-- to keep a text brings its pair alone
pub in-kept : (cache : Cached) (key : Key) (text : List ℕ) (pair : Key × List ℕ) → Contains (kept cache key text).entries pair
    → ((key, text) ≡ pair) ⊎ Contains cache.entries pair
in-kept cache key text pair h =
    elim (Contains-cons (key, text) (others (text_under cache key) cache key) pair h) [
      | inl same ↦ inl same
      | inr other ↦ inr (in-others cache key pair (text_under cache key) other)
    ]
