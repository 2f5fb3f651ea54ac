-- The lower bounds: a search that fails sets one, and they hold while openers come, go, and lose delimiters.
use Rattle.std.proofs.Common.{◌≡◌, ◌≢◌, ℕ, zero, suc, ◌+◌, ◌<◌, ◌≤◌, Bool, true, false, List, [], ◌∷◌, ◌++◌, length, replicate, take, set}
use Rattle.std.proofs.Common.{refl, ap, ap₂, sym, ◌∙◌, ◌⊎◌, inl, inr, Option, Some, None, arith, min, get_or-set_other}
use Rattle.std.specs.Prelude.{◌%◌, nat_lt, ◌&&◌, ◌||◌, ◌==◌, not, if◌then◌else◌, slice_index}
use Rattle.std.proofs.Math.Nat.{mod-lt}
use Rattle.std.proofs.Math.Seq.{get_or-append_seam}
use Rattle.std.proofs.lemmas.List.{get_or-take, get_or_append_left, length-append, length-take}
use Rattle.std.proofs.lemmas.Bool.{ltb-true, ltb-false}
use Rattle.std.proofs.lemmas.Grind.{get_or-set_at}
use Rattle.std.proofs.lemmas.Bool.Decides.{eqb_tells}
use Rattle.doc_rules.specs.Inlines.{Run}
use Rattle.doc_rules.specs.Emphasis.{opens_and_closes, is_multiple_of_3, matches}
use Rattle.doc_inlines_emphasis.specs.Openers.{closer_kind, IsEmphasis, IsStrike, IsDelimiter, IsCloser, misses, MissedFrom, NearestIs, nearest, nearest_above, AreBounds, Ascend}
use Rattle.doc_inlines_emphasis.specs.Openers.{StandBefore, AllOpen, ReachTo, OpenAlike}
use Rattle.doc_inlines_emphasis.specs.Laws.{BoundsSuffice}

-- ---- kinds

-- a match, by what it asks of the closer
abbrev by_closer : Run → ℕ → Bool → Bool → Bool → Bool → Bool
by_closer o char opens closes sum own =
    ((o.char == char) && (o.opens && closes)) && (not ((opens_and_closes o || (opens && closes)) && sum) ||
    (is_multiple_of_3 o.length && own))

abbrev coded : Bool → Bool → ℕ → ℕ
coded star opens rest = (if star then 6 else 0) + ((if opens then 3 else 0) + rest)

abbrev Equal : Bool → Bool → ℕ → Bool → Bool → ℕ → Type 0
Equal a b r c d s = (a ≡ c) × (b ≡ d) × (r ≡ s)

decoded : (a b : Bool) (r : ℕ) (c d : Bool) (s : ℕ) → r < 3 → s < 3 → coded a b r ≡ coded c d s → Equal a b r c d s
decoded true true r true true s h g e = (refl, refl, omega arith)
decoded true false r true false s h g e = (refl, refl, omega arith)
decoded false true r false true s h g e = (refl, refl, omega arith)
decoded false false r false false s h g e = (refl, refl, omega arith)
decoded true true r true false s h g e = absurd (omega arith)
decoded true true r false true s h g e = absurd (omega arith)
decoded true true r false false s h g e = absurd (omega arith)
decoded true false r true true s h g e = absurd (omega arith)
decoded true false r false true s h g e = absurd (omega arith)
decoded true false r false false s h g e = absurd (omega arith)
decoded false true r true true s h g e = absurd (omega arith)
decoded false true r true false s h g e = absurd (omega arith)
decoded false true r false false s h g e = absurd (omega arith)
decoded false false r true true s h g e = absurd (omega arith)
decoded false false r true false s h g e = absurd (omega arith)
decoded false false r false true s h g e = absurd (omega arith)

same_char : (c d : ℕ) → IsEmphasis c → IsEmphasis d → (c == 42) ≡ (d == 42) → c ≡ d
same_char c d (inl p) (inl q) e = p ∙ sym q
same_char c d (inr p) (inr q) e = p ∙ sym q
same_char c d (inl p) (inr q) e = let f : (42 == 42) ≡ (95 == 42) = ap (λ n. n == 42) (sym p) ∙ (e ∙ ap (λ n. n == 42) q) in absurd cc
same_char c d (inr p) (inl q) e = let f : (95 == 42) ≡ (42 == 42) = ap (λ n. n == 42) (sym p) ∙ (e ∙ ap (λ n. n == 42) q) in absurd cc

same_sum : (o c d : ℕ) → c % 3 ≡ d % 3 → (o + c) % 3 ≡ (o + d) % 3
same_sum o c d e = omega arith

no_tilde : (c : ℕ) → IsEmphasis c → (c == 126) ≡ false
no_tilde c (inl e) = ap (λ k. k == 126) e
no_tilde c (inr e) = ap (λ k. k == 126) e

is_tilde : (c : ℕ) → c ≡ 126 → (c == 126) ≡ true
is_tilde c e = ap (λ k. k == 126) e

emphasis_match : (o c : Run) → IsEmphasis c.char →
    matches o c ≡ by_closer o c.char c.opens c.closes (is_multiple_of_3 (o.length + c.length)) (is_multiple_of_3 c.length)
unfolding matches
emphasis_match o c h =
    ap (λ m. ((o.char == c.char) && (o.opens && c.closes)) && (if m then o.length == c.length else
    (not ((opens_and_closes o || opens_and_closes c) && is_multiple_of_3 (o.length + c.length)) ||
    (is_multiple_of_3 o.length && is_multiple_of_3 c.length)))) (no_tilde c.char h)

emphasis_kind : (c : Run) → IsEmphasis c.char → closer_kind c ≡ coded (c.char == 42) c.opens (c.length % 3)
unfolding closer_kind
emphasis_kind c h =
    ap (λ m. if m then if c.length == 2 then 13 else 12 else coded (c.char == 42) c.opens (c.length % 3)) (no_tilde c.char h)

strike_match : (o c : Run) → c.char ≡ 126 → matches o c ≡ ((o.char == 126) && (o.opens && c.closes)) && (o.length == c.length)
unfolding matches
strike_match o c e =
    ap (λ k. ((o.char == k) && (o.opens && c.closes)) && (if k == 126 then o.length == c.length else
    (not ((opens_and_closes o || opens_and_closes c) && is_multiple_of_3 (o.length + c.length)) ||
    (is_multiple_of_3 o.length && is_multiple_of_3 c.length)))) e

strike_kind : (c : Run) → c.char ≡ 126 → closer_kind c ≡ (if c.length == 2 then 13 else 12)
unfolding closer_kind
strike_kind c e =
    ap (λ m. if m then if c.length == 2 then 13 else 12 else coded (c.char == 42) c.opens (c.length % 3)) (is_tilde c.char e)

same_emphasis : (o c d : Run) → c.closes ≡ d.closes → IsEmphasis c.char → IsEmphasis d.char →
    coded (c.char == 42) c.opens (c.length % 3) ≡ coded (d.char == 42) d.opens (d.length % 3) →
    by_closer o c.char c.opens c.closes (is_multiple_of_3 (o.length + c.length)) (is_multiple_of_3 c.length)
    ≡ by_closer o d.char d.opens d.closes (is_multiple_of_3 (o.length + d.length)) (is_multiple_of_3 d.length)
same_emphasis o c d closes h g e =
    let parts : Equal (c.char == 42) c.opens (c.length % 3) (d.char == 42) d.opens (d.length % 3) =
    decoded (c.char == 42) c.opens (c.length % 3) (d.char == 42) d.opens (d.length % 3) (mod-lt c.length (omega arith))
    (mod-lt d.length (omega arith)) e in
    let chars : c.char ≡ d.char = same_char c.char d.char h g parts.0 in
    let sums : is_multiple_of_3 (o.length + c.length) ≡ is_multiple_of_3 (o.length + d.length) = ap (λ n. n == 0)
    (same_sum o.length c.length d.length parts.2) in
    let owns : is_multiple_of_3 c.length ≡ is_multiple_of_3 d.length = ap (λ n. n == 0) parts.2 in
    ap (λ x. by_closer o x c.opens c.closes (is_multiple_of_3 (o.length + c.length)) (is_multiple_of_3 c.length)) chars
    ∙ (ap (λ x. by_closer o d.char x c.closes (is_multiple_of_3 (o.length + c.length)) (is_multiple_of_3 c.length)) parts.1
    ∙ (ap (λ x. by_closer o d.char d.opens x (is_multiple_of_3 (o.length + c.length)) (is_multiple_of_3 c.length)) closes
    ∙ ap₂ (λ x y. by_closer o d.char d.opens d.closes x y) sums owns))

-- one or two, by the kind
abbrev strike : ℕ → ℕ
strike n = if n == 2 then 13 else 12

same_length : (n m : ℕ) → (n ≡ 1) ⊎ (n ≡ 2) → (m ≡ 1) ⊎ (m ≡ 2) → strike n ≡ strike m → n ≡ m
same_length n m (inl p) (inl q) e = p ∙ sym q
same_length n m (inr p) (inr q) e = p ∙ sym q
same_length n m (inl p) (inr q) e =
    let f : ◌≡◌ {A = ℕ} 12 13 = ap strike (sym p) ∙ (e ∙ ap strike q) in
    absurd (omega arith)
same_length n m (inr p) (inl q) e =
    let f : ◌≡◌ {A = ℕ} 13 12 = ap strike (sym p) ∙ (e ∙ ap strike q) in
    absurd (omega arith)

below_six : (opens : Bool) (r : ℕ) → r < 3 → (if opens then 3 else 0) + r < 6
below_six true r h = omega arith
below_six false r h = omega arith

below_twelve : (star opens : Bool) (r : ℕ) → r < 3 → coded star opens r < 12
below_twelve true opens r h = let f : (if opens then 3 else 0) + r < 6 = below_six opens r h in omega arith
below_twelve false opens r h = let f : (if opens then 3 else 0) + r < 6 = below_six opens r h in omega arith

twelve_at_least : (m : Bool) → 12 ≤ (if m then 13 else 12)
twelve_at_least true = omega arith
twelve_at_least false = omega arith

-- a kind is of '~' or of the others
kinds_apart : (c d : Run) → coded (c.char == 42) c.opens (c.length % 3) ≡ (if d.length == 2 then 13 else 12) → ⊥
kinds_apart c d e =
    let f : coded (c.char == 42) c.opens (c.length % 3) < 12 = below_twelve (c.char == 42) c.opens (c.length % 3)
    (mod-lt c.length (omega arith)) in
    let g : 12 ≤ (if d.length == 2 then 13 else 12) = twelve_at_least (d.length == 2) in
    absurd (omega arith)

-- a match asks no more of a closer than its kind
pub same_kind : (o c d : Run) → IsCloser c → IsCloser d → closer_kind c ≡ closer_kind d → matches o c ≡ matches o d
same_kind o c d h g e = by h.1 g.1
  where
    closes : c.closes ≡ d.closes
    closes = h.0 ∙ sym g.0

    by : IsDelimiter c.char c.length → IsDelimiter d.char d.length → matches o c ≡ matches o d
    by (inl p) (inl q) =
        emphasis_match o c p
        ∙ (same_emphasis o c d closes p q (sym (emphasis_kind c p) ∙ (e ∙ emphasis_kind d q)) ∙ sym (emphasis_match o d q))
    by (inl p) (inr q) = absurd (kinds_apart c d (sym (emphasis_kind c p) ∙ (e ∙ strike_kind d q.0)))
    by (inr p) (inl q) = absurd (kinds_apart d c (sym (emphasis_kind d q) ∙ (sym e ∙ strike_kind c p.0)))
    by (inr p) (inr q) =
        let lengths : c.length ≡ d.length = same_length c.length d.length p.1 q.1
        (sym (strike_kind c p.0) ∙ (e ∙ strike_kind d q.0)) in
        strike_match o c p.0
        ∙ (ap₂ (λ x n. ((o.char == 126) && (o.opens && x)) && (o.length == n)) closes lengths ∙ sym (strike_match o d q.0))

abbrev by_opener : Run → ℕ → ℕ → Bool → Bool → Bool
by_opener c char size opens closes =
    ((char == c.char) && (opens && c.closes)) && (if c.char == 126 then size == c.length else
    (not (((opens && closes) || opens_and_closes c) && is_multiple_of_3 (size + c.length)) ||
    (is_multiple_of_3 size && is_multiple_of_3 c.length)))

-- and nothing of an opener that a pair changes
pub same_opener : (one other c : Run) → OpenAlike one other → matches one c ≡ matches other c
unfolding matches
same_opener one other c h =
    ap (λ x. by_opener c x one.length one.opens one.closes) h.0
    ∙ (ap (λ x. by_opener c other.char x one.opens one.closes) h.1 ∙ ap₂ (λ x y. by_opener c other.char other.length x y) h.2 h.3)

-- ---- the search

-- all are missed
pub missed_all : (runs : ℕ → Run) (openers : List ℕ) (closer : Run) (n : ℕ) → MissedFrom runs openers closer n → n ≡ 0
    → NearestIs runs openers closer None
missed_all runs openers closer n h e place least less = h place (omega arith) less

-- one more is missed
pub missed_more : (runs : ℕ → Run) (openers : List ℕ) (closer : Run) (n : ℕ) → MissedFrom runs openers closer (suc n)
    → misses runs openers closer n → MissedFrom runs openers closer n
missed_more runs openers closer n h e place least less = at (eqb_tells place n)
  where
    at : (((place == n) ≡ true) × (place ≡ n)) ⊎ (((place == n) ≡ false) × (place ≢ n)) → misses runs openers closer place
    at (inl p) = ap (λ k. matches (runs (slice_index openers k)) closer) p.1 ∙ e
    at (inr p) = let f : place ≢ n = p.1 in h place (omega arith) less

-- below the bound all are missed
pub missed_below : (bounds : List ℕ) (runs : ℕ → Run) (openers : List ℕ) (closer : Run) (n : ℕ) → AreBounds bounds runs openers
    → Ascend openers → IsCloser closer →
    MissedFrom runs openers closer (suc n) → n < length openers → slice_index openers n < slice_index bounds (closer_kind closer)
    → NearestIs runs openers closer None
missed_below bounds runs openers closer n b a c h l e place least less = at (nat_lt place n) refl
  where
    at : (m : Bool) → nat_lt place n ≡ m → misses runs openers closer place
    at true f =
        let g : place < n = ltb-true place n f in
        let k : slice_index openers place < slice_index openers n = a place n g l in
        b closer c place less (omega arith)
    at false f = let g : n ≤ place = ltb-false place n f in missed_more runs openers closer n h (b closer c n l e) place g less

nearest_at : (runs : ℕ → Run) (openers : List ℕ) (closer : Run) (n : ℕ) → MissedFrom runs openers closer (suc n) → n < length openers →
    (MissedFrom runs openers closer n → NearestIs runs openers closer (nearest runs openers closer n)) → (m : Bool)
    → matches (runs (slice_index openers n)) closer ≡ m →
    NearestIs runs openers closer (elim m [ true ↦ Some n | false ↦ nearest runs openers closer n ])
nearest_at runs openers closer n h l more true e = (l, e, h)
nearest_at runs openers closer n h l more false e = more (missed_more runs openers closer n h e)

-- what the search finds is the nearest
pub nearest_is : (runs : ℕ → Run) (openers : List ℕ) (closer : Run) (n : ℕ) → n ≤ length openers → MissedFrom runs openers closer n
    → NearestIs runs openers closer (nearest runs openers closer n)
unfolding nearest
nearest_is runs openers closer zero l h = missed_all runs openers closer 0 h refl
nearest_is runs openers closer (suc n) l h =
    nearest_at runs openers closer n h (omega arith) (λ g. nearest_is runs openers closer n (omega arith) g)
    (matches (runs (slice_index openers n)) closer) refl

none_below : (bounds : List ℕ) (runs : ℕ → Run) (openers : List ℕ) (closer : Run) (number n : ℕ) → AreBounds bounds runs openers
    → Ascend openers → IsCloser closer → n ≤ length openers →
    ((place : ℕ) → place < n → slice_index openers place < slice_index bounds (closer_kind closer)) → nearest runs openers closer n ≡ None
unfolding nearest
none_below bounds runs openers closer number zero b a c l h = refl
none_below bounds runs openers closer number (suc n) b a c l h =
    ap (λ m. elim m as (λ _. Option ℕ) [ true ↦ Some n | false ↦ nearest runs openers closer n ])
    (b closer c n (omega arith) (h n (omega arith)))
    ∙ none_below bounds runs openers closer number n b a c (omega arith) (λ place g. h place (omega arith))

bounded_at : (bounds : List ℕ) (runs : ℕ → Run) (openers : List ℕ) (closer : Run) (n : ℕ) → AreBounds bounds runs openers → Ascend openers
    → IsCloser closer → suc n ≤ length openers →
    nearest_above (slice_index bounds (closer_kind closer)) runs openers closer n ≡ nearest runs openers closer n → (m : Bool)
    → nat_lt (slice_index openers n) (slice_index bounds (closer_kind closer)) ≡ m →
    elim m as (λ _. Option ℕ) [
      | true ↦ None
      | false ↦ elim (matches (runs (slice_index openers n)) closer) as (λ _. Option ℕ)
          [ true ↦ Some n | false ↦ nearest_above (slice_index bounds (closer_kind closer)) runs openers closer n ]
    ]
    ≡ nearest runs openers closer (suc n)
unfolding nearest
bounded_at bounds runs openers closer n b a c l more true e =
    let f : slice_index openers n < slice_index bounds (closer_kind closer) = ltb-true (slice_index openers n)
    (slice_index bounds (closer_kind closer)) e in
    sym (none_below bounds runs openers closer 0 (suc n) b a c l (λ place g. below place g f (nat_lt place n) refl))
  where
    below : (place : ℕ) → place < suc n → slice_index openers n < slice_index bounds (closer_kind closer) → (m : Bool)
        → nat_lt place n ≡ m →
        slice_index openers place < slice_index bounds (closer_kind closer)
    below place g f true e = let k : place < n = ltb-true place n e in let h : slice_index openers place
        < slice_index openers n = a place n k (omega arith) in omega arith
    below place g f false e =
        let k : n ≤ place = ltb-false place n e in
        let same : place ≡ n = omega arith in
        let h : slice_index openers place ≡ slice_index openers n = ap (slice_index openers) same in
        omega arith
bounded_at bounds runs openers closer n b a c l more false e =
    ap (λ t. elim (matches (runs (slice_index openers n)) closer) as (λ _. Option ℕ) [ true ↦ Some n | false ↦ t ]) more

pub bounds_suffice : BoundsSuffice
unfolding nearest nearest_above
bounds_suffice bounds runs openers closer zero b a c l = refl
bounds_suffice bounds runs openers closer (suc n) b a c l =
    bounded_at bounds runs openers closer n b a c l (bounds_suffice bounds runs openers closer n b a c (omega arith))
    (nat_lt (slice_index openers n) (slice_index bounds (closer_kind closer))) refl

-- ---- the bounds hold

-- with no openers
pub bounds_of_none : (bounds : List ℕ) (runs : ℕ → Run) → AreBounds bounds runs []
bounds_of_none bounds runs closer c place less e = absurd (omega arith)

-- a failed search sets the bound of the closer's kind, to whatever number
pub bounds_set : (bounds : List ℕ) (runs : ℕ → Run) (openers : List ℕ) (closer : Run) (number : ℕ) → AreBounds bounds runs openers
    → IsCloser closer → NearestIs runs openers closer None →
    AreBounds (set bounds (closer_kind closer) number) runs openers
bounds_set bounds runs openers closer number b c h other o place less e = at (eqb_tells (closer_kind other) (closer_kind closer))
  where
    at : (((closer_kind other == closer_kind closer) ≡ true) × (closer_kind other ≡ closer_kind closer))
        ⊎ (((closer_kind other == closer_kind closer) ≡ false) × (closer_kind other ≢ closer_kind closer)) →
        misses runs openers other place
    at (inl p) = same_kind (runs (slice_index openers place)) other closer o c p.1 ∙ h place (omega arith) less
    at (inr p) =
        let f : slice_index (set bounds (closer_kind closer) number) (closer_kind other)
        ≡ slice_index bounds (closer_kind other) = get_or-set_other bounds (closer_kind closer) (closer_kind other) number 0 p.1 in
        b other o place less (omega arith)

-- the openers above one go
pub bounds_taken : (bounds : List ℕ) (runs : ℕ → Run) (openers : List ℕ) (n : ℕ) → AreBounds bounds runs openers
    → AreBounds bounds runs (take n openers)
bounds_taken bounds runs openers n b closer c place less e =
    let l : length (take n openers) ≡ min n (length openers) = length-take n openers in
    let f : slice_index (take n openers) place ≡ slice_index openers place = get_or-take n openers place 0 (omega arith) in
    ap (λ k. matches (runs k) closer) f ∙ b closer c place (omega arith) (omega arith)

pub last_or_before : (xs : List ℕ) (x place : ℕ) → place < length (xs ++ (x ∷ []))
    → ((place < length xs) × (slice_index (xs ++ (x ∷ [])) place ≡ slice_index xs place))
    ⊎ ((place ≡ length xs) × (slice_index (xs ++ (x ∷ [])) place ≡ x))
last_or_before xs x place h = at (nat_lt place (length xs)) refl
  where
    l : length (xs ++ (x ∷ [])) ≡ length xs + length (x ∷ [])
    l = length-append xs (x ∷ [])

    one : length (x ∷ []) ≡ 1
    one = refl

    at : (m : Bool) → nat_lt place (length xs) ≡ m → ((place < length xs) × (slice_index (xs ++ (x ∷ [])) place ≡ slice_index xs place))
        ⊎ ((place ≡ length xs) × (slice_index (xs ++ (x ∷ [])) place ≡ x))
    at true e = let f : place < length xs = ltb-true place (length xs) e in inl (f, get_or_append_left xs (x ∷ []) 0 place f)
    at false e =
        let f : length xs ≤ place = ltb-false place (length xs) e in
        let same : place ≡ length xs = omega (arith, l, one) in
        inr (same, ap (slice_index (xs ++ (x ∷ []))) same ∙ get_or-append_seam xs x [] 0)

-- a run joins that no bound is above
pub bounds_pushed : (bounds : List ℕ) (runs : ℕ → Run) (openers : List ℕ) (number : ℕ) → AreBounds bounds runs openers
    → ReachTo number bounds → AreBounds bounds runs (openers ++ (number ∷ []))
bounds_pushed bounds runs openers number b r closer c place less e = at (last_or_before openers number place less)
  where
    at : ((place < length openers) × (slice_index (openers ++ (number ∷ [])) place ≡ slice_index openers place))
        ⊎ ((place ≡ length openers) × (slice_index (openers ++ (number ∷ [])) place ≡ number)) →
        misses runs (openers ++ (number ∷ [])) closer place
    at (inl p) = let f : slice_index (openers ++ (number ∷ [])) place
        ≡ slice_index openers place = p.1 in ap (λ k. matches (runs k) closer) f ∙ b closer c place p.0 (omega arith)
    at (inr p) =
        let f : slice_index (openers ++ (number ∷ [])) place ≡ number = p.1 in
        let g : slice_index bounds (closer_kind closer) ≤ number = r (closer_kind closer) in
        absurd (omega arith)

-- pairs take delimiters
pub bounds_changed : (bounds : List ℕ) (runs next : ℕ → Run) (openers : List ℕ) → ((number : ℕ) → OpenAlike (next number) (runs number))
    → AreBounds bounds runs openers → AreBounds bounds next openers
bounds_changed bounds runs next openers same b closer c place less e =
    same_opener (next (slice_index openers place)) (runs (slice_index openers place)) closer (same (slice_index openers place))
    ∙ b closer c place less e

-- the bounds reach no further than the present run
pub reach_set : (bounds : List ℕ) (kind number : ℕ) → ReachTo number bounds → kind < length bounds → ReachTo number (set bounds kind number)
reach_set bounds kind number r l other = at (eqb_tells other kind)
  where
    at : (((other == kind) ≡ true) × (other ≡ kind)) ⊎ (((other == kind) ≡ false) × (other ≢ kind))
        → slice_index (set bounds kind number) other ≤ number
    at (inl p) =
        let f : slice_index (set bounds kind number) other ≡ number = get_or-set_at bounds kind other number 0 p.1 l in
        omega arith
    at (inr p) =
        let f : slice_index (set bounds kind number) other ≡ slice_index bounds other = get_or-set_other bounds kind other number 0 p.1 in
        let g : slice_index bounds other ≤ number = r other in
        omega arith

pub reach_further : (bounds : List ℕ) (number next : ℕ) → ReachTo number bounds → number ≤ next → ReachTo next bounds
reach_further bounds number next r l kind = let g : slice_index bounds kind ≤ number = r kind in omega arith

-- ---- the openers ascend

pub ascend_taken : (openers : List ℕ) (n : ℕ) → Ascend openers → Ascend (take n openers)
ascend_taken openers n a i j less last =
    let l : length (take n openers) ≡ min n (length openers) = length-take n openers in
    let f : slice_index (take n openers) i ≡ slice_index openers i = get_or-take n openers i 0 (omega arith) in
    let g : slice_index (take n openers) j ≡ slice_index openers j = get_or-take n openers j 0 (omega arith) in
    let h : slice_index openers i < slice_index openers j = a i j less (omega arith) in
    omega arith

pub ascend_pushed : (openers : List ℕ) (number : ℕ) → Ascend openers → StandBefore number openers → Ascend (openers ++ (number ∷ []))
ascend_pushed openers number a s i j less last = at (last_or_before openers number j last)
  where
    at : ((j < length openers) × (slice_index (openers ++ (number ∷ [])) j ≡ slice_index openers j))
        ⊎ ((j ≡ length openers) × (slice_index (openers ++ (number ∷ [])) j ≡ number)) →
        slice_index (openers ++ (number ∷ [])) i < slice_index (openers ++ (number ∷ [])) j
    at (inl p) =
        let k : j < length openers = p.0 in
        let f : slice_index (openers ++ (number ∷ [])) i ≡ slice_index openers i = get_or_append_left openers (number ∷ []) 0 i
        (omega arith) in
        let g : slice_index (openers ++ (number ∷ [])) j ≡ slice_index openers j = p.1 in
        let h : slice_index openers i < slice_index openers j = a i j less k in
        omega arith
    at (inr p) =
        let k : j ≡ length openers = p.0 in
        let f : slice_index (openers ++ (number ∷ [])) i ≡ slice_index openers i = get_or_append_left openers (number ∷ []) 0 i
        (omega arith) in
        let g : slice_index (openers ++ (number ∷ [])) j ≡ number = p.1 in
        let h : slice_index openers i < number = s i (omega arith) in
        omega arith

pub before_taken : (openers : List ℕ) (number n : ℕ) → StandBefore number openers → StandBefore number (take n openers)
before_taken openers number n s place less =
    let l : length (take n openers) ≡ min n (length openers) = length-take n openers in
    let f : slice_index (take n openers) place ≡ slice_index openers place = get_or-take n openers place 0 (omega arith) in
    let h : slice_index openers place < number = s place (omega arith) in
    omega arith

pub before_pushed : (openers : List ℕ) (number : ℕ) → StandBefore number openers → StandBefore (suc number) (openers ++ (number ∷ []))
before_pushed openers number s place less = at (last_or_before openers number place less)
  where
    at : ((place < length openers) × (slice_index (openers ++ (number ∷ [])) place ≡ slice_index openers place))
        ⊎ ((place ≡ length openers) × (slice_index (openers ++ (number ∷ [])) place ≡ number)) →
        slice_index (openers ++ (number ∷ [])) place < suc number
    at (inl p) =
        let f : slice_index (openers ++ (number ∷ [])) place ≡ slice_index openers place = p.1 in
        let h : slice_index openers place < number = s place p.0 in
        omega arith
    at (inr p) = let f : slice_index (openers ++ (number ∷ [])) place ≡ number = p.1 in omega arith

-- ---- the openers open

pub open_taken : (runs next : ℕ → Run) (openers : List ℕ) (n : ℕ) → ((number : ℕ) → OpenAlike (next number) (runs number))
    → AllOpen runs openers → AllOpen next (take n openers)
open_taken runs next openers n same h place less =
    let l : length (take n openers) ≡ min n (length openers) = length-take n openers in
    let f : slice_index (take n openers) place ≡ slice_index openers place = get_or-take n openers place 0 (omega arith) in
    ap (λ k. (next k).opens) f ∙ ((same (slice_index openers place)).2 ∙ h place (omega arith))

pub open_pushed : (runs : ℕ → Run) (openers : List ℕ) (number : ℕ) → AllOpen runs openers → (runs number).opens ≡ true
    → AllOpen runs (openers ++ (number ∷ []))
open_pushed runs openers number h e place less = at (last_or_before openers number place less)
  where
    at : ((place < length openers) × (slice_index (openers ++ (number ∷ [])) place ≡ slice_index openers place))
        ⊎ ((place ≡ length openers) × (slice_index (openers ++ (number ∷ [])) place ≡ number)) →
        (runs (slice_index (openers ++ (number ∷ [])) place)).opens ≡ true
    at (inl p) = ap (λ k. (runs k).opens) p.1 ∙ h place p.0
    at (inr p) = ap (λ k. (runs k).opens) p.1 ∙ e

-- ---- fourteen bounds

-- there are 14 kinds of closers
pub kind_below : (c : Run) → closer_kind c < 14
unfolding closer_kind
kind_below c = by (c.char == 126) (c.length == 2)
  where
    by : (m k : Bool) → (if m then if k then 13 else 12 else coded (c.char == 42) c.opens (c.length % 3)) < 14
    by true true = omega arith
    by true false = omega arith
    by false k =
        let h : coded (c.char == 42) c.opens (c.length % 3) < 12 = below_twelve (c.char == 42) c.opens (c.length % 3)
        (mod-lt c.length (omega arith)) in
        omega arith

zero_at : (n k : ℕ) → slice_index (replicate n 0) k ≡ 0
zero_at zero k = refl
zero_at (suc n) zero = refl
zero_at (suc n) (suc k) = zero_at n k

-- bounds of 0 are no higher than any run
pub reach_first : (n number : ℕ) → ReachTo number (replicate n 0)
reach_first n number kind = let e : slice_index (replicate n 0) kind ≡ 0 = zero_at n kind in omega arith
