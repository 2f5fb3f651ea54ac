-- Wrapping again and again: one wrap changes nothing in what comes out, and where nothing is left to wrap the inlines come out.
use Rattle.std.proofs.Common.{◌≡◌, ℕ, zero, suc, ◌<◌, ◌≤◌, List, [], refl, ap, sym, ◌∙◌, Option, Some, None, arith}
use Rattle.doc_rules.specs.Inlines.{Inline}
use Rattle.doc_rules.specs.Emphasis.{wrap_first, wrap_at_most, weight}
use Rattle.doc_rules.proofs.EmphasisLaws.{wrapping_leaves_fewer}

-- the inlines wrapped until no run has an opener
abbrev pub all_wrapped : List Inline → List Inline
all_wrapped inlines = wrap_at_most (weight inlines) inlines

abbrev next_of : ℕ → List Inline → Option (List Inline) → List Inline
next_of n inlines found = elim found [ None ↦ inlines | Some next ↦ wrap_at_most n next ]

-- where nothing is left to wrap
pub settled_stays : (n : ℕ) (inlines : List Inline) → wrap_first [] inlines ≡ None → wrap_at_most n inlines ≡ inlines
unfolding wrap_at_most
settled_stays zero inlines e = refl
settled_stays (suc n) inlines e = ap (next_of n inlines) e

one_more : (n : ℕ) (inlines next : List Inline) → wrap_first [] inlines ≡ Some next → wrap_at_most (suc n) inlines ≡ wrap_at_most n next
unfolding wrap_at_most
one_more n inlines next e = ap (next_of n inlines) e

both_none : (n m : ℕ) (inlines : List Inline) → weight inlines ≤ 0 → (found : Option (List Inline)) → wrap_first [] inlines ≡ found
    → wrap_at_most n inlines ≡ wrap_at_most m inlines
both_none n m inlines h None e = settled_stays n inlines e ∙ sym (settled_stays m inlines e)
both_none n m inlines h (Some next) e = let f : weight next < weight inlines = wrapping_leaves_fewer inlines next e in absurd (omega arith)

both_at : (n m : ℕ) (inlines : List Inline) → weight inlines ≤ suc n → weight inlines ≤ suc m →
    ((next : List Inline) → weight next ≤ n → weight next ≤ m → wrap_at_most n next ≡ wrap_at_most m next) →
    (found : Option (List Inline)) → wrap_first [] inlines ≡ found → wrap_at_most (suc n) inlines ≡ wrap_at_most (suc m) inlines
both_at n m inlines h g more None e = settled_stays (suc n) inlines e ∙ sym (settled_stays (suc m) inlines e)
both_at n m inlines h g more (Some next) e =
    let f : weight next < weight inlines = wrapping_leaves_fewer inlines next e in
    one_more n inlines next e ∙ (more next (omega arith) (omega arith) ∙ sym (one_more m inlines next e))

-- as often as there are delimiters is often enough
both_enough : (n m : ℕ) (inlines : List Inline) → weight inlines ≤ n → weight inlines ≤ m → wrap_at_most n inlines ≡ wrap_at_most m inlines
both_enough zero m inlines h g = both_none 0 m inlines h (wrap_first [] inlines) refl
both_enough (suc n) zero inlines h g = both_none (suc n) 0 inlines g (wrap_first [] inlines) refl
both_enough (suc n) (suc m) inlines h g = both_at n m inlines h g (λ next a b. both_enough n m next a b) (wrap_first [] inlines) refl

wrapped_by : (w : ℕ) (inlines next : List Inline) → wrap_first [] inlines ≡ Some next → weight next < w
    → wrap_at_most w inlines ≡ all_wrapped next
wrapped_by zero inlines next e h = absurd (omega arith)
wrapped_by (suc n) inlines next e h = one_more n inlines next e ∙ both_enough n (weight next) next (omega arith) (omega arith)

-- one wrap changes nothing in what comes out
pub wrapped_more : (inlines next : List Inline) → wrap_first [] inlines ≡ Some next → all_wrapped inlines ≡ all_wrapped next
wrapped_more inlines next e = wrapped_by (weight inlines) inlines next e (wrapping_leaves_fewer inlines next e)
