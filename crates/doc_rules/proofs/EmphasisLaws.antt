-- Wrapping leaves fewer delimiters, and so it ends.
use Rattle.std.proofs.Common.{◌≡◌, ℕ, zero, suc, ◌+◌, ◌-◌, ◌<◌, ◌≤◌, Bool, true, false, List, [], ◌∷◌, ◌++◌, reverse, replicate, refl, ap}
use Rattle.std.proofs.Common.{subst, Option, Some, None, arith}
use Rattle.std.specs.Prelude.{nat_lt, nat_le, if◌then◌else◌, ◌&&◌}
use Rattle.std.proofs.lemmas.List.{reverse-append}
use Rattle.std.proofs.lemmas.Bool.{ltb-true}
use Rattle.doc_rules.specs.Inlines.{Inline, Literal, Start, End, Delimiters, Run, Span, run_text}
use Rattle.doc_rules.specs.Emphasis.{Opener, matches, opener_of, strength, span_of, less, wrapped, wrap_first, wrap_at_most, weight}
use Rattle.doc_rules.specs.Laws.{WrappingLeavesFewer, WrappingEnds}

weight_append : (xs ys : List Inline) → weight (xs ++ ys) ≡ weight xs + weight ys
unfolding weight
weight_append [] ys = omega arith
weight_append (Delimiters r ∷ xs) ys = let e : weight (xs ++ ys) ≡ weight xs + weight ys = weight_append xs ys in omega arith
weight_append (x ∷ xs) ys = weight_append xs ys

weight_cons : (x : Inline) (xs : List Inline) → weight (x ∷ xs) ≡ weight (x ∷ []) + weight xs
weight_cons x xs = weight_append (x ∷ []) xs

weight_reverse : (xs : List Inline) → weight (reverse xs) ≡ weight xs
weight_reverse [] = refl
weight_reverse (x ∷ xs) =
    let e : weight (reverse (x ∷ xs)) ≡ weight (reverse xs ++ (x ∷ [])) = ap weight (reverse-append (x ∷ []) xs) in
    let a : weight (reverse xs ++ (x ∷ [])) ≡ weight (reverse xs) + weight (x ∷ []) = weight_append (reverse xs) (x ∷ []) in
    let f : weight (reverse xs) ≡ weight xs = weight_reverse xs in
    let c : weight (x ∷ xs) ≡ weight (x ∷ []) + weight xs = weight_cons x xs in
    omega arith

text_weightless : (n c : ℕ) (xs : List Inline) → weight (replicate n (Literal c) ++ xs) ≡ weight xs
unfolding weight
text_weightless zero c xs = refl
text_weightless (suc n) c xs = text_weightless n c xs

run_weightless : (r : Run) (xs : List Inline) → weight (run_text r ++ xs) ≡ weight xs
unfolding run_text
run_weightless r xs = text_weightless r.left r.char xs

-- what a search finds weighs no more than what it looked at
abbrev Fits : List Inline → List Inline → Opener → Type 0
Fits between b o = weight o.between + (suc o.run.left + weight o.before) ≤ weight between + weight b

abbrev chosen : Run → List Inline → Run → List Inline → Bool → Option Opener
chosen r between k b m = elim m [
  | true ↦ Some (record { between = between; run = k; before = b })
  | false ↦ opener_of r
      (run_text k ++ between) b
]

fits_at_run : (r : Run) (between : List Inline) (k : Run) (b : List Inline) (o : Opener) →
    (opener_of r (run_text k ++ between) b ≡ Some o → Fits (run_text k ++ between) b o) → (m : Bool) → chosen r between k b m ≡ Some o
    → Fits between (Delimiters k ∷ b) o
unfolding weight
fits_at_run r between k b o more true e =
    let same : record { between = between; run = k; before = b } ≡ o = cc in
    let here : weight between + (suc k.left + weight b) ≤ weight between + (suc k.left + weight b) = omega arith in
    subst (λ (p : Opener). Fits between (Delimiters k ∷ b) p) same here
fits_at_run r between k b o more false e =
    let h : Fits (run_text k ++ between) b o = more e in
    let w : weight (run_text k ++ between) ≡ weight between = run_weightless k between in
    omega arith

opener_fits : (r : Run) (between b : List Inline) (o : Opener) → opener_of r between b ≡ Some o → Fits between b o
unfolding opener_of weight
opener_fits r between [] o e = absurd cc
opener_fits r between (Delimiters k ∷ b) o e = fits_at_run r between k b o (λ f. opener_fits r (run_text k ++ between) b o f) (matches k r)
    e
opener_fits r between (x ∷ b) o e = opener_fits r (x ∷ between) b o e

-- a run with n fewer weighs no more than what was left of it
less_fits : (n : ℕ) (r : Run) → 1 ≤ n → (m : Bool) → nat_lt n r.left ≡ m
    → weight (elim m [ true ↦ Delimiters (record r { left = r.left - n }) ∷ [] | false ↦ [] ]) ≤ r.left
unfolding weight
less_fits n r h true e = let f : n < r.left = ltb-true n r.left e in omega arith
less_fits n r h false e = omega arith

-- one or two delimiters are one at least
pub strong_counts : (m : Bool) → 1 ≤ (if m then 2 else 1)
strong_counts true = omega arith
strong_counts false = omega arith

wrapped_weighs : (o : Opener) (r : Run) (after : List Inline) (n : ℕ) (s : Span) → 1 ≤ n →
    weight (reverse o.before ++ (less n o.run ++ (Start s ∷ o.between ++ (End s ∷ less n r ++ after))))
    < (weight o.between + (suc o.run.left + weight o.before)) + (suc r.left + weight after)
unfolding weight
wrapped_weighs o r after n s h =
    let a : weight (reverse o.before ++ (less n o.run ++ (Start s ∷ o.between ++ (End s ∷ less n r ++ after))))
    ≡ weight (reverse o.before) + weight (less n o.run ++ (Start s ∷ o.between ++ (End s ∷ less n r ++ after))) = weight_append
    (reverse o.before) (less n o.run ++ (Start s ∷ o.between ++ (End s ∷ less n r ++ after))) in
    let b : weight (less n o.run ++ (Start s ∷ o.between ++ (End s ∷ less n r ++ after)))
    ≡ weight (less n o.run) + weight (o.between ++ (End s ∷ less n r ++ after)) = weight_append (less n o.run)
    (Start s ∷ o.between ++ (End s ∷ less n r ++ after)) in
    let c : weight (o.between ++ (End s ∷ less n r ++ after)) ≡ weight o.between + weight (less n r ++ after) = weight_append o.between
    (End s ∷ less n r ++ after) in
    let d : weight (less n r ++ after) ≡ weight (less n r) + weight after = weight_append (less n r) after in
    let e : weight (reverse o.before) ≡ weight o.before = weight_reverse o.before in
    let f : weight (less n o.run) ≤ o.run.left = less_fits n o.run h (nat_lt n o.run.left) refl in
    let g : weight (less n r) ≤ r.left = less_fits n r h (nat_lt n r.left) refl in
    omega arith

abbrev at_run : List Inline → Run → List Inline → Option Opener → Option (List Inline)
at_run before r after found = elim found [ Some o ↦ Some (wrapped o r after) | None ↦ wrap_first (Delimiters r ∷ before) after ]

wraps_at_run : (before : List Inline) (r : Run) (after next : List Inline) →
    (wrap_first (Delimiters r ∷ before) after ≡ Some next → weight next < weight (Delimiters r ∷ before) + weight after) →
    (found : Option Opener) → opener_of r [] before ≡ found → at_run before r after found ≡ Some next
    → weight next < weight before + weight (Delimiters r ∷ after)
unfolding weight wrapped
wraps_at_run before r after next more (Some o) f e =
    let same : wrapped o r after ≡ next = cc in
    let h : Fits [] before o = opener_fits r [] before o f in
    let w : weight (wrapped o r after) < (weight o.between + (suc o.run.left + weight o.before)) + (suc r.left + weight after) =
    wrapped_weighs o r after (strength o.run r) (span_of r.char (strength o.run r))
    (strong_counts (nat_le 2 o.run.left && nat_le 2 r.left)) in
    let here : weight (wrapped o r after) < weight before + (suc r.left + weight after) = omega arith in
    subst (λ ys. weight ys < weight before + (suc r.left + weight after)) same here
wraps_at_run before r after next more None f e =
    let h : weight next < (suc r.left + weight before) + weight after = more e in
    omega arith

leaves_fewer : (before inlines next : List Inline) → wrap_first before inlines ≡ Some next → weight next < weight before + weight inlines
unfolding wrap_first weight
leaves_fewer before [] next e = absurd cc
leaves_fewer before (Delimiters r ∷ after) next e = wraps_at_run before r after next
    (λ f. leaves_fewer (Delimiters r ∷ before) after next f) (opener_of r [] before) refl e
leaves_fewer before (x ∷ after) next e = leaves_fewer (x ∷ before) after next e

pub wrapping_leaves_fewer : WrappingLeavesFewer
unfolding weight
wrapping_leaves_fewer inlines next e = let h : weight next < 0 + weight inlines = leaves_fewer [] inlines next e in omega arith

abbrev next_of : ℕ → List Inline → Option (List Inline) → List Inline
next_of n inlines found = elim found [ None ↦ inlines | Some next ↦ wrap_at_most n next ]

ends_at : (n : ℕ) (inlines : List Inline) → weight inlines ≤ suc n →
    ((next : List Inline) → weight next ≤ n → wrap_first [] (wrap_at_most n next) ≡ None) →
    (found : Option (List Inline)) → wrap_first [] inlines ≡ found → wrap_first [] (next_of n inlines found) ≡ None
ends_at n inlines h more None e = e
ends_at n inlines h more (Some next) e = let f : weight next < weight inlines = wrapping_leaves_fewer inlines next e in more next
    (omega arith)

ends_at_zero : (inlines : List Inline) → weight inlines ≤ 0 → (found : Option (List Inline)) → wrap_first [] inlines ≡ found
    → wrap_first [] inlines ≡ None
ends_at_zero inlines h None e = e
ends_at_zero inlines h (Some next) e = let f : weight next < weight inlines = wrapping_leaves_fewer inlines next e in absurd (omega arith)

ends_within : (n : ℕ) (inlines : List Inline) → weight inlines ≤ n → wrap_first [] (wrap_at_most n inlines) ≡ None
unfolding wrap_at_most
ends_within zero inlines h = ends_at_zero inlines h (wrap_first [] inlines) refl
ends_within (suc n) inlines h = ends_at n inlines h (λ next f. ends_within n next f) (wrap_first [] inlines) refl

pub wrapping_ends : WrappingEnds
wrapping_ends inlines = ends_within (weight inlines) inlines (omega arith)
