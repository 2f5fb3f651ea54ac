-- The pass, run by run and pair by pair.
use Rattle.std.proofs.Common.{◌≡◌, ℕ, zero, suc, ◌-◌, ◌<◌, ◌≤◌, Bool, true, false, List, [], ◌∷◌, ◌++◌, refl, ap, sym, ◌∙◌, Option, Some}
use Rattle.std.proofs.Common.{None, arith, append_assoc}
use Rattle.std.specs.Prelude.{nat_lt, nat_le, ◌&&◌}
use Rattle.std.proofs.lemmas.Bool.{ltb-true}
use Rattle.doc_rules.specs.Inlines.{Inline, Delimiters, Run, run_text}
use Rattle.doc_rules.specs.Emphasis.{Opener, matches, opener_of, strength, less}
use Rattle.doc_inlines_emphasis.specs.OnePass.{kept, behind_pair, closed, passed}
use Rattle.doc_inlines_emphasis.specs.Marks.{NoRun}
use Rattle.doc_inlines_emphasis.specs.PassSteps.{onto}
use Rattle.doc_inlines_emphasis.proofs.Settled.{after_match}
use Rattle.doc_inlines_emphasis.proofs.OnePassLaws.{strong_counts, searched}

enough_left : (n m : ℕ) (r : Run) (b : List Inline) (k : ℕ) → 1 ≤ k → r.left < suc n → r.left < suc m →
    ((next : Run) (b : List Inline) → next.left < n → next.left < m → closed n next b ≡ closed m next b) → (x : Bool)
    → nat_lt k r.left ≡ x →
    elim x as (λ _. List Inline) [ true ↦ closed n (record r { left = r.left - k }) b | false ↦ b ]
    ≡ elim x as (λ _. List Inline) [ true ↦ closed m (record r { left = r.left - k }) b | false ↦ b ]
enough_left n m r b k one l g more true e = let f : k < r.left = ltb-true k r.left e in more (record r { left = r.left - k }) b
    (omega arith) (omega arith)
enough_left n m r b k one l g more false e = refl

enough_at : (n m : ℕ) (r : Run) (b : List Inline) → r.left < suc n → r.left < suc m →
    ((next : Run) (b : List Inline) → next.left < n → next.left < m → closed n next b ≡ closed m next b) →
    (found : Option Opener) → opener_of r [] b ≡ found → closed (suc n) r b ≡ closed (suc m) r b
enough_at n m r b l g more None e = searched n r b None e ∙ sym (searched m r b None e)
enough_at n m r b l g more (Some o) e =
    searched n r b (Some o) e
    ∙ (enough_left n m r (behind_pair o r.char (strength o.run r)) (strength o.run r) (strong_counts (nat_le 2 o.run.left && nat_le 2 r.left)) l g
    more (nat_lt (strength o.run r) r.left) refl
    ∙ sym (searched m r b (Some o) e))

-- as often as there are delimiters is often enough
enough : (n m : ℕ) (r : Run) (b : List Inline) → r.left < n → r.left < m → closed n r b ≡ closed m r b
enough zero m r b l g = absurd (omega arith)
enough (suc n) zero r b l g = absurd (omega arith)
enough (suc n) (suc m) r b l g = enough_at n m r b l g (λ next b l g. enough n m next b l g) (opener_of r [] b) refl

-- a run without an opener is passed
pub passed_none : (before : List Inline) (r : Run) (after : List Inline) → opener_of r [] before ≡ None
    → passed before (Delimiters r ∷ after) ≡ passed (kept r ++ before) after
unfolding passed
passed_none before r after e = ap (λ b. passed b after) (searched r.left r before None e)

some_left : (r : Run) (b after : List Inline) (k : ℕ) → 1 ≤ k → (x : Bool) → nat_lt k r.left ≡ x →
    passed (elim x as (λ _. List Inline) [ true ↦ closed r.left (record r { left = r.left - k }) b | false ↦ b ]) after
    ≡ passed b ((elim x as (λ _. List Inline) [ true ↦ Delimiters (record r { left = r.left - k }) ∷ [] | false ↦ [] ]) ++ after)
unfolding passed
some_left r b after k one true e =
    let f : k < r.left = ltb-true k r.left e in
    ap (λ t. passed t after) (enough r.left (suc (r.left - k)) (record r { left = r.left - k }) b (omega arith) (omega arith))
some_left r b after k one false e = refl

-- a run with an opener is paired with it, and what is left of it comes next
pub passed_some : (before : List Inline) (r : Run) (after : List Inline) (o : Opener) → opener_of r [] before ≡ Some o →
    passed before (Delimiters r ∷ after) ≡ passed (behind_pair o r.char (strength o.run r)) (less (strength o.run r) r ++ after)
unfolding passed
passed_some before r after o e =
    ap (λ b. passed b after) (searched r.left r before (Some o) e)
    ∙ some_left r (behind_pair o r.char (strength o.run r)) after (strength o.run r) (strong_counts (nat_le 2 o.run.left && nat_le 2 r.left))
    (nat_lt (strength o.run r) r.left) refl

-- what is no run is passed
pub passed_plain : (xs before after : List Inline) → NoRun xs → passed before (xs ++ after) ≡ passed (onto xs before) after
unfolding passed onto
passed_plain [] before after h = refl
passed_plain (Delimiters r ∷ xs) before after h = absurd h
passed_plain (x ∷ xs) before after h = passed_plain xs (x ∷ before) after h

-- ---- runs that a search goes over

-- the inlines with their runs as text
unfoldable pub texts : List Inline → List Inline
texts [] = []
texts (Delimiters run ∷ more) = run_text run ++ texts more
texts (inline ∷ more) = inline ∷ texts more

-- no run of the list opens for the closer
abbrev pub NoMatch : Run → List Inline → Type 0
NoMatch closer [] = Unit {0}
NoMatch closer (Delimiters run ∷ more) = (matches run closer ≡ false) × NoMatch closer more
NoMatch closer (inline ∷ more) = NoMatch closer more

-- a search goes over them
pub passes_over : (c : Run) (xs between b : List Inline) → NoMatch c xs
    → opener_of c between (onto xs b) ≡ opener_of c (texts xs ++ between) b
unfolding opener_of onto texts
passes_over c [] between b h = refl
passes_over c (Delimiters k ∷ xs) between b h =
    passes_over c xs between (Delimiters k ∷ b) h.1
    ∙ (ap (after_match c (texts xs ++ between) k b) h.0 ∙ ap (λ t. opener_of c t b) (sym (append_assoc (run_text k) (texts xs) between)))
passes_over c (x ∷ xs) between b h = passes_over c xs between (x ∷ b) h
