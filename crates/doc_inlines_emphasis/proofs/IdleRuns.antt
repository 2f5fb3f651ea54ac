-- To emphasis a run that may neither open nor close is no more than its text.
use Rattle.std.proofs.Common.{◌≡◌, ℕ, zero, suc, Bool, true, false, List, [], ◌∷◌, ◌++◌, replicate, reverse, refl, ap, sym, ◌∙◌}
use Rattle.std.proofs.Common.{append_assoc, None}
use Rattle.std.specs.Prelude.{◌||◌, flat_map, if◌then◌else◌}
use Rattle.std.proofs.lemmas.List.{reverse-append}
use Rattle.doc_rules.specs.Inlines.{Inline, Literal, Delimiters, Run, run_text, as_text}
use Rattle.doc_rules.specs.Emphasis.{opener_of}
use Rattle.doc_inlines_emphasis.specs.OnePass.{passed, passed_once, without_idle_runs}
use Rattle.doc_inlines_emphasis.specs.Marks.{NoRun}
use Rattle.doc_inlines_emphasis.specs.Laws.{IdleRunsAreText}
use Rattle.doc_inlines_emphasis.proofs.Settled.{after_match}
use Rattle.doc_inlines_emphasis.proofs.OnePassLaws.{one_pass_suffices}
use Rattle.doc_inlines_emphasis.proofs.Passing.{passed_none, passed_plain}
use Rattle.doc_inlines_emphasis.proofs.Walks.{no_closing, kept_text, text_first}

-- a run that may not close finds no opener
no_search : (c : Run) (between b : List Inline) → c.closes ≡ false → opener_of c between b ≡ None
unfolding opener_of
no_search c between [] e = refl
no_search c between (Delimiters k ∷ b) e = ap (after_match c between k b) (no_closing k c e) ∙ no_search c (run_text k ++ between) b e
no_search c between (x ∷ b) e = no_search c (x ∷ between) b e

literals_plain : (n c : ℕ) → NoRun (replicate n (Literal c))
literals_plain zero c = tt
literals_plain (suc n) c = literals_plain n c

text_is_plain : (r : Run) → NoRun (run_text r)
unfolding run_text
text_is_plain r = literals_plain r.left r.char

abbrev idle_text : Run → Bool → List Inline
idle_text r active = if active then Delimiters r ∷ [] else run_text r

idle_run : (r : Run) (xs before : List Inline) → ((b : List Inline) → passed b (without_idle_runs xs) ≡ passed b xs)
    → (opens closes : Bool) → r.opens ≡ opens → r.closes ≡ closes →
    passed before (idle_text r (opens || closes) ++ without_idle_runs xs) ≡ passed before (Delimiters r ∷ xs)
unfolding passed
idle_run r xs before more true closes e f = more _
idle_run r xs before more false true e f = more _
idle_run r xs before more false false e f =
    passed_plain (run_text r) before (without_idle_runs xs) (text_is_plain r)
    ∙ (ap (λ b. passed b (without_idle_runs xs)) (text_first r before)
    ∙ (more (run_text r ++ before)
    ∙ (ap (λ t. passed (t ++ before) xs) (sym (kept_text r e)) ∙ sym (passed_none before r xs (no_search r [] before f)))))

idle_passed : (xs before : List Inline) → passed before (without_idle_runs xs) ≡ passed before xs
unfolding passed without_idle_runs
idle_passed [] before = refl
idle_passed (Delimiters r ∷ xs) before = idle_run r xs before (λ b. idle_passed xs b) r.opens r.closes refl refl
idle_passed (x ∷ xs) before = idle_passed xs (x ∷ before)

pub idle_runs_are_text : IdleRunsAreText
unfolding passed_once
idle_runs_are_text inlines =
    sym (one_pass_suffices (without_idle_runs inlines)) ∙ (ap (flat_map as_text) (idle_passed inlines []) ∙ one_pass_suffices inlines)

-- one inline more
idle_append : (xs ys : List Inline) → without_idle_runs (xs ++ ys) ≡ without_idle_runs xs ++ without_idle_runs ys
unfolding without_idle_runs
idle_append [] ys = refl
idle_append (Delimiters r ∷ xs) ys =
    ap (λ t. idle_text r (r.opens || r.closes) ++ t) (idle_append xs ys)
    ∙ sym (append_assoc (idle_text r (r.opens || r.closes)) (without_idle_runs xs) (without_idle_runs ys))
idle_append (x ∷ xs) ys = ap (λ t. x ∷ t) (idle_append xs ys)

pub idle_more : (made : List Inline) (x : Inline) → without_idle_runs (reverse (x ∷ made)) ≡ without_idle_runs (reverse made)
    ++ without_idle_runs (x ∷ [])
idle_more made x =
    let e : reverse (x ∷ made) ≡ reverse made ++ (x ∷ []) = reverse-append (x ∷ []) made in
    ap without_idle_runs e ∙ idle_append (reverse made) (x ∷ [])
