-- One pass over the inlines gives the emphasis of the rules: what is passed is settled, and the first wrap is at the present run.
use Rattle.std.proofs.Common.{◌≡◌, ℕ, zero, suc, ◌-◌, ◌<◌, ◌≤◌, Bool, true, false, List, [], ◌∷◌, ◌++◌, refl, ap, sym, ◌∙◌, Option, Some}
use Rattle.std.proofs.Common.{None, arith}
use Rattle.std.specs.Prelude.{nat_lt, nat_le, ◌&&◌, if◌then◌else◌, flat_map}
use Rattle.std.proofs.lemmas.Bool.{ltb-true}
use Rattle.doc_rules.specs.Inlines.{Inline, Start, End, Delimiters, Run, as_text}
use Rattle.doc_rules.specs.Emphasis.{Opener, opener_of, strength, span_of, less, wrapped, wrap_first, weight, emphasis_of}
use Rattle.doc_inlines_emphasis.specs.OnePass.{kept, behind_pair, closed, passed, passed_once}
use Rattle.doc_inlines_emphasis.specs.Laws.{OnePassSuffices}
use Rattle.doc_inlines_emphasis.specs.PassSteps.{onto}
use Rattle.doc_inlines_emphasis.proofs.Settled.{AreSettled, after_test, step_here, settled_more, settled_after, between_has_no_run}
use Rattle.doc_inlines_emphasis.proofs.Wrapping.{all_wrapped, settled_stays, wrapped_more}
use Rattle.doc_inlines_emphasis.proofs.Quiet.{onto_reverse, onto_nothing, pair_onto, match_opens, found_matches, quiet, quiet_opener, quieted}
use Rattle.doc_inlines_emphasis.proofs.Quiet.{quiet_search, quiet_pair, SameText, quiet_text}

pub strong_counts : (m : Bool) → 1 ≤ (if m then 2 else 1)
strong_counts true = omega arith
strong_counts false = omega arith

-- ---- one run

-- what a run becomes, once it is known whether it has an opener
abbrev pub after_search : ℕ → Run → List Inline → Option Opener → List Inline
after_search n r before found =
    elim found [
      | None ↦ kept r ++ before
      | Some o ↦ elim (nat_lt (strength o.run r) r.left) [
        | true ↦ closed n (record r { left = r.left - strength o.run r }) (behind_pair o r.char (strength o.run r))
        | false ↦ behind_pair o r.char (strength o.run r)
      ]
    ]

pub searched : (n : ℕ) (r : Run) (before : List Inline) (found : Option Opener) → opener_of r [] before ≡ found
    → closed (suc n) r before ≡ after_search n r before found
unfolding closed
searched n r before found e = ap (after_search n r before) e

-- ---- the pass

wrapped_is : (o : Opener) (r : Run) (after : List Inline)
    → wrapped o r after ≡ onto (behind_pair o r.char (strength o.run r)) (less (strength o.run r) r ++ after)
unfolding wrapped
wrapped_is o r after =
    let n : ℕ = strength o.run r in
    sym (onto_reverse o.before (less n o.run ++ (Start (span_of r.char n) ∷ o.between ++ (End (span_of r.char n) ∷ less n r ++ after))))
    ∙ sym (pair_onto o r.char n (less n r ++ after))

settled_pair : (before : List Inline) (r : Run) (o : Opener) → AreSettled before → opener_of r [] before ≡ Some o
    → AreSettled (behind_pair o r.char (strength o.run r))
settled_pair before r o h e =
    ap (wrap_first []) (pair_onto o r.char (strength o.run r) [])
    ∙ settled_after before r o (strength o.run r) (span_of r.char (strength o.run r)) h e

-- what is left of the inlines behind a settled part passes to what wrapping makes of all
abbrev Passes : List Inline → Type 0
Passes after = (before : List Inline) → AreSettled before → SameText (passed (quiet before) after) (all_wrapped (onto before after))

-- and a run behind that part, with at most n delimiters
abbrev PassesRun : ℕ → List Inline → Type 0
PassesRun n after = (r : Run) (before : List Inline) → r.left < n → AreSettled before →
    SameText (passed (closed n r (quiet before)) after) (all_wrapped (onto before (Delimiters r ∷ after)))

passes_left : (n : ℕ) (after : List Inline) (r : Run) (before : List Inline) (k : ℕ) → 1 ≤ k → r.left < suc n → AreSettled before
    → Passes after → PassesRun n after → (m : Bool) → nat_lt k r.left ≡ m →
    SameText
    (passed (elim m [ true ↦ closed n (record r { left = r.left - k }) (quiet before) | false ↦ quiet before ]) after)
    (all_wrapped (onto before ((elim m [ true ↦ Delimiters (record r { left = r.left - k }) ∷ [] | false ↦ [] ]) ++ after)))
passes_left n after r before k one l h more again true e =
    let f : k < r.left = ltb-true k r.left e in
    again (record r { left = r.left - k }) before (omega arith) h
passes_left n after r before k one l h more again false e = more before h

passes_found : (n : ℕ) (after : List Inline) (r : Run) (before : List Inline) → r.left < suc n → AreSettled before → Passes after
    → PassesRun n after →
    (found : Option Opener) → opener_of r [] before ≡ found
    → SameText (passed (closed (suc n) r (quiet before)) after) (all_wrapped (onto before (Delimiters r ∷ after)))
unfolding quiet onto wrap_first
passes_found n after r before l h more again None e =
    ap (λ b. flat_map as_text (passed b after)) (searched n r (quiet before) None (quiet_search r [] before ∙ ap quieted e))
    ∙ more (Delimiters r ∷ before) (settled_more before (Delimiters r) h (ap (after_test before r []) e))
passes_found n after r before l h more again (Some o) e =
    let k : ℕ = strength o.run r in
    let b : List Inline = behind_pair o r.char k in
    let same : quiet b ≡ behind_pair (quiet_opener o) r.char k = quiet_pair o r.char k (between_has_no_run r [] before o tt e)
    (match_opens o.run r (found_matches r [] before o e)) in
    ap (λ b. flat_map as_text (passed b after)) (searched n r (quiet before) (Some (quiet_opener o)) (quiet_search r [] before
    ∙ ap quieted e))
    ∙ (ap (λ q. flat_map as_text (passed (elim (nat_lt k r.left) [ true ↦ closed n (record r { left = r.left - k }) q | false ↦ q ])
    after)) (sym same)
    ∙ (passes_left n after r b k (strong_counts (nat_le 2 o.run.left && nat_le 2 r.left)) l (settled_pair before r o h e) more again
    (nat_lt k r.left) refl
    ∙ (ap (λ xs. flat_map as_text (all_wrapped xs)) (sym (wrapped_is o r after))
    ∙ ap (flat_map as_text) (sym (wrapped_more (onto before (Delimiters r ∷ after)) (wrapped o r after)
    (step_here before r after o h e))))))

passes_run : (n : ℕ) (after : List Inline) → Passes after → PassesRun n after
passes_run zero after more r before l h = absurd (omega arith)
passes_run (suc n) after more r before l h =
    passes_found n after r before l h more (λ r b l h. passes_run n after more r b l h) (opener_of r [] before) refl

passes : (after : List Inline) → Passes after
unfolding passed quiet onto wrap_first
passes [] before h =
    ap (flat_map as_text) (sym (onto_nothing (quiet before)))
    ∙ (quiet_text before [] [] refl ∙ ap (flat_map as_text) (sym (settled_stays (weight (onto before [])) (onto before []) h)))
passes (Delimiters r ∷ after) before h = passes_run (suc r.left) after (λ b g. passes after b g) r before (omega arith) h
passes (x ∷ after) before h = passes after (x ∷ before) (settled_more before x h refl)

pub one_pass_suffices : OnePassSuffices
unfolding passed_once emphasis_of quiet onto wrap_first
one_pass_suffices inlines = passes inlines [] refl
