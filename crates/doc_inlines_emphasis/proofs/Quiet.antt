-- Before the present place a run that may not open is no more than its text: a search for an opener finds the same.
use Rattle.std.proofs.Common.{◌≡◌, ℕ, zero, suc, ◌+◌, ◌-◌, Bool, true, false, List, [], ◌∷◌, ◌++◌, reverse, replicate, refl, ap, sym, ◌∙◌}
use Rattle.std.proofs.Common.{subst, Option, Some, None, append_assoc, append-nil}
use Rattle.std.specs.Prelude.{nat_lt, ◌&&◌, ◌||◌, ◌==◌, not, flat_map, if◌then◌else◌}
use Rattle.std.proofs.lemmas.List.{reverse-append}
use Rattle.std.proofs.lemmas.List.Concat.{flat_map-cons}
use Rattle.doc_rules.specs.Inlines.{Inline, Literal, Start, End, Delimiters, Run, run_text, as_text}
use Rattle.doc_rules.specs.Emphasis.{Opener, fits_in_length, matches, opener_of, span_of, less}
use Rattle.doc_inlines_emphasis.specs.OnePass.{kept, behind_pair}
use Rattle.doc_inlines_emphasis.specs.PassSteps.{onto}
use Rattle.doc_inlines_emphasis.proofs.Settled.{onto_joined, after_match}
use Rattle.doc_inlines_emphasis.specs.Marks.{NoRun}

-- ---- lists put before others

pub onto_reverse : (xs b : List Inline) → onto xs b ≡ reverse xs ++ b
unfolding onto
onto_reverse [] b = refl
onto_reverse (x ∷ xs) b =
    let e : reverse (x ∷ xs) ≡ reverse xs ++ (x ∷ []) = reverse-append (x ∷ []) xs in
    onto_reverse xs (x ∷ b) ∙ (sym (append_assoc (reverse xs) (x ∷ []) b) ∙ ap (λ t. t ++ b) (sym e))

pub onto_nothing : (xs : List Inline) → onto xs [] ≡ reverse xs
onto_nothing xs = onto_reverse xs [] ∙ append-nil (reverse xs)

pub onto_onto : (xs b ys : List Inline) → onto (onto xs b) ys ≡ onto b (xs ++ ys)
unfolding onto
onto_onto [] b ys = refl
onto_onto (x ∷ xs) b ys = onto_onto xs (x ∷ b) ys

less_onto : (n : ℕ) (r : Run) (ys : List Inline) → onto (less n r) ys ≡ less n r ++ ys
unfolding onto
less_onto n r ys = at (nat_lt n r.left)
  where
    part : Bool → List Inline
    part m = elim m [ true ↦ Delimiters (record r { left = r.left - n }) ∷ [] | false ↦ [] ]

    at : (m : Bool) → onto (part m) ys ≡ part m ++ ys
    at true = refl
    at false = refl

-- what stands before a closer that was paired, and behind it
pub pair_onto : (o : Opener) (c n : ℕ) (ys : List Inline) →
    onto (behind_pair o c n) ys ≡ onto o.before (less n o.run ++ (Start (span_of c n) ∷ o.between ++ (End (span_of c n) ∷ ys)))
unfolding onto
pair_onto o c n ys =
    let z : List Inline = Start (span_of c n) ∷ (less n o.run ++ o.before) in
    let tail : List Inline = End (span_of c n) ∷ ys in
    let w : List Inline = Start (span_of c n) ∷ o.between ++ tail in
    ap (λ t. onto t tail) (sym (onto_reverse o.between z))
    ∙ (onto_onto o.between z tail ∙ (onto_joined (less n o.run) o.before w ∙ ap (onto o.before) (less_onto n o.run w)))

-- ---- matches

closed_and : (a o d y : Bool) → o ≡ false → ((a && (o && d)) && y) ≡ false
closed_and true o d y e = ap (λ z. (z && d) && y) e
closed_and false o d y e = refl

-- a run that may not open matches no closer
pub no_opening : (k c : Run) → k.opens ≡ false → matches k c ≡ false
unfolding matches
no_opening k c e =
    closed_and (k.char == c.char) k.opens c.closes (fits_in_length k c) e

pub match_opens : (k c : Run) → matches k c ≡ true → k.opens ≡ true
match_opens k c h = at k.opens refl
  where
    at : (o : Bool) → k.opens ≡ o → k.opens ≡ true
    at true e = e
    at false e = let f : matches k c ≡ false = no_opening k c e in absurd cc

match_at : (r : Run) (between : List Inline) (k : Run) (b : List Inline) (o : Opener) →
    (opener_of r (run_text k ++ between) b ≡ Some o → matches o.run r ≡ true) → (m : Bool) → matches k r ≡ m
    → after_match r between k b m ≡ Some o → matches o.run r ≡ true
match_at r between k b o more true f e =
    let same : record { between = between; run = k; before = b } ≡ o = cc in
    subst (λ (p : Opener). matches p.run r ≡ true) same f
match_at r between k b o more false f e = more e

-- what a search finds matches
pub found_matches : (r : Run) (between b : List Inline) (o : Opener) → opener_of r between b ≡ Some o → matches o.run r ≡ true
unfolding opener_of
found_matches r between [] o e = absurd cc
found_matches r between (Delimiters k ∷ b) o e = match_at r between k b o (λ f. found_matches r (run_text k ++ between) b o f)
    (matches k r) refl e
found_matches r between (x ∷ b) o e = found_matches r (x ∷ between) b o e

-- ---- text

slid : (n : ℕ) (x : Inline) (ys : List Inline) → replicate n x ++ (x ∷ ys) ≡ x ∷ (replicate n x ++ ys)
slid zero x ys = refl
slid (suc n) x ys = ap (λ t. x ∷ t) (slid n x ys)

pub text_onto : (n : ℕ) (x : Inline) (ys : List Inline) → onto (replicate n x) ys ≡ replicate n x ++ ys
unfolding onto
text_onto zero x ys = refl
text_onto (suc n) x ys = text_onto n x (x ∷ ys) ∙ slid n x ys

text_pushed : (c : Run) (n a : ℕ) (between b : List Inline)
    → opener_of c between (replicate n (Literal a) ++ b) ≡ opener_of c (replicate n (Literal a) ++ between) b
unfolding opener_of
text_pushed c zero a between b = refl
text_pushed c (suc n) a between b = text_pushed c n a (Literal a ∷ between) b ∙ ap (λ t. opener_of c t b) (slid n (Literal a) between)

pub text_stays : (n a : ℕ) (ys : List Inline) → flat_map as_text (replicate n (Literal a) ++ ys) ≡ replicate n (Literal a)
    ++ flat_map as_text ys
unfolding as_text
text_stays zero a ys = refl
text_stays (suc n) a ys = flat_map-cons as_text (Literal a) (replicate n (Literal a) ++ ys) ∙ ap (λ t. Literal a ∷ t) (text_stays n a ys)

-- ---- what stands before the present place, the runs that may not open as text

unfoldable pub quiet : List Inline → List Inline
quiet [] = []
quiet (Delimiters run ∷ before) = kept run ++ quiet before
quiet (inline ∷ before) = inline ∷ quiet before

abbrev pub quiet_opener : Opener → Opener
quiet_opener o = record { between = o.between; run = o.run; before = quiet o.before }

abbrev pub quieted : Option Opener → Option Opener
quieted None = None
quieted (Some o) = Some (quiet_opener o)

quiet_at_run : (c : Run) (between : List Inline) (k : Run) (b : List Inline) →
    opener_of c (run_text k ++ between) (quiet b) ≡ quieted (opener_of c (run_text k ++ between) b) → (m : Bool)
    → after_match c between k (quiet b) m ≡ quieted (after_match c between k b m)
quiet_at_run c between k b more true = refl
quiet_at_run c between k b more false = more

quiet_run : (c : Run) (between : List Inline) (k : Run) (b : List Inline) →
    opener_of c (run_text k ++ between) (quiet b) ≡ quieted (opener_of c (run_text k ++ between) b) → (o : Bool) → k.opens ≡ o →
    opener_of c between ((if o then Delimiters k ∷ [] else run_text k) ++ quiet b) ≡ quieted (opener_of c between (Delimiters k ∷ b))
unfolding opener_of run_text
quiet_run c between k b more true e = quiet_at_run c between k b more (matches k c)
quiet_run c between k b more false e =
    text_pushed c k.left k.char between (quiet b) ∙ (more ∙ ap (λ m. quieted (after_match c between k b m)) (sym (no_opening k c e)))

-- a search finds the same
pub quiet_search : (c : Run) (between b : List Inline) → opener_of c between (quiet b) ≡ quieted (opener_of c between b)
unfolding opener_of quiet kept
quiet_search c between [] = refl
quiet_search c between (Delimiters k ∷ b) = quiet_run c between k b (quiet_search c (run_text k ++ between) b) k.opens refl
quiet_search c between (x ∷ b) = quiet_search c (x ∷ between) b

quiet_onto : (xs b : List Inline) → NoRun xs → quiet (onto xs b) ≡ onto xs (quiet b)
unfolding onto quiet
quiet_onto [] b h = refl
quiet_onto (Delimiters r ∷ xs) b h = absurd h
quiet_onto (x ∷ xs) b h = quiet_onto xs (x ∷ b) h

quiet_less : (n : ℕ) (r : Run) (b : List Inline) → r.opens ≡ true → quiet (less n r ++ b) ≡ less n r ++ quiet b
unfolding quiet kept
quiet_less n r b e = at (nat_lt n r.left)
  where
    part : Bool → List Inline
    part m = elim m [ true ↦ Delimiters (record r { left = r.left - n }) ∷ [] | false ↦ [] ]

    at : (m : Bool) → quiet (part m ++ b) ≡ part m ++ quiet b
    at true = ap (λ o. (if o then Delimiters (record r { left = r.left - n }) ∷ [] else run_text (record r { left = r.left - n }))
        ++ quiet b) e
    at false = refl

pub quiet_pair : (o : Opener) (c n : ℕ) → NoRun o.between → o.run.opens ≡ true
    → quiet (behind_pair o c n) ≡ behind_pair (quiet_opener o) c n
unfolding quiet
quiet_pair o c n h e =
    let z : List Inline = Start (span_of c n) ∷ (less n o.run ++ o.before) in
    let y : List Inline = Start (span_of c n) ∷ (less n o.run ++ quiet o.before) in
    let inside : quiet (reverse o.between ++ z) ≡ reverse o.between ++ y =
    ap quiet (sym (onto_reverse o.between z))
    ∙ (quiet_onto o.between z h ∙ (ap (λ t. onto o.between (Start (span_of c n) ∷ t)) (quiet_less n o.run o.before e)
    ∙ onto_reverse o.between y)) in
    ap (λ t. End (span_of c n) ∷ t) inside

-- ---- the same text

-- the inlines are the same when what is left of runs and brackets is text
abbrev pub SameText : List Inline → List Inline → Type 0
SameText xs ys = flat_map as_text xs ≡ flat_map as_text ys

one_more : (x : Inline) (ys zs : List Inline) → SameText ys zs → SameText (x ∷ ys) (x ∷ zs)
one_more x ys zs e = flat_map-cons as_text x ys ∙ (ap (λ t. as_text x ++ t) e ∙ sym (flat_map-cons as_text x zs))

kept_text : (r : Run) (ys zs : List Inline) → SameText ys zs → (o : Bool)
    → SameText (onto (if o then Delimiters r ∷ [] else run_text r) ys) (Delimiters r ∷ zs)
unfolding onto as_text run_text
kept_text r ys zs e true = one_more (Delimiters r) ys zs e
kept_text r ys zs e false =
    ap (flat_map as_text) (text_onto r.left (Literal r.char) ys)
    ∙ (text_stays r.left r.char ys ∙ (ap (λ t. replicate r.left (Literal r.char) ++ t) e ∙ sym (flat_map-cons as_text (Delimiters r) zs)))

pub quiet_text : (b ys zs : List Inline) → SameText ys zs → SameText (onto (quiet b) ys) (onto b zs)
unfolding onto quiet kept
quiet_text [] ys zs e = e
quiet_text (Delimiters r ∷ b) ys zs e =
    ap (flat_map as_text) (onto_joined (kept r) (quiet b) ys)
    ∙ quiet_text b (onto (kept r) ys) (Delimiters r ∷ zs) (kept_text r ys zs e r.opens)
quiet_text (x ∷ b) ys zs e = quiet_text b (x ∷ ys) (x ∷ zs) (one_more x ys zs e)
