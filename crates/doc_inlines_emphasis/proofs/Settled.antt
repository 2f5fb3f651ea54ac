-- Emphasis in one pass: the inlines before the present place are settled (none of their runs has an opener), and the next wrap is at the
-- present run. So one pass over the inlines wraps what wrapping the first pair again and again wraps.
use Rattle.std.proofs.Common.{◌≡◌, ℕ, zero, suc, ◌-◌, Bool, true, false, List, [], ◌∷◌, ◌++◌, refl, ap, sym, ◌∙◌, Option, Some, None, subst}
use Rattle.std.proofs.Common.{replicate}
use Rattle.std.specs.Prelude.{nat_lt}
use Rattle.doc_rules.specs.Inlines.{Inline, Literal, Code, Raw, Reference, SoftBreak, HardBreak, Start, End, Delimiters, Open, Run, Span}
use Rattle.doc_rules.specs.Inlines.{run_text}
use Rattle.doc_inlines_emphasis.specs.Marks.{NoRun}
use Rattle.doc_inlines_emphasis.specs.PassSteps.{onto}
use Rattle.doc_rules.specs.Emphasis.{Opener, matches, opener_of, wrapped, wrap_first, less}

-- no run of xs has an opener, with b before it
abbrev pub IsSettled : List Inline → List Inline → Type 0
IsSettled b xs = wrap_first b xs ≡ None

-- what one step does at a run, once it is known whether it has an opener
abbrev pub after_test : List Inline → Run → List Inline → Option Opener → Option (List Inline)
after_test b r ys o = elim o [ Some p ↦ Some (wrapped p r ys) | None ↦ wrap_first (Delimiters r ∷ b) ys ]

pub no_opener : (b : List Inline) (r : Run) (xs : List Inline) → IsSettled b (Delimiters r ∷ xs) → opener_of r [] b ≡ None
unfolding wrap_first
no_opener b r xs e = go (opener_of r [] b) refl
  where
    go : (o : Option Opener) → opener_of r [] b ≡ o → opener_of r [] b ≡ None
    go None f = f
    go (Some p) f = let g : after_test b r xs (Some p) ≡ None = ap (after_test b r xs) (sym f) ∙ e in cc

settled_rest : (b : List Inline) (r : Run) (xs : List Inline) → IsSettled b (Delimiters r ∷ xs) → IsSettled (Delimiters r ∷ b) xs
unfolding wrap_first
settled_rest b r xs e = ap (after_test b r xs) (sym (no_opener b r xs e)) ∙ e

passes : (b : List Inline) (r : Run) (ys : List Inline) → opener_of r [] b ≡ None
    → wrap_first b (Delimiters r ∷ ys) ≡ wrap_first (Delimiters r ∷ b) ys
unfolding wrap_first
passes b r ys e = ap (after_test b r ys) e

-- a settled part is passed over
pub settled_past : (b xs ys : List Inline) → IsSettled b xs → wrap_first b (xs ++ ys) ≡ wrap_first (onto xs b) ys
unfolding wrap_first onto
settled_past b [] ys e = refl
settled_past b (Delimiters r ∷ xs) ys e = passes b r (xs ++ ys) (no_opener b r xs e)
    ∙ settled_past (Delimiters r ∷ b) xs ys (settled_rest b r xs e)
settled_past b (Literal t ∷ xs) ys e = settled_past (Literal t ∷ b) xs ys e
settled_past b (Code t ∷ xs) ys e = settled_past (Code t ∷ b) xs ys e
settled_past b (Raw t ∷ xs) ys e = settled_past (Raw t ∷ b) xs ys e
settled_past b (Reference u t ∷ xs) ys e = settled_past (Reference u t ∷ b) xs ys e
settled_past b (SoftBreak ∷ xs) ys e = settled_past (SoftBreak ∷ b) xs ys e
settled_past b (HardBreak ∷ xs) ys e = settled_past (HardBreak ∷ b) xs ys e
settled_past b (Start s ∷ xs) ys e = settled_past (Start s ∷ b) xs ys e
settled_past b (End s ∷ xs) ys e = settled_past (End s ∷ b) xs ys e
settled_past b (Open k ∷ xs) ys e = settled_past (Open k ∷ b) xs ys e

-- ---- after a pair is wrapped

-- texts settle
no_run_settles : (b xs ys : List Inline) → NoRun xs → wrap_first b (xs ++ ys) ≡ wrap_first (onto xs b) ys
unfolding wrap_first onto
no_run_settles b [] ys e = refl
no_run_settles b (Delimiters r ∷ xs) ys e = absurd e
no_run_settles b (Literal t ∷ xs) ys e = no_run_settles (Literal t ∷ b) xs ys e
no_run_settles b (Code t ∷ xs) ys e = no_run_settles (Code t ∷ b) xs ys e
no_run_settles b (Raw t ∷ xs) ys e = no_run_settles (Raw t ∷ b) xs ys e
no_run_settles b (Reference u t ∷ xs) ys e = no_run_settles (Reference u t ∷ b) xs ys e
no_run_settles b (SoftBreak ∷ xs) ys e = no_run_settles (SoftBreak ∷ b) xs ys e
no_run_settles b (HardBreak ∷ xs) ys e = no_run_settles (HardBreak ∷ b) xs ys e
no_run_settles b (Start s ∷ xs) ys e = no_run_settles (Start s ∷ b) xs ys e
no_run_settles b (End s ∷ xs) ys e = no_run_settles (End s ∷ b) xs ys e
no_run_settles b (Open k ∷ xs) ys e = no_run_settles (Open k ∷ b) xs ys e

abbrev pub after_match : Run → List Inline → Run → List Inline → Bool → Option Opener
after_match r between k b m = elim m [
  | true ↦ Some (record { between = between; run = k; before = b })
  | false ↦ opener_of r
      (run_text k ++ between) b
]

at_run : (r : Run) (between : List Inline) (k : Run) (b : List Inline) (o : Opener) → NoRun between →
    (opener_of r (run_text k ++ between) b ≡ Some o → NoRun o.between) → (m : Bool) → after_match r between k b m ≡ Some o → NoRun o.between
at_run r between k b o h more true e =
    let same : record { between = between; run = k; before = b } ≡ o = cc in
    subst (λ (p : Opener). NoRun p.between) same h
at_run r between k b o h more false e = more e

literals_no_run : (n c : ℕ) (between : List Inline) → NoRun between → NoRun (replicate n (Literal c) ++ between)
literals_no_run zero c between h = h
literals_no_run (suc n) c between h = literals_no_run n c between h

text_no_run : (k : Run) (between : List Inline) → NoRun between → NoRun (run_text k ++ between)
unfolding run_text
text_no_run k between h = literals_no_run k.left k.char between h

-- what an opener's search leaves between holds no run
pub between_has_no_run : (r : Run) (between b : List Inline) (o : Opener) → NoRun between → opener_of r between b ≡ Some o → NoRun o.between
unfolding opener_of
between_has_no_run r between [] o h e = cc
between_has_no_run r between (Delimiters k ∷ b) o h e = at_run r between k b o h
    (λ f. between_has_no_run r (run_text k ++ between) b o (text_no_run k between h) f) (matches k r) e
between_has_no_run r between (Literal t ∷ b) o h e = between_has_no_run r (Literal t ∷ between) b o h e
between_has_no_run r between (Code t ∷ b) o h e = between_has_no_run r (Code t ∷ between) b o h e
between_has_no_run r between (Raw t ∷ b) o h e = between_has_no_run r (Raw t ∷ between) b o h e
between_has_no_run r between (Reference u t ∷ b) o h e = between_has_no_run r (Reference u t ∷ between) b o h e
between_has_no_run r between (SoftBreak ∷ b) o h e = between_has_no_run r (SoftBreak ∷ between) b o h e
between_has_no_run r between (HardBreak ∷ b) o h e = between_has_no_run r (HardBreak ∷ between) b o h e
between_has_no_run r between (Start s ∷ b) o h e = between_has_no_run r (Start s ∷ between) b o h e
between_has_no_run r between (End s ∷ b) o h e = between_has_no_run r (End s ∷ between) b o h e
between_has_no_run r between (Open k ∷ b) o h e = between_has_no_run r (Open k ∷ between) b o h e

-- ---- the parts of a settled list

pub settled_front : (b xs ys : List Inline) → IsSettled b (xs ++ ys) → IsSettled b xs
unfolding wrap_first
settled_front b [] ys e = refl
settled_front b (Delimiters r ∷ xs) ys e = passes b r xs (no_opener b r (xs ++ ys) e)
    ∙ settled_front (Delimiters r ∷ b) xs ys (settled_rest b r (xs ++ ys) e)
settled_front b (Literal t ∷ xs) ys e = settled_front (Literal t ∷ b) xs ys e
settled_front b (Code t ∷ xs) ys e = settled_front (Code t ∷ b) xs ys e
settled_front b (Raw t ∷ xs) ys e = settled_front (Raw t ∷ b) xs ys e
settled_front b (Reference u t ∷ xs) ys e = settled_front (Reference u t ∷ b) xs ys e
settled_front b (SoftBreak ∷ xs) ys e = settled_front (SoftBreak ∷ b) xs ys e
settled_front b (HardBreak ∷ xs) ys e = settled_front (HardBreak ∷ b) xs ys e
settled_front b (Start s ∷ xs) ys e = settled_front (Start s ∷ b) xs ys e
settled_front b (End s ∷ xs) ys e = settled_front (End s ∷ b) xs ys e
settled_front b (Open k ∷ xs) ys e = settled_front (Open k ∷ b) xs ys e

-- a search finds the opener in the list
pub record Found (r : Run) (between b : List Inline) (o : Opener) : Type 0 where
  pub raw : List Inline
  pub at : b ≡ raw ++ (Delimiters o.run ∷ o.before)

further : (r : Run) (x : Inline) (within between b : List Inline) (o : Opener) → Found r within b o → Found r between (x ∷ b) o
further r x within between b o f = record { raw = x ∷ f.raw; at = ap (λ more. x ∷ more) f.at }

found_at_run : (r : Run) (between : List Inline) (k : Run) (b : List Inline) (o : Opener) →
    (opener_of r (run_text k ++ between) b ≡ Some o → Found r (run_text k ++ between) b o) → (m : Bool)
    → after_match r between k b m ≡ Some o → Found r between (Delimiters k ∷ b) o
found_at_run r between k b o more true e =
    let same : record { between = between; run = k; before = b } ≡ o = cc in
    subst (λ (p : Opener). Found r between (Delimiters k ∷ b) p) same (record { raw = []; at = refl })
found_at_run r between k b o more false e = further r (Delimiters k) (run_text k ++ between) between b o (more e)

pub found : (r : Run) (between b : List Inline) (o : Opener) → opener_of r between b ≡ Some o → Found r between b o
unfolding opener_of
found r between [] o e = absurd cc
found r between (Delimiters k ∷ b) o e = found_at_run r between k b o (λ f. found r (run_text k ++ between) b o f) (matches k r) e
found r between (Literal t ∷ b) o e = further r (Literal t) (Literal t ∷ between) between b o (found r (Literal t ∷ between) b o e)
found r between (Code t ∷ b) o e = further r (Code t) (Code t ∷ between) between b o (found r (Code t ∷ between) b o e)
found r between (Raw t ∷ b) o e = further r (Raw t) (Raw t ∷ between) between b o (found r (Raw t ∷ between) b o e)
found r between (Reference u t ∷ b) o e = further r (Reference u t) (Reference u t ∷ between) between b o
    (found r (Reference u t ∷ between) b o e)
found r between (SoftBreak ∷ b) o e = further r SoftBreak (SoftBreak ∷ between) between b o (found r (SoftBreak ∷ between) b o e)
found r between (HardBreak ∷ b) o e = further r HardBreak (HardBreak ∷ between) between b o (found r (HardBreak ∷ between) b o e)
found r between (Start s ∷ b) o e = further r (Start s) (Start s ∷ between) between b o (found r (Start s ∷ between) b o e)
found r between (End s ∷ b) o e = further r (End s) (End s ∷ between) between b o (found r (End s ∷ between) b o e)
found r between (Open s ∷ b) o e = further r (Open s) (Open s ∷ between) between b o (found r (Open s ∷ between) b o e)

-- a run with fewer left finds an opener just where it did
pub same_search : (r : Run) (n : ℕ) (between b : List Inline) → opener_of r between b ≡ None
    → opener_of (record r { left = n }) between b ≡ None
unfolding opener_of matches
same_search r n between [] e = refl
same_search r n between (Delimiters k ∷ b) e = at (λ f. same_search r n (run_text k ++ between) b f) (matches k r) refl
  where
    at : (opener_of r (run_text k ++ between) b ≡ None → opener_of (record r { left = n }) (run_text k ++ between) b ≡ None) →
        (m : Bool) → matches k r ≡ m → opener_of (record r { left = n }) between (Delimiters k ∷ b) ≡ None
    at more true f = let g : after_match r between k b true ≡ None = ap (after_match r between k b) (sym f) ∙ e in cc
    at more false f = ap (after_match (record r { left = n }) between k b) f ∙ more (ap (after_match r between k b) (sym f) ∙ e)
same_search r n between (Literal t ∷ b) e = same_search r n (Literal t ∷ between) b e
same_search r n between (Code t ∷ b) e = same_search r n (Code t ∷ between) b e
same_search r n between (Raw t ∷ b) e = same_search r n (Raw t ∷ between) b e
same_search r n between (Reference u t ∷ b) e = same_search r n (Reference u t ∷ between) b e
same_search r n between (SoftBreak ∷ b) e = same_search r n (SoftBreak ∷ between) b e
same_search r n between (HardBreak ∷ b) e = same_search r n (HardBreak ∷ between) b e
same_search r n between (Start s ∷ b) e = same_search r n (Start s ∷ between) b e
same_search r n between (End s ∷ b) e = same_search r n (End s ∷ between) b e
same_search r n between (Open s ∷ b) e = same_search r n (Open s ∷ between) b e

-- ---- the steps of one pass

pub onto_append : (xs b ys : List Inline) → onto xs b ++ ys ≡ onto xs (b ++ ys)
unfolding onto
onto_append [] b ys = refl
onto_append (x ∷ xs) b ys = onto_append xs (x ∷ b) ys

pub onto_twice : (xs b : List Inline) → onto (onto xs b) [] ≡ onto b xs
unfolding onto
onto_twice [] b = refl
onto_twice (x ∷ xs) b = onto_twice xs (x ∷ b)

-- the inlines before the present place, the nearest first, are settled
abbrev pub AreSettled : List Inline → Type 0
AreSettled before = IsSettled [] (onto before [])

-- the first step is at the present run
pub step_here : (before : List Inline) (r : Run) (after : List Inline) (o : Opener) → AreSettled before → opener_of r [] before ≡ Some o →
    wrap_first [] (onto before (Delimiters r ∷ after)) ≡ Some (wrapped o r after)
unfolding wrap_first onto
step_here before r after o h e =
    ap (wrap_first []) (sym (onto_append before [] (Delimiters r ∷ after)))
    ∙ (settled_past [] (onto before []) (Delimiters r ∷ after) h
    ∙ (ap (λ b. wrap_first b (Delimiters r ∷ after)) (onto_twice before []) ∙ ap (after_test before r after) e))

-- a run without an opener, and an inline that is no run, join the settled ones
pub settled_more : (before : List Inline) (x : Inline) → AreSettled before → wrap_first before (x ∷ []) ≡ None → AreSettled (x ∷ before)
unfolding onto
settled_more before x h e =
    ap (wrap_first []) (sym (onto_append before [] (x ∷ [])))
    ∙ (settled_past [] (onto before []) (x ∷ []) h ∙ (ap (λ b. wrap_first b (x ∷ [])) (onto_twice before []) ∙ e))

pub onto_joined : (xs ys b : List Inline) → onto (xs ++ ys) b ≡ onto ys (onto xs b)
unfolding onto
onto_joined [] ys b = refl
onto_joined (x ∷ xs) ys b = onto_joined xs ys (x ∷ b)

less_passes : (ob : List Inline) (r : Run) (n : ℕ) (ys : List Inline) → opener_of r [] ob ≡ None
    → wrap_first ob (less n r ++ ys) ≡ wrap_first (onto (less n r) ob) ys
unfolding onto
less_passes ob r n ys e = at (nat_lt n r.left)
  where
    part : Bool → List Inline
    part m = elim m [ true ↦ Delimiters (record r { left = r.left - n }) ∷ [] | false ↦ [] ]

    at : (m : Bool) → wrap_first ob (part m ++ ys) ≡ wrap_first (onto (part m) ob) ys
    at true = passes ob (record r { left = r.left - n }) ys (same_search r (r.left - n) [] ob e)
    at false = refl

wrapped_passes : (b between : List Inline) (s : Span) → NoRun between → wrap_first b (Start s ∷ between ++ (End s ∷ [])) ≡ None
unfolding wrap_first
wrapped_passes b between s h = no_run_settles (Start s ∷ b) between (End s ∷ []) h

-- what stands before a closer is settled again once the closer is wrapped
pub settled_after : (before : List Inline) (r : Run) (o : Opener) (n : ℕ) (s : Span) → AreSettled before → opener_of r [] before ≡ Some o →
    IsSettled [] (onto o.before (less n o.run ++ (Start s ∷ o.between ++ (End s ∷ []))))
unfolding onto
settled_after before r o n s h e =
    let f : Found r [] before o = found r [] before o e in
    let z : List Inline = onto f.raw [] in
    let split : onto before [] ≡ onto o.before [] ++ (Delimiters o.run ∷ z) = ap (λ b. onto b []) f.at
    ∙ (onto_joined f.raw (Delimiters o.run ∷ o.before) [] ∙ sym (onto_append o.before [] (Delimiters o.run ∷ z))) in
    let whole : IsSettled [] (onto o.before [] ++ (Delimiters o.run ∷ z)) = ap (wrap_first []) (sym split) ∙ h in
    let front : IsSettled [] (onto o.before []) = settled_front [] (onto o.before []) (Delimiters o.run ∷ z) whole in
    let at_run : IsSettled o.before (Delimiters o.run ∷ z) = ap (λ b. wrap_first b (Delimiters o.run ∷ z)) (sym (onto_twice o.before []))
    ∙ (sym (settled_past [] (onto o.before []) (Delimiters o.run ∷ z) front) ∙ whole) in
    let lonely : opener_of o.run [] o.before ≡ None = no_opener o.before o.run z at_run in
    let w : List Inline = less n o.run ++ (Start s ∷ o.between ++ (End s ∷ [])) in
    ap (wrap_first []) (sym (onto_append o.before [] w))
    ∙ (settled_past [] (onto o.before []) w front
    ∙ (ap (λ b. wrap_first b w) (onto_twice o.before [])
    ∙ (less_passes o.before o.run n (Start s ∷ o.between ++ (End s ∷ [])) lonely
    ∙ wrapped_passes (onto (less n o.run) o.before) o.between s (between_has_no_run r [] before o tt e))))
