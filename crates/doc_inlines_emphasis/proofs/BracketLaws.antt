-- To emphasis a bracket is no more than its text.
use Rattle.std.proofs.Common.{◌≡◌, ℕ, zero, suc, ◌-◌, Bool, true, false, List, [], ◌∷◌, ◌++◌, reverse, replicate, map, refl, ap, ap₂, sym}
use Rattle.std.proofs.Common.{append_assoc, ◌∙◌, Option, Some, None, codes}
use Rattle.std.specs.Prelude.{nat_lt, flat_map, if◌then◌else◌}
use Rattle.std.proofs.lemmas.List.{reverse-append}
use Rattle.doc_rules.specs.Inlines.{Inline, Literal, Start, End, Delimiters, Open, Run, run_text, bracket_text, as_text, literals}
use Rattle.doc_rules.specs.Emphasis.{Opener, matches, opener_of, strength, span_of, less}
use Rattle.doc_inlines_emphasis.specs.OnePass.{kept, behind_pair, closed, passed, passed_once, plain_brackets}
use Rattle.doc_rules.specs.Links.{without_links}
use Rattle.doc_inlines_emphasis.specs.Marks.{NoRun, IsFinal}
use Rattle.doc_inlines_emphasis.specs.Laws.{BracketsAreText}
use Rattle.doc_inlines_emphasis.specs.PassSteps.{onto}
use Rattle.doc_inlines_emphasis.proofs.Settled.{onto_joined, after_match}
use Rattle.doc_inlines_emphasis.proofs.Quiet.{onto_reverse, onto_nothing, SameText}
use Rattle.doc_inlines_emphasis.proofs.OnePassLaws.{searched, one_pass_suffices}
use Rattle.doc_inlines_emphasis.proofs.Passing.{passed_plain}

-- a bracket's text
abbrev of_image : Bool → List Inline
of_image image = if image then literals (codes "![") else literals (codes "[")

-- what stands before the present place, brackets as text
unfoldable plain_behind : List Inline → List Inline
plain_behind [] = []
plain_behind (Open bracket ∷ before) = reverse (bracket_text bracket) ++ plain_behind before
plain_behind (inline ∷ before) = inline ∷ plain_behind before

abbrev plain_opener : Opener → Opener
plain_opener o = record { between = plain_brackets o.between; run = o.run; before = plain_behind o.before }

abbrev plainly : Option Opener → Option Opener
plainly None = None
plainly (Some o) = Some (plain_opener o)

text_plain : (n c : ℕ) (ys : List Inline) → plain_brackets (replicate n (Literal c) ++ ys) ≡ replicate n (Literal c) ++ plain_brackets ys
unfolding plain_brackets
text_plain zero c ys = refl
text_plain (suc n) c ys = ap (λ t. Literal c ∷ t) (text_plain n c ys)

text_behind : (n c : ℕ) (ys : List Inline) → plain_behind (replicate n (Literal c) ++ ys) ≡ replicate n (Literal c) ++ plain_behind ys
unfolding plain_behind
text_behind zero c ys = refl
text_behind (suc n) c ys = ap (λ t. Literal c ∷ t) (text_behind n c ys)

-- ---- a search

over_bracket : (c : Run) (image : Bool) (between b : List Inline)
    → opener_of c between (reverse (of_image image) ++ b) ≡ opener_of c (of_image image ++ between) b
unfolding opener_of
over_bracket c true between b = refl
over_bracket c false between b = refl

over_run : (c : Run) (between : List Inline) (k : Run) (b : List Inline) →
    opener_of c (plain_brackets (run_text k ++ between)) (plain_behind b) ≡ plainly (opener_of c (run_text k ++ between) b) → (m : Bool) →
    after_match c (plain_brackets between) k (plain_behind b) m ≡ plainly (after_match c between k b m)
unfolding run_text
over_run c between k b more true = refl
over_run c between k b more false = ap (λ t. opener_of c t (plain_behind b)) (sym (text_plain k.left k.char between)) ∙ more

plain_search : (c : Run) (between b : List Inline) → opener_of c (plain_brackets between) (plain_behind b) ≡ plainly (opener_of c between b)
unfolding opener_of plain_brackets plain_behind bracket_text
plain_search c between [] = refl
plain_search c between (Delimiters k ∷ b) = over_run c between k b (plain_search c (run_text k ++ between) b) (matches k c)
plain_search c between (Open k ∷ b) = over_bracket c k.image (plain_brackets between) (plain_behind b) ∙ plain_search c (Open k ∷ between) b
plain_search c between (x ∷ b) = plain_search c (x ∷ between) b

-- ---- a pair

plain_onto : (xs b : List Inline) → plain_behind (onto xs b) ≡ onto (plain_brackets xs) (plain_behind b)
unfolding onto plain_brackets plain_behind
plain_onto [] b = refl
plain_onto (Open k ∷ xs) b =
    plain_onto xs (Open k ∷ b)
    ∙ (ap (onto (plain_brackets xs)) (sym (onto_reverse (bracket_text k) (plain_behind b)))
    ∙ sym (onto_joined (bracket_text k) (plain_brackets xs) (plain_behind b)))
plain_onto (x ∷ xs) b = plain_onto xs (x ∷ b)

plain_less : (n : ℕ) (r : Run) (b : List Inline) → plain_behind (less n r ++ b) ≡ less n r ++ plain_behind b
unfolding plain_behind
plain_less n r b = at (nat_lt n r.left)
  where
    part : Bool → List Inline
    part m = elim m [ true ↦ Delimiters (record r { left = r.left - n }) ∷ [] | false ↦ [] ]

    at : (m : Bool) → plain_behind (part m ++ b) ≡ part m ++ plain_behind b
    at true = refl
    at false = refl

plain_kept : (r : Run) (b : List Inline) → plain_behind (kept r ++ b) ≡ kept r ++ plain_behind b
unfolding plain_behind kept run_text
plain_kept r b = at r.opens
  where
    at : (m : Bool) → plain_behind ((if m then Delimiters r ∷ [] else run_text r) ++ b) ≡ (if m then Delimiters r ∷ [] else run_text r)
        ++ plain_behind b
    at true = refl
    at false = text_behind r.left r.char b

plain_pair : (o : Opener) (c n : ℕ) → plain_behind (behind_pair o c n) ≡ behind_pair (plain_opener o) c n
unfolding plain_behind
plain_pair o c n =
    let z : List Inline = Start (span_of c n) ∷ (less n o.run ++ o.before) in
    let y : List Inline = Start (span_of c n) ∷ (less n o.run ++ plain_behind o.before) in
    let inside : plain_behind (reverse o.between ++ z) ≡ reverse (plain_brackets o.between) ++ y =
    ap plain_behind (sym (onto_reverse o.between z))
    ∙ (plain_onto o.between z ∙ (ap (λ t. onto (plain_brackets o.between) (Start (span_of c n) ∷ t)) (plain_less n o.run o.before)
    ∙ onto_reverse (plain_brackets o.between) y)) in
    ap (λ t. End (span_of c n) ∷ t) inside

-- ---- a run

plain_left : (n : ℕ) (r : Run) (o : Opener) (k : ℕ) → ((next : Run) (b : List Inline)
    → closed n next (plain_behind b) ≡ plain_behind (closed n next b)) → (m : Bool) →
    elim m as (λ _. List Inline) [
      | true ↦ closed n (record r { left = r.left - k }) (behind_pair (plain_opener o) r.char k)
      | false ↦ behind_pair (plain_opener o) r.char k
    ]
    ≡ plain_behind (elim m as (λ _. List Inline) [
      | true ↦ closed n (record r { left = r.left - k }) (behind_pair o r.char k)
      | false ↦ behind_pair o r.char k
    ])
plain_left n r o k more true = ap (closed n (record r { left = r.left - k })) (sym (plain_pair o r.char k))
    ∙ more (record r { left = r.left - k }) (behind_pair o r.char k)
plain_left n r o k more false = sym (plain_pair o r.char k)

plain_found : (n : ℕ) (r : Run) (b : List Inline) → ((next : Run) (b : List Inline)
    → closed n next (plain_behind b) ≡ plain_behind (closed n next b)) →
    (found : Option Opener) → opener_of r [] b ≡ found → closed (suc n) r (plain_behind b) ≡ plain_behind (closed (suc n) r b)
unfolding plain_brackets
plain_found n r b more None e = searched n r (plain_behind b) None (plain_search r [] b ∙ ap plainly e)
    ∙ (sym (plain_kept r b) ∙ ap plain_behind (sym (searched n r b None e)))
plain_found n r b more (Some o) e =
    searched n r (plain_behind b) (Some (plain_opener o)) (plain_search r [] b ∙ ap plainly e)
    ∙ (plain_left n r o (strength o.run r) more (nat_lt (strength o.run r) r.left) ∙ ap plain_behind (sym (searched n r b (Some o) e)))

plain_closed : (n : ℕ) (r : Run) (b : List Inline) → closed n r (plain_behind b) ≡ plain_behind (closed n r b)
unfolding closed
plain_closed zero r b = sym (plain_kept r b)
plain_closed (suc n) r b = plain_found n r b (λ next b. plain_closed n next b) (opener_of r [] b) refl

-- ---- all

bracket_as_text : (image : Bool) (ys zs : List Inline) → SameText ys zs
    → flat_map as_text (onto (reverse (of_image image)) ys) ≡ of_image image ++ flat_map as_text zs
unfolding onto as_text
bracket_as_text true ys zs e = ap (λ t. Literal 33 ∷ (Literal 91 ∷ t)) e
bracket_as_text false ys zs e = ap (λ t. Literal 91 ∷ t) e

plain_text : (b ys zs : List Inline) → SameText ys zs → SameText (onto (plain_behind b) ys) (onto b zs)
unfolding onto plain_behind bracket_text as_text
plain_text [] ys zs e = e
plain_text (Open k ∷ b) ys zs e =
    ap (flat_map as_text) (onto_joined (reverse (bracket_text k)) (plain_behind b) ys)
    ∙ plain_text b (onto (reverse (bracket_text k)) ys) (Open k ∷ zs) (bracket_as_text k.image ys zs e)
plain_text (x ∷ b) ys zs e = plain_text b (x ∷ ys) (x ∷ zs) (ap (λ t. as_text x ++ t) e)

bracket_no_run : (image : Bool) → NoRun (of_image image)
bracket_no_run true = tt
bracket_no_run false = tt

plain_passed : (ys b : List Inline) → SameText (passed (plain_behind b) (plain_brackets ys)) (passed b ys)
unfolding passed plain_brackets plain_behind onto bracket_text
plain_passed [] b =
    ap (flat_map as_text) (sym (onto_nothing (plain_behind b))) ∙ (plain_text b [] [] refl ∙ ap (flat_map as_text) (onto_nothing b))
plain_passed (Delimiters r ∷ ys) b =
    ap (λ t. flat_map as_text (passed t (plain_brackets ys))) (plain_closed (suc r.left) r b) ∙ plain_passed ys (closed (suc r.left) r b)
plain_passed (Open k ∷ ys) b =
    ap (flat_map as_text) (passed_plain (bracket_text k) (plain_behind b) (plain_brackets ys) (bracket_no_run k.image)
    ∙ ap (λ t. passed t (plain_brackets ys)) (onto_reverse (bracket_text k) (plain_behind b)))
    ∙ plain_passed ys (Open k ∷ b)
plain_passed (x ∷ ys) b = plain_passed ys (x ∷ b)

pub brackets_are_text : BracketsAreText
unfolding passed_once plain_behind
brackets_are_text inlines = sym (one_pass_suffices (plain_brackets inlines)) ∙ (plain_passed inlines [] ∙ one_pass_suffices inlines)

-- ---- brackets as text, part by part

pub plain_append : (xs ys : List Inline) → plain_brackets (xs ++ ys) ≡ plain_brackets xs ++ plain_brackets ys
unfolding plain_brackets
plain_append [] ys = refl
plain_append (Open k ∷ xs) ys =
    ap (λ t. bracket_text k ++ t) (plain_append xs ys) ∙ sym (append_assoc (bracket_text k) (plain_brackets xs) (plain_brackets ys))
plain_append (x ∷ xs) ys = ap (λ t. x ∷ t) (plain_append xs ys)

-- one inline more
pub plain_more : (made : List Inline) (x : Inline) → plain_brackets (reverse (x ∷ made)) ≡ plain_brackets (reverse made)
    ++ plain_brackets (x ∷ [])
plain_more made x =
    let e : reverse (x ∷ made) ≡ reverse made ++ (x ∷ []) = reverse-append (x ∷ []) made in
    ap plain_brackets e ∙ plain_append (reverse made) (x ∷ [])

-- inlines that are read are as they stand
pub plain_final : (xs : List Inline) → IsFinal xs → plain_brackets xs ≡ xs
unfolding plain_brackets
plain_final [] h = refl
plain_final (Delimiters r ∷ xs) h = absurd h
plain_final (Open k ∷ xs) h = absurd h
plain_final (x ∷ xs) h = ap (λ t. x ∷ t) (plain_final xs h)

same_one : (x : Inline) → plain_brackets (without_links x ∷ []) ≡ plain_brackets (x ∷ [])
unfolding plain_brackets without_links bracket_text
same_one (Open k) = refl
same_one x = refl

-- brackets that no longer begin a link are the same text
pub plain_without_links : (made : List Inline) → plain_brackets (reverse (map without_links made)) ≡ plain_brackets (reverse made)
plain_without_links [] = refl
plain_without_links (x ∷ made) =
    plain_more (map without_links made) (without_links x)
    ∙ (ap₂ (λ s t. s ++ t) (plain_without_links made) (same_one x) ∙ sym (plain_more made x))
