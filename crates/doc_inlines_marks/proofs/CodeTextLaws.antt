-- Whether a space is taken off at each end of a code span's text.
use Rattle.std.proofs.Common.{◌≡◌, ℕ, ◌+◌, ◌-◌, Bool, true, false, not, ◌&&◌, [], ◌∷◌, ◌++◌, take, length, refl, ap, sym, ◌∙◌, arith}
use Rattle.std.proofs.Common.{length-append}
use Rattle.std.specs.List.{list_all}
use Rattle.std.proofs.Math.Seq.{take-append_seam}
use Rattle.std.proofs.lemmas.List.{append-nil}
use Rattle.doc_rules.specs.Characters.{Text, last_or}
use Rattle.doc_rules.specs.Parsers.{inside}
use Rattle.doc_rules.specs.CodeSpans.{is_code_space, code_text}
use Rattle.doc_lines.proofs.Ends.{last_or_end}
use Rattle.doc_inlines_marks.specs.CodeSteps.{IsBetweenSpaces}
use Rattle.doc_inlines_marks.specs.RunSteps.{IsCodeText}

chosen : Text → Bool → Text
unfolding code_text
chosen text b = elim b [ true ↦ inside text | false ↦ text ]

-- ---- nothing is taken off

pub nothing_inside : (text : Text) → text ≡ [] → code_text text ≡ text
unfolding code_text
nothing_inside text e = ap code_text e ∙ sym e

one_kept : (c : ℕ) → code_text (c ∷ []) ≡ c ∷ []
unfolding code_text last_or chosen
one_kept c = at (is_code_space c)
  where
    at : (b : Bool) → chosen (c ∷ []) (b && (b && not (b && true))) ≡ c ∷ []
    at true = refl
    at false = refl

pub one_alone : (c : ℕ) (text rest : Text) → text ≡ c ∷ rest → rest ≡ [] → code_text text ≡ text
one_alone c text rest e f = let same : text ≡ c ∷ [] = e ∙ ap (λ t. c ∷ t) f in ap code_text same ∙ (one_kept c ∙ sym same)

-- a text with two ends
by_ends : (first last : ℕ) (inner : Text) → code_text (first ∷ (inner ++ (last ∷ []))) ≡
    chosen (first ∷ (inner ++ (last ∷ []))) (is_code_space first &&
    (is_code_space last && not (list_all is_code_space (first ∷ (inner ++ (last ∷ []))))))
unfolding code_text last_or chosen
by_ends first last inner =
    ap (λ (d : ℕ). chosen (first ∷ (inner ++ (last ∷ []))) (is_code_space first &&
    (is_code_space d && not (list_all is_code_space (first ∷ (inner ++ (last ∷ []))))))) (last_or_end first inner last)

one_is_none : (a b n : Bool) → (a && b) ≡ false → (a && (b && n)) ≡ false
one_is_none true true n e = absurd cc
one_is_none true false n e = refl
one_is_none false b n e = refl

kept : (text : Text) (b : Bool) → b ≡ false → chosen text b ≡ text
unfolding chosen
kept text b e = ap (chosen text) e

pub other_ends : (first last : ℕ) (inner rest text : Text) → text ≡ first ∷ rest → rest ≡ inner ++ (last ∷ [])
    → (is_code_space first && is_code_space last) ≡ false → code_text text ≡ text
other_ends first last inner rest text e f h =
    let same : text ≡ first ∷ (inner ++ (last ∷ [])) = e ∙ ap (λ t. first ∷ t) f in
    ap code_text same ∙ (by_ends first last inner
    ∙ (kept (first ∷ (inner ++ (last ∷ []))) _ (one_is_none (is_code_space first) (is_code_space last)
    (not (list_all is_code_space (first ∷ (inner ++ (last ∷ []))))) h) ∙ sym same))

-- ---- with two spaces

with_spaces : (inner text : Text) → IsBetweenSpaces inner text → code_text text ≡ chosen text (not (list_all is_code_space text))
with_spaces inner text h =
    ap code_text h.split
    ∙ (by_ends h.first h.last inner
    ∙ (ap (λ (b : Bool). chosen (h.first ∷ (inner ++ (h.last ∷ [])))
    (b && (is_code_space h.last && not (list_all is_code_space (h.first ∷ (inner ++ (h.last ∷ []))))))) h.spaces.0
    ∙ (ap (λ (b : Bool). chosen (h.first ∷ (inner ++ (h.last ∷ [])))
    (true && (b && not (list_all is_code_space (h.first ∷ (inner ++ (h.last ∷ []))))))) h.spaces.1
    ∙ ap (λ t. chosen t (not (list_all is_code_space t))) (sym h.split))))

inside_is : (first last : ℕ) (inner : Text) → inside (first ∷ (inner ++ (last ∷ []))) ≡ inner
inside_is first last inner =
    let count : length (inner ++ (last ∷ [])) ≡ length inner + 1 = length-append inner (last ∷ []) in
    let less : length (inner ++ (last ∷ [])) - 1 ≡ length inner = omega arith in
    ap (λ n. take n (inner ++ (last ∷ []))) less ∙ take-append_seam inner (last ∷ [])

taken_off : (inner text : Text) → IsBetweenSpaces inner text → list_all is_code_space text ≡ false → code_text text ≡ inner
unfolding chosen
taken_off inner text h e =
    with_spaces inner text h ∙ (ap (λ (b : Bool). chosen text (not b)) e ∙ (ap inside h.split ∙ inside_is h.first h.last inner))

spaces_alone : (inner text : Text) → IsBetweenSpaces inner text → list_all is_code_space text ≡ true → code_text text ≡ text
unfolding chosen
spaces_alone inner text h e = with_spaces inner text h ∙ ap (λ (b : Bool). chosen text (not b)) e

-- ---- as the code answers it

pub all_of_it : (text : Text) → code_text text ≡ text → IsCodeText text text
all_of_it text e = record { value = sym e; front = []; back = []; split = sym (append-nil text) }

pub all_spaces : (inner text : Text) → IsBetweenSpaces inner text → list_all is_code_space text ≡ true → IsCodeText text text
all_spaces inner text h e = all_of_it text (spaces_alone inner text h e)

pub what_is_between : (inner text : Text) → IsBetweenSpaces inner text → list_all is_code_space text ≡ false → IsCodeText inner text
what_is_between inner text h e = record {
  value = sym (taken_off inner text h e);
  front = h.first ∷ [];
  back = h.last ∷ [];
  split = h.split;
}
