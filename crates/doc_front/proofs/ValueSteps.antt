-- What steps over a value tell of it.
use Rattle.std.proofs.Common.{◌≡◌, ℕ, Bool, true, false, ◌==◌, List, [], ◌∷◌, ◌++◌, refl, ap, sym, ◌∙◌, Option}
use Rattle.std.proofs.Common.{Some, None, append_assoc, chars, arith, ◌≤◌, ◌<◌, length}
use Rattle.std.specs.Prelude.{option_map}
use Rattle.std.proofs.lemmas.List.{append-nil}
use Rattle.std.proofs.lemmas.Bool.Decides.{nat_tests}
use Rattle.doc_rules.specs.Characters.{Text}
use Rattle.doc_rules.specs.Parsers.{is}
use Rattle.doc_front.specs.Titles.{some_text, before_last, single_quoted}
use Rattle.doc_front.specs.ValueSteps.{behind_unit}

-- ---- a text that is not empty

pub some_is : (text rest : Text) (c : ℕ) → text ≡ c ∷ rest → Some text ≡ some_text text
unfolding some_text
some_is text rest c e = ap Some e ∙ sym (ap some_text e)

pub none_is : (text : Text) → text ≡ [] → None ≡ some_text text
unfolding some_text
none_is text e = sym (ap some_text e)

-- ---- the text before its last character

before_by : Text → Bool → Option Text
before_by front b = elim b [ true ↦ Some front | false ↦ None ]

before_end : (mark : ℕ) (front : Text) (c : ℕ) → before_last mark (front ++ c ∷ []) ≡ before_by front (c == mark)
unfolding before_last before_by
before_end mark [] c = refl
before_end mark (d ∷ []) c = ap (option_map (λ (t : Text). d ∷ t)) (before_end mark [] c) ∙ at (c == mark)
  where
    at : (b : Bool) → option_map (λ (t : Text). d ∷ t) (before_by [] b) ≡ before_by (d ∷ []) b
    at true = refl
    at false = refl
before_end mark (d ∷ e ∷ front) c = ap (option_map (λ (t : Text). d ∷ t)) (before_end mark (e ∷ front) c) ∙ at (c == mark)
  where
    at : (b : Bool) → option_map (λ (t : Text). d ∷ t) (before_by (e ∷ front) b) ≡ before_by (d ∷ e ∷ front) b
    at true = refl
    at false = refl

pub before_mark : (mark : ℕ) (text front : Text) (c : ℕ) → text ≡ front ++ c ∷ [] → true ≡ (c == mark) → Some front ≡ before_last mark text
unfolding before_by
before_mark mark text front c e h = sym (ap (before_last mark) e ∙ before_end mark front c ∙ ap (before_by front) (sym h))

pub before_other : (mark : ℕ) (text front : Text) (c : ℕ) → text ≡ front ++ c ∷ [] → false ≡ (c == mark) → None ≡ before_last mark text
unfolding before_by
before_other mark text front c e h = sym (ap (before_last mark) e ∙ before_end mark front c ∙ ap (before_by front) (sym h))

pub before_none : (mark : ℕ) (text : Text) → text ≡ [] → None ≡ before_last mark text
unfolding before_last
before_none mark text e = sym (ap (before_last mark) e)

-- ---- a text with one mark for each two

fewer : (c : ℕ) (rest next : Text) (b : Bool)
    → Some next ≡ (elim b [ true ↦ is 39 rest | false ↦ Some rest ]) → length next ≤ length rest
fewer c rest next false e = let same : next ≡ rest = cc in rw same (omega arith)
fewer c [] next true e = absurd cc
fewer c (d ∷ rest) next true e = at (d == 39) e
  where
    at : (b : Bool) → Some next ≡ (elim b [ true ↦ Some rest | false ↦ None ]) → length next ≤ length (d ∷ rest)
    at true f = let same : next ≡ rest = cc in rw same (omega arith)
    at false f = absurd cc

pub fewer_left : (c : ℕ) (text rest next : Text) → text ≡ c ∷ rest → Some next ≡ behind_unit c rest → length next < length text
unfolding behind_unit
fewer_left c text rest next e f =
    let less : length next ≤ length rest = fewer c rest next (c == 39) f in
    rw e (omega (arith, less))

-- what is made already, before what is left
abbrev pub behind_made : Text → Option Text → Option Text
behind_made made left = option_map (λ (t : Text). made ++ t) left

unit_by : ℕ → Option Text → Option Text
unit_by c next = elim next [ None ↦ None | Some rest ↦ option_map (λ (t : Text). c ∷ t) (single_quoted false rest) ]

second : (text : Text) → single_quoted true text ≡ unit_by 39 (is 39 text)
unfolding single_quoted unit_by
second [] = refl
second (c ∷ rest) = at (c == 39)
  where
    at : (b : Bool) → (elim b [ true ↦ option_map (λ (t : Text). 39 ∷ t) (single_quoted false rest) | false ↦ None ])
        ≡ unit_by 39 (elim b [ true ↦ Some rest | false ↦ None ])
    at true = refl
    at false = refl

unit : (c : ℕ) (rest : Text) → single_quoted false (c ∷ rest) ≡ unit_by c (behind_unit c rest)
unfolding single_quoted unit_by behind_unit
unit c rest = at (c == 39) refl
  where
    at : (b : Bool) → (c == 39) ≡ b → (elim b [
      | true ↦ single_quoted true rest
      | false ↦ option_map (λ (t : Text). c ∷ t) (single_quoted false rest)
    ]) ≡ unit_by c (elim b [ true ↦ is 39 rest | false ↦ Some rest ])
    at true e = let same : c ≡ 39 = grind (arith, nat_tests) in
        second rest ∙ ap (λ (n : ℕ). unit_by n (is 39 rest)) (sym same)
    at false e = refl

made_more : (made : Text) (c : ℕ) (left : Option Text) → behind_made made (option_map (λ (t : Text). c ∷ t) left)
    ≡ behind_made (made ++ c ∷ []) left
made_more made c None = refl
made_more made c (Some t) = ap Some (sym (append_assoc made (c ∷ []) t))

pub made_first : (left : Option Text) (made : List ℕ) → chars made ≡ [] → behind_made (chars made) left ≡ left
made_first None made e = refl
made_first (Some t) made e = ap (λ (m : Text). Some (m ++ t)) e

pub made_on : (whole : Option Text) (made made' text rest next : Text) (c : ℕ) → behind_made made (single_quoted false text) ≡ whole
    → text ≡ c ∷ rest → Some next ≡ behind_unit c rest → made' ≡ made ++ c ∷ [] → behind_made made' (single_quoted false next) ≡ whole
unfolding unit_by
made_on whole made made' text rest next c same e f g =
    ap (λ (m : Text). behind_made m (single_quoted false next)) g
    ∙ sym (made_more made c (single_quoted false next))
    ∙ ap (λ (o : Option Text). behind_made made (unit_by c o)) f
    ∙ ap (behind_made made) (sym (ap (single_quoted false) e ∙ unit c rest))
    ∙ same

pub made_not : (whole : Option Text) (made text rest : Text) (c : ℕ) → behind_made made (single_quoted false text) ≡ whole
    → text ≡ c ∷ rest → None ≡ behind_unit c rest → None ≡ whole
unfolding unit_by
made_not whole made text rest c same e f =
    ap (λ (o : Option Text). behind_made made (unit_by c o)) f
    ∙ ap (behind_made made) (sym (ap (single_quoted false) e ∙ unit c rest))
    ∙ same

pub made_all : (whole : Option Text) (made text : Text) → behind_made made (single_quoted false text) ≡ whole → text ≡ []
    → Some made ≡ whole
unfolding single_quoted
made_all whole made text same e =
    ap Some (sym (append-nil made)) ∙ ap (λ (t : Text). behind_made made (single_quoted false t)) (sym e) ∙ same
