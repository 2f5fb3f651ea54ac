-- An address that is found has a character at least: its first one is a letter, which never goes.
use Rattle.std.proofs.Common.{◌≡◌, ◌≢◌, Bool, true, false, ◌||◌, ◌&&◌, ◌==◌, ℕ, zero, suc, ◌+◌, ◌-◌, ◌<◌, ◌≤◌, [], ◌∷◌, ◌++◌, length}
use Rattle.std.proofs.Common.{reverse, refl, ap, ap₂, sym, ◌∙◌, subst, Option, Some, None, codes, arith, length-append}
use Rattle.std.specs.Prelude.{not, nat_lt}
use Rattle.std.specs.Char.{is_ascii_alphabetic}
use Rattle.std.proofs.lemmas.List.{reverse-append, length-reverse}
use Rattle.std.proofs.lemmas.Bool.{eqb-true}
use Rattle.doc_rules.specs.Characters.{Text, one_of, first_or, last_or, is_white}
use Rattle.doc_rules.specs.Parsers.{is, some, ◌then◌}
use Rattle.doc_rules.specs.Rests.{IsRest}
use Rattle.doc_rules.specs.BareLinks.{count_of, reference_before, end_goes, without_end, address_run, address_of, is_www_place, is_www, is_web, bare_address}
use Rattle.doc_rules.proofs.ParserLaws.{some_leaves}
use Rattle.doc_rules.proofs.Computing.{text_words}
use Rattle.doc_lines.proofs.Ends.{last_or_end}
use Rattle.doc_inlines_addresses.specs.Fronts.{StandsInFront, IsFound}
use Rattle.doc_inlines_addresses.proofs.EndLaws.{reference_is}

-- ---- a reference takes no letter at the front

is_all : (m more : Text) → is 38 m ≡ Some more → m ≡ 38 ∷ more
is_all [] more e = absurd cc
is_all (c ∷ rest) more e = at (c == 38) refl e
  where
    at : (b : Bool) → (c == 38) ≡ b → (elim b as (λ _. Option Text) [ true ↦ Some rest | false ↦ None ]) ≡ Some more → (c ∷ rest) ≡ 38 ∷ more
    at true f g = let same : rest ≡ more = cc in ap₂ (λ x xs. x ∷ xs) (eqb-true c 38 f) same
    at false f g = absurd cc

ends_in_and : (text m : Text) → some is_ascii_alphabetic text ≡ Some m → is 38 m ≡ Some [] → last_or 0 text ≡ 38
ends_in_and text m e f =
    let h : IsRest m text = some_leaves is_ascii_alphabetic text m e in
    ap (last_or 0) (h.split ∙ ap (λ t. h.front ++ t) (is_all m [] f)) ∙ last_or_end 0 h.front 38

taken_is : (text : Text) (found : Option Text) → some is_ascii_alphabetic text ≡ found
    → (some is_ascii_alphabetic then is 38) text ≡ Some [] → last_or 0 text ≡ 38
taken_is text None e f =
    let none : (some is_ascii_alphabetic then is 38) text ≡ None =
    ap (λ (o : Option Text). elim o as (λ _. Option Text) [ Some m ↦ is 38 m | None ↦ None ]) e in
    absurd cc
taken_is text (Some m) e f =
    let here : (some is_ascii_alphabetic then is 38) text ≡ is 38 m =
    ap (λ (o : Option Text). elim o as (λ _. Option Text) [ Some m ↦ is 38 m | None ↦ None ]) e in
    ends_in_and text m e (sym here ∙ f)

reference_short : (ys : Text) (d : ℕ) → d ≢ 38 → reference_before (ys ++ (d ∷ [])) ≤ length ys
reference_short ys d h = at ((some is_ascii_alphabetic then is 38) (ys ++ (d ∷ []))) refl
  where
    long : length (ys ++ (d ∷ [])) ≡ length ys + length (d ∷ [])
    long = length-append ys (d ∷ [])

    one_long : length (d ∷ []) ≡ 1
    one_long = refl

    at : (found : Option Text) → (some is_ascii_alphabetic then is 38) (ys ++ (d ∷ [])) ≡ found
        → reference_before (ys ++ (d ∷ [])) ≤ length ys
    at None e = subst (λ n. n ≤ length ys) (sym (reference_is (ys ++ (d ∷ [])) None e)) (omega arith)
    at (Some []) e =
        absurd (h (sym (last_or_end 0 ys d) ∙ taken_is (ys ++ (d ∷ [])) (some is_ascii_alphabetic (ys ++ (d ∷ []))) refl e))
    at (Some (c ∷ more)) e =
        let less : length (ys ++ (d ∷ [])) - length (c ∷ more) ≤ length ys = omega (arith, long, one_long) in
        subst (λ n. n ≤ length ys) (sym (reference_is (ys ++ (d ∷ [])) (Some (c ∷ more)) e)) less

-- ---- nor does anything else

-- it is none of what goes
record IsFirm (d : ℕ) : Type 0 where
  pub stays : (text : Text) → end_goes d text ≡ None
  pub other : d ≢ 38
  pub inside : (is_white d || (d == 60)) ≡ false

step_of : ℕ → Text → Option ℕ → Text
step_of c text found = elim found [ Some n ↦ without_end n text | None ↦ c ∷ text ]

step_is : (c : ℕ) (text : Text) (found : Option ℕ) → end_goes c text ≡ found → without_end 0 (c ∷ text) ≡ step_of c text found
unfolding without_end step_of
step_is c text found e = ap (step_of c text) e

-- so many characters before it go in any case
keeps_last : (d n : ℕ) (ys : Text) → IsFirm d → n ≤ length ys → 0 < length (without_end n (ys ++ (d ∷ [])))
unfolding without_end step_of end_goes
keeps_last d zero [] h l = subst (λ t. 0 < length t) (sym (step_is d [] None (h.stays []))) (omega arith)
keeps_last d (suc n) [] h l = absurd (omega arith)
keeps_last d (suc n) (y ∷ ys) h l = keeps_last d n ys h (omega arith)
keeps_last d zero (y ∷ ys) h l = at (λ n g. keeps_last d n ys h g) (end_goes y (ys ++ (d ∷ []))) refl
  where
    goes : (n : ℕ) → end_goes y (ys ++ (d ∷ [])) ≡ Some n → n ≤ length ys
    goes n e = by (one_of (codes "?!.,:*_~'\"") y) (y == 59)
        ((y == 41) && nat_lt (count_of 40 (ys ++ (d ∷ []))) (suc (count_of 41 (ys ++ (d ∷ []))))) e
      where
        by : (a b m : Bool) → (elim a as (λ _. Option ℕ) [
          | true ↦ Some 0
          | false ↦ elim b as (λ _. Option ℕ) [
            | true ↦ Some (reference_before (ys ++ (d ∷ [])))
            | false ↦ elim m as (λ _. Option ℕ) [ true ↦ Some 0 | false ↦ None ]
          ]
        ]) ≡ Some n → n ≤ length ys
        by true b m f = let same : 0 ≡ n = cc in subst (λ k. k ≤ length ys) same (omega arith)
        by false true m f =
            let same : reference_before (ys ++ (d ∷ [])) ≡ n = cc in
            subst (λ k. k ≤ length ys) same (reference_short ys d h.other)
        by false false true f = let same : 0 ≡ n = cc in subst (λ k. k ≤ length ys) same (omega arith)
        by false false false f = absurd cc

    at : ((n : ℕ) → n ≤ length ys → 0 < length (without_end n (ys ++ (d ∷ [])))) → (found : Option ℕ)
        → end_goes y (ys ++ (d ∷ [])) ≡ found → 0 < length (without_end 0 (y ∷ (ys ++ (d ∷ []))))
    at again None e = subst (λ t. 0 < length t) (sym (step_is y (ys ++ (d ∷ [])) None e)) (omega arith)
    at again (Some n) e =
        subst (λ t. 0 < length t) (sym (step_is y (ys ++ (d ∷ [])) (Some n) e)) (again n (goes n e))

-- ---- the letters with which an address may begin

w : IsFirm 119
unfolding end_goes text_words
w = record { stays = λ text. refl; other = omega arith; inside = refl }

small_h : IsFirm 104
unfolding end_goes text_words
small_h = record { stays = λ text. refl; other = omega arith; inside = refl }

large_h : IsFirm 72
unfolding end_goes text_words
large_h = record { stays = λ text. refl; other = omega arith; inside = refl }

small_f : IsFirm 102
unfolding end_goes text_words
small_f = record { stays = λ text. refl; other = omega arith; inside = refl }

large_f : IsFirm 70
unfolding end_goes text_words
large_f = record { stays = λ text. refl; other = omega arith; inside = refl }

firm : (d : ℕ) → one_of (codes "whHfF") d ≡ true → IsFirm d
firm d e = first (d == 119) refl e
  where
    at : (k : ℕ) → (d == k) ≡ true → IsFirm k → IsFirm d
    at k f g = subst IsFirm (sym (eqb-true d k f)) g

    fifth : (b : Bool) → (d == 70) ≡ b → (b || false) ≡ true → IsFirm d
    fifth true f g = at 70 f large_f
    fifth false f g = absurd cc

    fourth : (b : Bool) → (d == 102) ≡ b → (b || ((d == 70) || false)) ≡ true → IsFirm d
    fourth true f g = at 102 f small_f
    fourth false f g = fifth (d == 70) refl g

    third : (b : Bool) → (d == 72) ≡ b → (b || ((d == 102) || ((d == 70) || false))) ≡ true → IsFirm d
    third true f g = at 72 f large_h
    third false f g = fourth (d == 102) refl g

    second : (b : Bool) → (d == 104) ≡ b → (b || ((d == 72) || ((d == 102) || ((d == 70) || false)))) ≡ true → IsFirm d
    second true f g = at 104 f small_h
    second false f g = third (d == 72) refl g

    first : (b : Bool) → (d == 119) ≡ b → (b || ((d == 104) || ((d == 72) || ((d == 102) || ((d == 70) || false))))) ≡ true → IsFirm d
    first true f g = at 119 f w
    first false f g = second (d == 104) refl g

run_at : ℕ → Text → Bool → Text
run_at c rest b = elim b [ true ↦ [] | false ↦ c ∷ address_run rest ]

run_first : (c : ℕ) (rest : Text) → IsFirm c → address_run (c ∷ rest) ≡ c ∷ address_run rest
unfolding address_run run_at
run_first c rest h = ap (run_at c rest) h.inside

begins : (text : Text) → one_of (codes "whHfF") (first_or 0 text) ≡ true → 0 < length (address_of text)
unfolding address_of
begins [] e = absurd cc
begins (d ∷ rest) e =
    let turned : reverse (address_run (d ∷ rest)) ≡ reverse (address_run rest) ++ (d ∷ []) =
    ap reverse (run_first d rest (firm d e)) ∙ reverse-append (d ∷ []) (address_run rest) in
    let long : length (reverse (without_end 0 (reverse (address_run (d ∷ rest)))))
    ≡ length (without_end 0 (reverse (address_run (d ∷ rest)))) = length-reverse (without_end 0 (reverse (address_run (d ∷ rest)))) in
    let some_left : 0 < length (without_end 0 (reverse (address_run (d ∷ rest)))) =
    subst (λ t. 0 < length (without_end 0 t)) (sym turned) (keeps_last d 0 (reverse (address_run rest)) (firm d e) (omega arith)) in
    omega arith

-- ---- what is found

web_case : Bool → Text → Option (Text × Text)
web_case b text = elim b [ true ↦ Some (address_of text, address_of text) | false ↦ None ]

www_case : ℕ → Text → Bool → Option (Text × Text)
www_case last text b = elim b [
  | true ↦ Some (codes "http://" ++ address_of text, address_of text)
  | false ↦ web_case (not (is_ascii_alphabetic last) && is_web text) text
]

case_is : (last : ℕ) (text : Text) (b : Bool) → (is_www_place last && is_www text) ≡ b → bare_address last text ≡ www_case last text b
unfolding bare_address www_case web_case
case_is last text b e = ap (www_case last text) e

pub www_found : (last : ℕ) (text scheme address : Text) → one_of (codes "whHfF") (first_or 0 text) ≡ true
    → (is_www_place last && is_www text) ≡ true → scheme ≡ codes "http://" → address ≡ address_of text → StandsInFront address text
    → IsFound last text scheme address
unfolding www_case
www_found last text scheme address first e f g h = record {
  value = case_is last text true e ∙ ap₂ (λ s a. Some (s ++ a, a)) (sym f) (sym g);
  front = h;
  some = subst (λ t. 0 < length t) (sym g) (begins text first);
}

pub web_found : (last : ℕ) (text scheme address : Text) → one_of (codes "whHfF") (first_or 0 text) ≡ true
    → (is_www_place last && is_www text) ≡ false → (not (is_ascii_alphabetic last) && is_web text) ≡ true → scheme ≡ []
    → address ≡ address_of text → StandsInFront address text → IsFound last text scheme address
unfolding www_case web_case
web_found last text scheme address first e k f g h = record {
  value = case_is last text false e ∙ (ap (λ b. web_case b text) k ∙ ap₂ (λ s a. Some (s ++ a, a)) (sym f) (sym g));
  front = h;
  some = subst (λ t. 0 < length t) (sym g) (begins text first);
}

pub none_found : (last : ℕ) (text : Text) → (is_www_place last && is_www text) ≡ false
    → (not (is_ascii_alphabetic last) && is_web text) ≡ false → bare_address last text ≡ None
unfolding www_case web_case
none_found last text e f = case_is last text false e ∙ ap (λ b. web_case b text) f
