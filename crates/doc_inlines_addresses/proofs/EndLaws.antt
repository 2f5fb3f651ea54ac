-- The end of an address: what goes from it, and how many parentheses are left.
use Rattle.std.proofs.Common.{◌≡◌, ◌≢◌, Bool, true, false, not, ◌&&◌, ◌||◌, ◌==◌, ℕ, zero, suc, ◌+◌, ◌-◌, ◌<◌, ◌≤◌, [], ◌∷◌, ◌++◌}
use Rattle.std.proofs.Common.{length, reverse, drop, refl, ap, ap₂, sym, ◌∙◌, Option, Some, None, codes, arith, length-append, append_assoc}
use Rattle.std.specs.Prelude.{nat_lt, filter, option_and_then}
use Rattle.std.specs.Char.{is_ascii_alphabetic}
use Rattle.std.proofs.lemmas.List.{reverse-append, reverse-reverse, append_cancel_right}
use Rattle.std.proofs.lemmas.List.Elements.{filter-append}
use Rattle.std.proofs.Math.Bool.{cond}
use Rattle.std.proofs.lemmas.Bool.{ne_eqb, eqb-true, and_parts}
use Rattle.doc_rules.specs.Characters.{Text, one_of, is_white}
use Rattle.doc_rules.specs.Parsers.{is, many, some, ◌then◌}
use Rattle.doc_rules.specs.BareLinks.{count_of, reference_before, end_goes, without_end, address_run, address_of}
use Rattle.doc_inlines_addresses.specs.Fronts.{StandsInFront}
use Rattle.doc_inlines_addresses.specs.EndSteps.{is_inside, IsEnd, Leaves, Goes, IsBeforeReference}
use Rattle.doc_inlines_addresses.proofs.HostLaws.{turned}

-- ---- fronts

pub whole_front : (text : Text) → StandsInFront text text
whole_front text = record { rest = []; split = sym (append_nil text) }
  where
    append_nil : (xs : Text) → xs ++ [] ≡ xs
    append_nil [] = refl
    append_nil (x ∷ xs) = ap (λ t. x ∷ t) (append_nil xs)

pub last_off : (text front : Text) (c : ℕ) → text ≡ front ++ (c ∷ []) → StandsInFront front text
last_off text front c e = record { rest = c ∷ []; split = e }

pub front_again : (whole text front : Text) → StandsInFront text whole → StandsInFront front text → StandsInFront front whole
front_again whole text front h g = record {
  rest = g.rest ++ h.rest;
  split = h.split ∙ (ap (λ t. t ++ h.rest) g.split ∙ append_assoc front g.rest h.rest);
}

-- ---- counting

count_both : (k : ℕ) (xs ys : Text) → count_of k (xs ++ ys) ≡ count_of k xs + count_of k ys
count_both k xs ys =
    ap length (filter-append (λ d. d == k) xs ys) ∙ length-append (filter (λ d. d == k) xs) (filter (λ d. d == k) ys)

count_one : (k c : ℕ) (b : Bool) → (c == k) ≡ b → count_of k (c ∷ []) ≡ (elim b as (λ _. ℕ) [ true ↦ 1 | false ↦ 0 ])
count_one k c true e = ap (λ (b : Bool). length (cond b (c ∷ []) [])) e
count_one k c false e = ap (λ (b : Bool). length (cond b (c ∷ []) [])) e

count_turned : (k : ℕ) (text : Text) → count_of k (reverse text) ≡ count_of k text
count_turned k [] = refl
count_turned k (c ∷ text) =
    let a : count_of k (reverse (c ∷ text)) ≡ count_of k (reverse text) + count_of k (c ∷ []) =
    ap (count_of k) (reverse-append (c ∷ []) text) ∙ count_both k (reverse text) (c ∷ []) in
    let b : count_of k (c ∷ text) ≡ count_of k (c ∷ []) + count_of k text = count_both k (c ∷ []) text in
    let again : count_of k (reverse text) ≡ count_of k text = count_turned k text in
    omega arith

counted : (k c : ℕ) (text front : Text) (b : Bool) → text ≡ front ++ (c ∷ []) → (c == k) ≡ b
    → count_of k text ≡ count_of k front + (elim b as (λ _. ℕ) [ true ↦ 1 | false ↦ 0 ])
counted k c text front b e f = ap (count_of k) e ∙ (count_both k front (c ∷ []) ∙ ap (λ n. count_of k front + n) (count_one k c b f))

-- ---- what is left

pub all_left : (text : Text) → Leaves text text 0
all_left text = record {
  front = whole_front text;
  opening = refl;
  closing = no_more (count_of 41 text);
}
  where
    no_more : (n : ℕ) → n ≡ n + 0
    no_more n = omega arith

-- a character goes that is no parenthesis
pub one_goes : (text front : Text) (c : ℕ) → text ≡ front ++ (c ∷ []) → (c == 40) ≡ false → (c == 41) ≡ false → Leaves text front 0
one_goes text front c e f g =
    let a : count_of 40 text ≡ count_of 40 front + 0 = counted 40 c text front false e f in
    record { front = last_off text front c e; opening = omega arith; closing = counted 41 c text front false e g }

-- a ')' goes
pub closing_goes : (text front : Text) (c : ℕ) → text ≡ front ++ (c ∷ []) → c ≡ 41 → Leaves text front 1
closing_goes text front c e f =
    let a : count_of 40 text ≡ count_of 40 front + 0 = counted 40 c text front false e (ap (λ d. d == 40) f) in
    record { front = last_off text front c e; opening = omega arith; closing = counted 41 c text front true e (ap (λ d. d == 41) f) }

-- and then more
pub leaves_again : (text front left : Text) (n : ℕ) → Leaves text front 0 → Leaves front left n → Leaves text left n
leaves_again text front left n h g =
    let a : count_of 41 text ≡ count_of 41 front + 0 = h.closing in
    let b : count_of 41 front ≡ count_of 41 left + n = g.closing in
    record {
      front = front_again text front left h.front g.front;
      opening = h.opening ∙ g.opening;
      closing = omega arith;
    }

-- ---- letters

letter_is_no : (k c : ℕ) → is_ascii_alphabetic k ≡ false → is_ascii_alphabetic c ≡ true → (c == k) ≡ false
letter_is_no k c off e = at (c == k) refl
  where
    at : (b : Bool) → (c == k) ≡ b → b ≡ false
    at true f =
        let here : is_ascii_alphabetic c ≡ false = ap is_ascii_alphabetic (eqb-true c k f) ∙ off in
        absurd cc
    at false f = refl

pub letter_goes : (text front : Text) (c : ℕ) → text ≡ front ++ (c ∷ []) → is_ascii_alphabetic c ≡ true → Leaves text front 0
letter_goes text front c e f = one_goes text front c e (letter_is_no 40 c refl f) (letter_is_no 41 c refl f)

many_at : ℕ → Text → Bool → Option Text
many_at c rest b = elim b [ true ↦ many is_ascii_alphabetic rest | false ↦ Some (c ∷ rest) ]

many_cons : (c : ℕ) (rest : Text) (b : Bool) → is_ascii_alphabetic c ≡ b → many is_ascii_alphabetic (c ∷ rest) ≡ many_at c rest b
unfolding many many_at
many_cons c rest b e = ap (many_at c rest) e

pub letter_passed : (whole text front : Text) (c : ℕ) → many is_ascii_alphabetic (reverse whole) ≡ many is_ascii_alphabetic (reverse text)
    → text ≡ front ++ (c ∷ []) → is_ascii_alphabetic c ≡ true
    → many is_ascii_alphabetic (reverse whole) ≡ many is_ascii_alphabetic (reverse front)
unfolding many_at
letter_passed whole text front c h e f =
    h ∙ (ap (many is_ascii_alphabetic) (turned text front c e) ∙ many_cons c (reverse front) true f)

pub letters_end : (whole text front : Text) (c : ℕ) → many is_ascii_alphabetic (reverse whole) ≡ many is_ascii_alphabetic (reverse text)
    → text ≡ front ++ (c ∷ []) → is_ascii_alphabetic c ≡ false → many is_ascii_alphabetic (reverse whole) ≡ Some (reverse text)
unfolding many_at
letters_end whole text front c h e f =
    h ∙ (ap (many is_ascii_alphabetic) (turned text front c e)
    ∙ (many_cons c (reverse front) false f ∙ ap Some (sym (turned text front c e))))

pub letters_are_all : (whole text : Text) → many is_ascii_alphabetic (reverse whole) ≡ many is_ascii_alphabetic (reverse text) → text ≡ []
    → many is_ascii_alphabetic (reverse whole) ≡ Some (reverse text)
unfolding many
letters_are_all whole text h e =
    h ∙ (ap (λ t. many is_ascii_alphabetic (reverse t)) e ∙ sym (ap (λ t. Some (reverse t)) e))

-- ---- a reference

abbrev pub reference_case : Text → Option Text → ℕ
reference_case text found = elim found [ Some more ↦ length text - length more | None ↦ 0 ]

pub reference_is : (text : Text) (found : Option Text) → (some is_ascii_alphabetic then is 38) text ≡ found
    → reference_before text ≡ reference_case text found
unfolding reference_before
reference_is text found e = ap (reference_case text) e

none_before : (text : Text) → (some is_ascii_alphabetic then is 38) text ≡ None → text ≡ drop (reference_before text) text
none_before text e = sym (ap (λ n. drop n text) (reference_is text None e))

one_at : Text → Bool → Option Text
one_at rest b = elim b [ true ↦ Some rest | false ↦ None ]

pub no_letter : (text front : Text) (c : ℕ) → text ≡ front ++ (c ∷ []) → is_ascii_alphabetic c ≡ false
    → reverse text ≡ drop (reference_before (reverse text)) (reverse text)
unfolding one_at
no_letter text front c e f =
    none_before (reverse text)
    (ap (some is_ascii_alphabetic then is 38) (turned text front c e)
    ∙ ap (λ b. option_and_then (is 38) (option_and_then (many is_ascii_alphabetic) (one_at (reverse front) b))) f)

pub nothing_there : (text : Text) → text ≡ [] → reverse text ≡ drop (reference_before (reverse text)) (reverse text)
nothing_there text e = none_before (reverse text) (ap (λ t. (some is_ascii_alphabetic then is 38) (reverse t)) e)

letters_taken : (text front left : Text) (c : ℕ) → text ≡ front ++ (c ∷ []) → is_ascii_alphabetic c ≡ true
    → many is_ascii_alphabetic (reverse text) ≡ Some left → (some is_ascii_alphabetic then is 38) (reverse text) ≡ is 38 left
unfolding one_at many_at
letters_taken text front left c e f m =
    let same : many is_ascii_alphabetic (reverse front) ≡ Some left =
    sym (ap (many is_ascii_alphabetic) (turned text front c e) ∙ many_cons c (reverse front) true f) ∙ m in
    ap (some is_ascii_alphabetic then is 38) (turned text front c e)
    ∙ (ap (λ b. option_and_then (is 38) (option_and_then (many is_ascii_alphabetic) (one_at (reverse front) b))) f
    ∙ ap (option_and_then (is 38)) same)

pub letters_alone : (text front letters : Text) (c : ℕ) → text ≡ front ++ (c ∷ []) → is_ascii_alphabetic c ≡ true
    → many is_ascii_alphabetic (reverse text) ≡ Some (reverse letters) → letters ≡ []
    → reverse text ≡ drop (reference_before (reverse text)) (reverse text)
letters_alone text front letters c e f m g =
    none_before (reverse text) (letters_taken text front (reverse letters) c e f m ∙ ap (λ t. is 38 (reverse t)) g)

pub letters_behind_other : (text front letters other : Text) (c d : ℕ) → text ≡ front ++ (c ∷ []) → is_ascii_alphabetic c ≡ true
    → many is_ascii_alphabetic (reverse text) ≡ Some (reverse letters) → letters ≡ other ++ (d ∷ []) → d ≢ 38
    → reverse text ≡ drop (reference_before (reverse text)) (reverse text)
unfolding one_at
letters_behind_other text front letters other c d e f m g h =
    none_before (reverse text)
    (letters_taken text front (reverse letters) c e f m
    ∙ (ap (is 38) (turned letters other d g) ∙ ap (one_at (reverse other)) (ne_eqb d 38 h)))

drop_front : (xs ys : Text) → drop (length (xs ++ ys) - length ys) (xs ++ ys) ≡ ys
drop_front xs ys =
    let l : length (xs ++ ys) ≡ length xs + length ys = length-append xs ys in
    let n : length (xs ++ ys) - length ys ≡ length xs = omega arith in
    ap (λ k. drop k (xs ++ ys)) n ∙ at xs
  where
    at : (zs : Text) → drop (length zs) (zs ++ ys) ≡ ys
    at [] = refl
    at (z ∷ zs) = at zs

pub reference_goes : (text front letters before : Text) (c d : ℕ) → text ≡ front ++ (c ∷ []) → is_ascii_alphabetic c ≡ true
    → many is_ascii_alphabetic (reverse text) ≡ Some (reverse letters) → letters ≡ before ++ (d ∷ []) → d ≡ 38
    → StandsInFront before text → reverse before ≡ drop (reference_before (reverse text)) (reverse text)
unfolding one_at
reference_goes text front letters before c d e f m g h s =
    let found : (some is_ascii_alphabetic then is 38) (reverse text) ≡ Some (reverse before) =
    letters_taken text front (reverse letters) c e f m
    ∙ (ap (is 38) (turned letters before d g) ∙ ap (one_at (reverse before)) (ap (λ k. k == 38) h)) in
    let split : reverse text ≡ reverse s.rest ++ reverse before = ap reverse s.split ∙ reverse-append before s.rest in
    sym (ap (λ n. drop n (reverse text)) (reference_is (reverse text) (Some (reverse before)) found)
    ∙ (ap (λ t. drop (length t - length (reverse before)) t) split ∙ drop_front (reverse s.rest) (reverse before)))

-- ---- one step

skipped : (n : ℕ) (text : Text) → without_end n text ≡ without_end 0 (drop n text)
unfolding without_end
skipped zero text = refl
skipped (suc n) [] = refl
skipped (suc n) (c ∷ text) = skipped n text

end_case : ℕ → Text → Option ℕ → Text
end_case c text found = elim found [ Some n ↦ without_end n text | None ↦ c ∷ text ]

end_is : (text front : Text) (c : ℕ) (found : Option ℕ) → text ≡ front ++ (c ∷ []) → end_goes c (reverse front) ≡ found
    → without_end 0 (reverse text) ≡ end_case c (reverse front) found
unfolding without_end end_case
end_is text front c found e f = ap (without_end 0) (turned text front c e) ∙ ap (end_case c (reverse front)) f

shorter_by_one : (text front : Text) (c : ℕ) → text ≡ front ++ (c ∷ []) → length front < length text
shorter_by_one text front c e =
    let l : length text ≡ length (front ++ (c ∷ [])) = ap length e in
    let m : length (front ++ (c ∷ [])) ≡ length front + length (c ∷ []) = length-append front (c ∷ []) in
    let one_long : length (c ∷ []) ≡ 1 = refl in
    omega arith

abbrev pub marks : Text
marks = codes "?!.,:*_~'\""

closing_case : Bool → Option ℕ
closing_case b = elim b [ true ↦ Some 0 | false ↦ None ]

semicolon_case : Text → ℕ → Bool → Option ℕ
semicolon_case text c b = elim b [
  | true ↦ Some (reference_before text)
  | false ↦ closing_case ((c == 41) && nat_lt (count_of 40 text) (suc (count_of 41 text)))
]

mark_case : Text → ℕ → Bool → Option ℕ
mark_case text c b = elim b [ true ↦ Some 0 | false ↦ semicolon_case text c (c == 59) ]

goes_is : (c : ℕ) (text : Text) (b : Bool) → one_of marks c ≡ b → end_goes c text ≡ mark_case text c b
unfolding end_goes mark_case semicolon_case closing_case
goes_is c text b e = ap (mark_case text c) e

mark_is_no : (k c : ℕ) → one_of marks k ≡ false → one_of marks c ≡ true → (c == k) ≡ false
mark_is_no k c off e = at (c == k) refl
  where
    at : (b : Bool) → (c == k) ≡ b → b ≡ false
    at true f = let here : one_of marks c ≡ false = ap (one_of marks) (eqb-true c k f) ∙ off in absurd cc
    at false f = refl

pub mark_goes : (text front : Text) (c : ℕ) → text ≡ front ++ (c ∷ []) → one_of marks c ≡ true → Goes text front 0
unfolding mark_case end_case
mark_goes text front c e f = record {
  leaves = one_goes text front c e (mark_is_no 40 c refl f) (mark_is_no 41 c refl f);
  same = end_is text front c (Some 0) e (goes_is c (reverse front) true f);
  shorter = shorter_by_one text front c e;
}

no_longer : (front text : Text) → StandsInFront front text → length front ≤ length text
no_longer front text h =
    let l : length text ≡ length (front ++ h.rest) = ap length h.split in
    let m : length (front ++ h.rest) ≡ length front + length h.rest = length-append front h.rest in
    omega arith

pub semicolon_goes : (text front left : Text) (c : ℕ) → text ≡ front ++ (c ∷ []) → one_of marks c ≡ false → c ≡ 59
    → IsBeforeReference front left → Goes text left 0
unfolding mark_case semicolon_case end_case
semicolon_goes text front left c e f g r =
    let goes : end_goes c (reverse front) ≡ Some (reference_before (reverse front)) =
    goes_is c (reverse front) false f ∙ ap (semicolon_case (reverse front) c) (ap (λ d. d == 59) g) in
    let less : length front < length text = shorter_by_one text front c e in
    let few : length left ≤ length front = no_longer left front r.leaves.front in
    record {
      leaves = leaves_again text front left 0
          (one_goes text front c e (ap (λ d. d == 40) g) (ap (λ d. d == 41) g)) r.leaves;
      same = end_is text front c (Some (reference_before (reverse front))) e goes
          ∙ (skipped (reference_before (reverse front)) (reverse front) ∙ ap (without_end 0) (sym r.value));
      shorter = omega arith;
    }

closing_test : (text front : Text) → Leaves text front 1
    → nat_lt (count_of 40 text) (count_of 41 text) ≡ nat_lt (count_of 40 (reverse front)) (suc (count_of 41 (reverse front)))
closing_test text front l =
    let a : count_of 41 text ≡ count_of 41 front + 1 = l.closing in
    let b : count_of 41 (reverse front) ≡ count_of 41 front = count_turned 41 front in
    let both : count_of 41 text ≡ suc (count_of 41 (reverse front)) = omega arith in
    ap₂ nat_lt (l.opening ∙ sym (count_turned 40 front)) both

other_goes : (c : ℕ) (text : Text) → one_of marks c ≡ false → c ≢ 59
    → end_goes c text ≡ closing_case ((c == 41) && nat_lt (count_of 40 text) (suc (count_of 41 text)))
unfolding mark_case semicolon_case
other_goes c text e f = goes_is c text false e ∙ ap (semicolon_case text c) (ne_eqb c 59 f)

pub surplus_goes : (text front : Text) (c : ℕ) (surplus : Bool) → text ≡ front ++ (c ∷ []) → one_of marks c ≡ false → c ≢ 59
    → surplus ≡ nat_lt (count_of 40 text) (count_of 41 text) → ((c == 41) && surplus) ≡ true → Goes text front 1
unfolding closing_case end_case
surplus_goes text front c surplus e f g h k =
    let parts = and_parts (c == 41) surplus k in
    let l : Leaves text front 1 = closing_goes text front c e (eqb-true c 41 parts.0) in
    let test : ((c == 41) && nat_lt (count_of 40 (reverse front)) (suc (count_of 41 (reverse front)))) ≡ true =
    ap (λ b. (c == 41) && b) (sym (h ∙ closing_test text front l)) ∙ k in
    record {
      leaves = l;
      same = end_is text front c (Some 0) e (other_goes c (reverse front) f g ∙ ap closing_case test);
      shorter = shorter_by_one text front c e;
    }

pub nothing_goes : (text front : Text) (c : ℕ) (surplus : Bool) → text ≡ front ++ (c ∷ []) → one_of marks c ≡ false → c ≢ 59
    → surplus ≡ nat_lt (count_of 40 text) (count_of 41 text) → ((c == 41) && surplus) ≡ false → IsEnd text
unfolding closing_case end_case
nothing_goes text front c surplus e f g h k =
    end_is text front c None e (other_goes c (reverse front) f g ∙ ap closing_case (test (c == 41) refl)) ∙ sym (turned text front c e)
  where
    test : (b : Bool) → (c == 41) ≡ b → ((c == 41) && nat_lt (count_of 40 (reverse front)) (suc (count_of 41 (reverse front)))) ≡ false
    test true p =
        let l : Leaves text front 1 = closing_goes text front c e (eqb-true c 41 p) in
        ap (λ b. (c == 41) && b) (sym (h ∙ closing_test text front l)) ∙ k
    test false p = ap (λ b. b && nat_lt (count_of 40 (reverse front)) (suc (count_of 41 (reverse front)))) p

pub empty_ends : (text : Text) → text ≡ [] → IsEnd text
unfolding without_end
empty_ends text e = ap (λ t. without_end 0 (reverse t)) e ∙ sym (ap reverse e)

-- ---- the whole address

inside_at : ℕ → Text → Bool → Text
inside_at c rest b = elim b [ true ↦ [] | false ↦ c ∷ address_run rest ]

run_split : (text rest : Text) → Some rest ≡ many is_inside text → text ≡ address_run text ++ rest
unfolding many address_run inside_at
run_split [] rest e = let same : rest ≡ [] = cc in sym same
run_split (c ∷ text) rest e = at (λ g. run_split text rest g) (is_white c || (c == 60)) refl e
  where
    at : (Some rest ≡ many is_inside text → text ≡ address_run text ++ rest) → (b : Bool) → (is_white c || (c == 60)) ≡ b
        → Some rest ≡ (elim (not b) as (λ _. Option Text) [ true ↦ many is_inside text | false ↦ Some (c ∷ text) ])
        → (c ∷ text) ≡ inside_at c text b ++ rest
    at again true f g = let same : rest ≡ c ∷ text = cc in sym same
    at again false f g = ap (λ t. c ∷ t) (again g)

pub run_is : (text rest run : Text) → Some rest ≡ many is_inside text → text ≡ run ++ rest → run ≡ address_run text
run_is text rest run e f = append_cancel_right run (address_run text) rest (sym f ∙ run_split text rest e)

pub address_is : (text run result : Text) → run ≡ address_run text → reverse result ≡ without_end 0 (reverse run) → result ≡ address_of text
unfolding address_of
address_is text run result e f =
    sym (reverse-reverse result) ∙ (ap reverse f ∙ ap (λ t. reverse (without_end 0 (reverse t))) e)

pub address_front : (text rest run result : Text) → text ≡ run ++ rest → StandsInFront result run → StandsInFront result text
address_front text rest run result e h = front_again text run result (record { rest = rest; split = e }) h
