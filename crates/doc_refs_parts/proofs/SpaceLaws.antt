-- What collapsing keeps of a word, the white space behind it and the rest.
use Rattle.std.proofs.Common.{◌≡◌, ℕ, ◌<◌, ◌≤◌, Bool, true, false, not, [], ◌∷◌, ◌++◌, length, refl, ap, sym, ◌∙◌, Option, Some}
use Rattle.std.proofs.Common.{arith, append_assoc, append-nil}
use Rattle.std.specs.Prelude.{◌&&◌, ◌==◌}
use Rattle.std.specs.List.{list_all}
use Rattle.std.proofs.lemmas.Bool.Decides.{nat_tests}
use Rattle.std.proofs.lemmas.List.{append_cancel_right}
use Rattle.doc_rules.specs.Characters.{Text, is_space_tab_or_ending, first_or, strip_front, strip_end, strip}
use Rattle.doc_rules.specs.Parsers.{many}
use Rattle.doc_rules.specs.Labels.{collapse}
use Rattle.doc_rules.proofs.ParserLaws.{rest_is_shorter, many_leaves, many_strip_front}
use Rattle.std.proofs.lemmas.Bool.{not-true, not-false, and_left}

-- a character of a word
abbrev pub is_word_char : ℕ → Bool
is_word_char c = not (is_space_tab_or_ending c)

both : (x y : Bool) → x ≡ true → (x && y) ≡ y
both x y e = ap (λ (b : Bool). b && y) e

-- ---- one step of each

abbrev many_choice : (ℕ → Bool) → ℕ → Text → Bool → Option Text
many_choice test c rest b = elim b [ true ↦ many test rest | false ↦ Some (c ∷ rest) ]

many_cons : (test : ℕ → Bool) (c : ℕ) (rest : Text) → many test (c ∷ rest) ≡ many_choice test c rest (test c)
unfolding many
many_cons test c rest = refl

many_nil : (test : ℕ → Bool) → many test [] ≡ Some []
unfolding many
many_nil test = refl

abbrev collapse_choice : Bool → Bool → ℕ → Text → Text
collapse_choice a b c rest = elim a [ true ↦ elim b [ true ↦ collapse rest | false ↦ 32 ∷ collapse rest ] | false ↦ c ∷ collapse rest ]

collapse_cons : (c : ℕ) (rest : Text) → collapse (c ∷ rest) ≡ collapse_choice (is_space_tab_or_ending c)
    (is_space_tab_or_ending (first_or 0 rest)) c rest
unfolding collapse
collapse_cons c rest = refl

collapse_nil : collapse [] ≡ []
unfolding collapse
collapse_nil = refl

collapse_char : (c : ℕ) (rest : Text) → is_space_tab_or_ending c ≡ false → collapse (c ∷ rest) ≡ c ∷ collapse rest
collapse_char c rest e = collapse_cons c rest ∙ ap (λ (a : Bool). collapse_choice a (is_space_tab_or_ending (first_or 0 rest)) c rest) e

collapse_space : (c : ℕ) (rest : Text) → is_space_tab_or_ending c ≡ true → is_space_tab_or_ending (first_or 0 rest) ≡ true
    → collapse (c ∷ rest) ≡ collapse rest
collapse_space c rest e f =
    collapse_cons c rest ∙ ap (λ (a : Bool). collapse_choice a (is_space_tab_or_ending (first_or 0 rest)) c rest) e
    ∙ ap (λ (b : Bool). collapse_choice true b c rest) f

collapse_last : (c : ℕ) (rest : Text) → is_space_tab_or_ending c ≡ true → is_space_tab_or_ending (first_or 0 rest) ≡ false
    → collapse (c ∷ rest) ≡ 32 ∷ collapse rest
collapse_last c rest e f =
    collapse_cons c rest ∙ ap (λ (a : Bool). collapse_choice a (is_space_tab_or_ending (first_or 0 rest)) c rest) e
    ∙ ap (λ (b : Bool). collapse_choice true b c rest) f

abbrev end_choice : (ℕ → Bool) → ℕ → Text → Bool → Text
end_choice test c rest b = elim b [ true ↦ [] | false ↦ c ∷ strip_end test rest ]

end_cons : (test : ℕ → Bool) (c : ℕ) (rest : Text) → strip_end test (c ∷ rest) ≡ end_choice test c rest (list_all test (c ∷ rest))
unfolding strip_end
end_cons test c rest = refl

end_nil : (test : ℕ → Bool) → strip_end test [] ≡ []
unfolding strip_end
end_nil test = refl

end_keeps : (test : ℕ → Bool) (c : ℕ) (rest : Text) → list_all test (c ∷ rest) ≡ false → strip_end test (c ∷ rest) ≡ c ∷ strip_end test rest
end_keeps test c rest e = end_cons test c rest ∙ ap (end_choice test c rest) e

end_of_all : (test : ℕ → Bool) (text : Text) → list_all test text ≡ true → strip_end test text ≡ []
end_of_all test [] e = end_nil test
end_of_all test (c ∷ rest) e = end_cons test c rest ∙ ap (end_choice test c rest) e

-- ---- the front

pub front_is_stripped : (text rest : Text) → Some rest ≡ many is_space_tab_or_ending text
    → collapse (strip_end is_space_tab_or_ending rest) ≡ collapse (strip is_space_tab_or_ending text)
front_is_stripped text rest e =
    let same : rest ≡ strip_front is_space_tab_or_ending text = cc (many_strip_front is_space_tab_or_ending text) in
    ap (λ (r : Text). collapse (strip_end is_space_tab_or_ending r)) same

-- ---- the word

-- a word stays as it is
abbrev Word : Text → Text → Type 0
Word text gap = (front : Text) × (text ≡ front ++ gap)
    × (collapse (strip_end is_space_tab_or_ending text) ≡ front ++ collapse (strip_end is_space_tab_or_ending gap))

no_word : (text gap : Text) → text ≡ gap → Word text gap
no_word text gap e = ([], e, ap (λ (t : Text). collapse (strip_end is_space_tab_or_ending t)) e)

longer_word : (c : ℕ) (text gap : Text) → is_space_tab_or_ending c ≡ false → Word text gap → Word (c ∷ text) gap
longer_word c text gap e h = (
  c ∷ h.0,
  ap (λ more. c ∷ more) h.1,
  ap collapse (end_keeps is_space_tab_or_ending c text (and_left (is_space_tab_or_ending c) (list_all is_space_tab_or_ending text) e))
      ∙ collapse_char c (strip_end is_space_tab_or_ending text) e ∙ ap (λ more. c ∷ more) h.2,
)

word_stays : (text gap : Text) → many is_word_char text ≡ Some gap → Word text gap
word_stays [] gap e = let same : [] ≡ gap = cc (many_nil is_word_char) in no_word [] gap same
word_stays (c ∷ text) gap e = at (λ k. word_stays text gap k) (is_word_char c) refl
  where
    at : (many is_word_char text ≡ Some gap → Word text gap) → (b : Bool) → is_word_char c ≡ b → Word (c ∷ text) gap
    at go true f = longer_word c text gap (not-true (is_space_tab_or_ending c) f)
        (go (sym (many_cons is_word_char c text ∙ ap (many_choice is_word_char c text) f) ∙ e))
    at go false f =
        let left : Some (c ∷ text) ≡ Some gap = sym (many_cons is_word_char c text ∙ ap (many_choice is_word_char c text) f) ∙ e in
        let same : c ∷ text ≡ gap = cc in
        no_word (c ∷ text) gap same

-- ---- the white space

-- what stands behind a word begins with white space
abbrev BeginsGap : Text → Type 0
BeginsGap [] = Unit {0}
BeginsGap (c ∷ more) = is_space_tab_or_ending c ≡ true

gap_begins : (text gap : Text) → many is_word_char text ≡ Some gap → BeginsGap gap
gap_begins text [] e = tt
gap_begins [] (d ∷ more) e = absurd (cc (many_nil is_word_char))
gap_begins (c ∷ text) (d ∷ more) e = at (λ k. gap_begins text (d ∷ more) k) (is_word_char c) refl
  where
    at : (many is_word_char text ≡ Some (d ∷ more) → is_space_tab_or_ending d ≡ true) → (b : Bool) → is_word_char c ≡ b
        → is_space_tab_or_ending d ≡ true
    at go true f = go (sym (many_cons is_word_char c text ∙ ap (many_choice is_word_char c text) f) ∙ e)
    at go false f =
        let left : Some (c ∷ text) ≡ Some (d ∷ more) = sym (many_cons is_word_char c text ∙ ap (many_choice is_word_char c text) f) ∙ e in
        let same : c ≡ d = cc in
        ap is_space_tab_or_ending (sym same) ∙ not-false (is_space_tab_or_ending c) f

all_white : (text : Text) → many is_space_tab_or_ending text ≡ Some [] → list_all is_space_tab_or_ending text ≡ true
all_white [] e = refl
all_white (c ∷ text) e = at (λ k. all_white text k) (is_space_tab_or_ending c) refl
  where
    at : (many is_space_tab_or_ending text ≡ Some [] → list_all is_space_tab_or_ending text ≡ true) → (b : Bool)
        → is_space_tab_or_ending c ≡ b → list_all is_space_tab_or_ending (c ∷ text) ≡ true
    at go true f =
        both (is_space_tab_or_ending c) (list_all is_space_tab_or_ending text) f
        ∙ go (sym (many_cons is_space_tab_or_ending c text ∙ ap (many_choice is_space_tab_or_ending c text) f) ∙ e)
    at go false f =
        let left : Some (c ∷ text) ≡ Some [] = sym (many_cons is_space_tab_or_ending c text
        ∙ ap (many_choice is_space_tab_or_ending c text) f) ∙ e in
        absurd (cc)

not_all_white : (text : Text) (d : ℕ) (more : Text) → many is_space_tab_or_ending text ≡ Some (d ∷ more)
    → list_all is_space_tab_or_ending text ≡ false
not_all_white [] d more e = absurd (cc (many_nil is_space_tab_or_ending))
not_all_white (c ∷ text) d more e = at (λ k. not_all_white text d more k) (is_space_tab_or_ending c) refl
  where
    at : (many is_space_tab_or_ending text ≡ Some (d ∷ more) → list_all is_space_tab_or_ending text ≡ false) → (b : Bool)
        → is_space_tab_or_ending c ≡ b → list_all is_space_tab_or_ending (c ∷ text) ≡ false
    at go true f =
        both (is_space_tab_or_ending c) (list_all is_space_tab_or_ending text) f
        ∙ go (sym (many_cons is_space_tab_or_ending c text ∙ ap (many_choice is_space_tab_or_ending c text) f) ∙ e)
    at go false f = and_left (is_space_tab_or_ending c) (list_all is_space_tab_or_ending text) f

-- white space before another word is one space
gap_is_one_space : (c : ℕ) (text : Text) (d : ℕ) (more : Text) → is_space_tab_or_ending c ≡ true
    → many is_space_tab_or_ending text ≡ Some (d ∷ more) →
    collapse (strip_end is_space_tab_or_ending (c ∷ text)) ≡ 32 ∷ collapse (strip_end is_space_tab_or_ending (d ∷ more))
gap_is_one_space c [] d more h e = absurd (cc (many_nil is_space_tab_or_ending))
gap_is_one_space c (b ∷ text) d more h e =
    ap collapse (end_keeps is_space_tab_or_ending c (b ∷ text)
    (both (is_space_tab_or_ending c) (list_all is_space_tab_or_ending (b ∷ text)) h ∙ not_all_white (b ∷ text) d more e))
    ∙ at (λ f k. gap_is_one_space b text d more f k) (is_space_tab_or_ending b) refl
  where
    kept : strip_end is_space_tab_or_ending (b ∷ text) ≡ b ∷ strip_end is_space_tab_or_ending text
    kept = end_keeps is_space_tab_or_ending b text (not_all_white (b ∷ text) d more e)

    at : (is_space_tab_or_ending b ≡ true → many is_space_tab_or_ending text ≡ Some (d ∷ more)
        → collapse (strip_end is_space_tab_or_ending (b ∷ text)) ≡ 32 ∷ collapse (strip_end is_space_tab_or_ending (d ∷ more))) →
        (t : Bool) → is_space_tab_or_ending b ≡ t → collapse (c ∷ strip_end is_space_tab_or_ending (b ∷ text))
        ≡ 32 ∷ collapse (strip_end is_space_tab_or_ending (d ∷ more))
    at go true f =
        collapse_space c (strip_end is_space_tab_or_ending (b ∷ text)) h (ap (λ (t : Text). is_space_tab_or_ending (first_or 0 t)) kept ∙ f)
        ∙ go f (sym (many_cons is_space_tab_or_ending b text ∙ ap (many_choice is_space_tab_or_ending b text) f) ∙ e)
    at go false f =
        let left : Some (b ∷ text) ≡ Some (d ∷ more) = sym (many_cons is_space_tab_or_ending b text
        ∙ ap (many_choice is_space_tab_or_ending b text) f) ∙ e in
        let same : b ∷ text ≡ d ∷ more = cc in
        collapse_last c (strip_end is_space_tab_or_ending (b ∷ text)) h (ap (λ (t : Text). is_space_tab_or_ending (first_or 0 t)) kept ∙ f)
        ∙ ap (λ (t : Text). 32 ∷ collapse (strip_end is_space_tab_or_ending t)) same

-- the white space between a word and the next
gap_before : (gap : Text) (d : ℕ) (more : Text) → BeginsGap gap → many is_space_tab_or_ending gap ≡ Some (d ∷ more) →
    collapse (strip_end is_space_tab_or_ending gap) ≡ 32 ∷ collapse (strip_end is_space_tab_or_ending (d ∷ more))
gap_before [] d more h e = absurd (cc (many_nil is_space_tab_or_ending))
gap_before (c ∷ text) d more h e = gap_is_one_space c text d more h
    (sym (many_cons is_space_tab_or_ending c text ∙ ap (many_choice is_space_tab_or_ending c text) h) ∙ e)

-- ---- a word, and what follows it

front_of_word : (text gap front : Text) → many is_word_char text ≡ Some gap → text ≡ front ++ gap →
    collapse (strip_end is_space_tab_or_ending text) ≡ front ++ collapse (strip_end is_space_tab_or_ending gap)
front_of_word text gap front e f =
    let w : Word text gap = word_stays text gap e in
    let same : w.0 ≡ front = append_cancel_right w.0 front gap (sym w.1 ∙ f) in
    w.2 ∙ ap (λ (t : Text). t ++ collapse (strip_end is_space_tab_or_ending gap)) same

-- the last word
pub last_word : (text gap rest front old new : Text) → Some gap ≡ many is_word_char text → Some rest ≡ many is_space_tab_or_ending gap
    → text ≡ front ++ gap → new ≡ old ++ front → rest ≡ [] →
    new ++ collapse (strip_end is_space_tab_or_ending rest) ≡ old ++ collapse (strip_end is_space_tab_or_ending text)
last_word text gap rest front old new e f g h n =
    let none : collapse (strip_end is_space_tab_or_ending gap) ≡ []
    = ap collapse (end_of_all is_space_tab_or_ending gap (all_white gap (sym f ∙ ap Some n))) ∙ collapse_nil in
    let nothing : collapse (strip_end is_space_tab_or_ending rest) ≡ []
    = ap (λ (t : Text). collapse (strip_end is_space_tab_or_ending t)) n ∙ ap collapse (end_nil is_space_tab_or_ending) ∙ collapse_nil in
    ap (λ (t : Text). new ++ t) nothing ∙ append-nil new ∙ h
    ∙ ap (λ (t : Text). old ++ t) (sym (front_of_word text gap front (sym e) g ∙ ap (λ (t : Text). front ++ t) none ∙ append-nil front))

-- a word that another follows
pub word_and_space : (text gap rest front old mid new : Text) → Some gap ≡ many is_word_char text
    → Some rest ≡ many is_space_tab_or_ending gap → text ≡ front ++ gap → mid ≡ old ++ front → new ≡ mid ++ 32 ∷ [] → 0 < length rest →
    new ++ collapse (strip_end is_space_tab_or_ending rest) ≡ old ++ collapse (strip_end is_space_tab_or_ending text)
word_and_space text gap [] front old mid new e f g h k n = absurd (omega arith)
word_and_space text gap (d ∷ more) front old mid new e f g h k n =
    let tail : Text = collapse (strip_end is_space_tab_or_ending (d ∷ more)) in
    let spaced : collapse (strip_end is_space_tab_or_ending gap) ≡ 32 ∷ tail = gap_before gap d more (gap_begins text gap (sym e)) (sym f)
    in
    let whole : collapse (strip_end is_space_tab_or_ending text) ≡ front ++ 32 ∷ tail = front_of_word text gap front (sym e) g
    ∙ ap (λ (t : Text). front ++ t) spaced in
    ap (λ (t : Text). t ++ tail) k ∙ append_assoc mid (32 ∷ []) tail ∙ ap (λ (t : Text). t ++ 32 ∷ tail) h
    ∙ append_assoc old front (32 ∷ tail) ∙ ap (λ (t : Text). old ++ t) (sym whole)

-- ---- how much is left

run_is_no_longer : (test : ℕ → Bool) (text rest : Text) → many test text ≡ Some rest → length rest ≤ length text
run_is_no_longer test text rest e = rest_is_shorter rest text (many_leaves test text rest e)

-- a word and the white space behind it are a character at least
pub word_takes : (text gap rest : Text) → Some gap ≡ many is_word_char text → Some rest ≡ many is_space_tab_or_ending gap → 0 < length text
    → length rest < length text
word_takes [] gap rest e f n = absurd (omega arith)
word_takes (c ∷ text) gap rest e f n = at (is_word_char c) refl
  where
    at : (b : Bool) → is_word_char c ≡ b → length rest < length (c ∷ text)
    at true g =
        let a : length gap ≤ length text = run_is_no_longer is_word_char text gap
        (sym (many_cons is_word_char c text ∙ ap (many_choice is_word_char c text) g) ∙ sym e) in
        let b : length rest ≤ length gap = run_is_no_longer is_space_tab_or_ending gap rest (sym f) in
        omega arith
    at false g =
        let left : Some (c ∷ text) ≡ Some gap = sym (many_cons is_word_char c text ∙ ap (many_choice is_word_char c text) g) ∙ sym e in
        let same : c ∷ text ≡ gap = cc in
        let white : is_space_tab_or_ending c ≡ true = not-false (is_space_tab_or_ending c) g in
        let on : many is_space_tab_or_ending text ≡ Some rest = sym (many_cons is_space_tab_or_ending c text
        ∙ ap (many_choice is_space_tab_or_ending c text) white) ∙ ap (many is_space_tab_or_ending) same ∙ sym f in
        let a : length rest ≤ length text = run_is_no_longer is_space_tab_or_ending text rest on in
        omega arith

-- ---- bytes and characters

-- behind the last word nothing is left
pub nothing_left : (done rest whole : Text) → rest ≡ [] → done ++ collapse (strip_end is_space_tab_or_ending rest) ≡ whole → done ≡ whole
nothing_left done rest whole n e =
    let nothing : collapse (strip_end is_space_tab_or_ending rest) ≡ []
    = ap (λ (t : Text). collapse (strip_end is_space_tab_or_ending t)) n ∙ ap collapse (end_nil is_space_tab_or_ending) ∙ collapse_nil in
    sym (ap (λ (t : Text). done ++ t) nothing ∙ append-nil done) ∙ e

-- what `is_empty` answers of something
pub is_some : (test : Bool) (n : ℕ) → test ≡ (n == 0) → test ≡ false → 0 < n
is_some test n e h = let more : (n == 0) ≡ false = sym e ∙ h in grind (arith, nat_tests)
