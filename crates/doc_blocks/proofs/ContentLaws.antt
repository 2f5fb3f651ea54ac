-- The first line of a text, and what is read of a line.
use Rattle.std.proofs.Common.{◌≡◌, ◌∙◌, ℕ, ◌<◌, Bool, true, false, not, ◌==◌, ◌||◌, if◌then◌else◌, List, [], ◌∷◌, ◌++◌, map}
use Rattle.std.proofs.Common.{append_assoc, append-nil, length, drop, refl, ap, sym, subst, arith, Option, Some, None}
use Rattle.std.specs.Prelude.{chars, slice_index}
use Rattle.std.specs.Str.{IsUtf8, IsCharBoundary}
use Rattle.std.proofs.lemmas.Str.{IsCharBoundary-before_ascii}
use Rattle.memchr.specs.Find.{Passes, Nowhere, NoneBefore, is_byte3}
use Rattle.doc_lines.proofs.ByteSearch.{IsMissedBefore, stops_at, stops_nowhere}
use Rattle.std.specs.List.{list_all}
use Rattle.std.proofs.lemmas.Bool.{both_ways, and_parts, not-true}
use Rattle.std.proofs.lemmas.Bool.Decides.{nat_tests}
use Rattle.std.proofs.lemmas.List.{append_cancel_right}
use Rattle.doc_rules.specs.Characters.{Text, is_ending}
use Rattle.doc_rules.specs.Parsers.{is}
use Rattle.doc_rules.specs.Lines.{ends_line, onto_first, lines_of, without_ending, secure_char}
use Rattle.doc_rules.proofs.PageLineLaws.{lf_ends}
use Rattle.doc_lines.specs.RestSteps.{IsCutBefore, begins_in, IsAsciiClass}
use Rattle.doc_blocks.specs.ContentSteps.{ends_plain, behind_lf, behind_ending, IsFirstLine}
use Rattle.doc_page_parts.proofs.Bools.{or_first, or_second}

pub endings_are_ascii : IsAsciiClass is_ending
endings_are_ascii c e = grind (arith, nat_tests)

pub ends_are_ascii : IsAsciiClass ends_plain
unfolding ends_plain
ends_are_ascii c e = grind (arith, nat_tests)

-- ---- where the search for an end stops

is_false : (b : Bool) → ¬ (b ≡ true) → b ≡ false
is_false true h = absurd (h refl)
is_false false h = refl

abbrev IsEnd : List ℕ → ℕ → Type 0
IsEnd text = Passes (is_byte3 10 13 0) text

missed_before : (text : List ℕ) (n : ℕ) → Nowhere (IsEnd text) 0 n → IsMissedBefore ends_plain text n
unfolding ends_plain
missed_before text n h k less = is_false (is_byte3 10 13 0 (slice_index text k)) (h k (omega arith) less)

pub end_found : (text searched : List ℕ) (n : ℕ) → searched ≡ text
    → NoneBefore (IsEnd searched) 0 (length searched) n × IsEnd searched n → NoneBefore (IsEnd text) 0 (length text) n × IsEnd text n
end_found text searched n e h = subst (λ (t : List ℕ). NoneBefore (IsEnd t) 0 (length t) n × IsEnd t n) e h

pub end_at_boundary : (text : List ℕ) (n : ℕ) → NoneBefore (IsEnd text) 0 (length text) n × IsEnd text n → IsCharBoundary text n
unfolding ends_plain
end_at_boundary text n h = IsCharBoundary-before_ascii text n h.0.high (ends_are_ascii (slice_index text n) h.1)

pub cut_at_end : (text rest : List ℕ) (n : ℕ) → IsUtf8 text → NoneBefore (IsEnd text) 0 (length text) n × IsEnd text n
    → rest ≡ drop n text → IsCutBefore ends_plain (chars text) (chars rest)
unfolding ends_plain
cut_at_end text rest n utf8 h e = stops_at ends_plain ends_are_ascii text rest n utf8 h.0.high (missed_before text n h.0.before) h.1 e

pub cut_nowhere : (text searched : List ℕ) → searched ≡ text → IsUtf8 text → Nowhere (IsEnd searched) 0 (length searched)
    → IsCutBefore ends_plain (chars text) (chars [])
cut_nowhere text searched e utf8 h =
    let none : Nowhere (IsEnd text) 0 (length text) = subst (λ (t : List ℕ). Nowhere (IsEnd t) 0 (length t)) e h in
    stops_nowhere ends_plain ends_are_ascii text (length text) utf8 (omega arith) (missed_before text (length text) none)

one_of_both : (a b : Bool) → (a || b) ≡ true → a ≡ false → b ≡ true
one_of_both true b e f = absurd (both_ways true f refl)
one_of_both false b e f = e

other_of_both : (a b : Bool) → (a || b) ≡ true → b ≡ false → a ≡ true
other_of_both true b e f = refl
other_of_both false b e f = absurd (both_ways b f e)

-- ---- what is behind an ending, by what is found at the front

abbrev behind_by : ℕ → Text → (lf cr : Bool) → Text
behind_by c rest lf cr = elim lf [ true ↦ rest | false ↦ elim cr [ true ↦ behind_lf rest | false ↦ c ∷ rest ] ]

abbrev behind_lf_by : Text → Option Text → Text
behind_lf_by text lf = elim lf [ Some rest ↦ rest | None ↦ text ]

abbrev behind_found : Text → (lf cr : Option Text) → Text
behind_found text lf cr = elim lf [ Some rest ↦ rest | None ↦ elim cr [ Some rest ↦ behind_lf_by rest (is 10 rest) | None ↦ text ] ]

behind_lf_is : (text : Text) → behind_lf text ≡ behind_lf_by text (is 10 text)
unfolding behind_lf
behind_lf_is [] = refl
behind_lf_is (c ∷ rest) = at (c == 10)
  where
    at : (lf : Bool) → (elim lf [ true ↦ rest | false ↦ c ∷ rest ]) ≡ behind_lf_by (c ∷ rest) (elim lf [ true ↦ Some rest | false ↦ None ])
    at true = refl
    at false = refl

behind_is : (text : Text) → behind_ending text ≡ behind_found text (is 10 text) (is 13 text)
unfolding behind_ending
behind_is [] = refl
behind_is (c ∷ rest) = at (c == 10) (c == 13)
  where
    at : (lf cr : Bool) → behind_by c rest lf cr
        ≡ behind_found (c ∷ rest) (elim lf [ true ↦ Some rest | false ↦ None ]) (elim cr [ true ↦ Some rest | false ↦ None ])
    at true cr = refl
    at false true = behind_lf_is rest
    at false false = refl

pub behind_first : (text rest : Text) → Some rest ≡ is 10 text → rest ≡ behind_ending text
behind_first text rest e = ap (λ (o : Option Text). behind_found text o (is 13 text)) e ∙ sym (behind_is text)

pub behind_none : (text : Text) → None ≡ is 10 text → None ≡ is 13 text → text ≡ behind_ending text
behind_none text e f =
    ap (λ (o : Option Text). behind_found text o None) e ∙ (ap (λ (o : Option Text). behind_found text (is 10 text) o) f
    ∙ sym (behind_is text))

behind_cr : (text rest : Text) → None ≡ is 10 text → Some rest ≡ is 13 text → behind_lf_by rest (is 10 rest) ≡ behind_ending text
behind_cr text rest e f =
    ap (λ (o : Option Text). behind_found text o (Some rest)) e ∙ (ap (λ (o : Option Text). behind_found text (is 10 text) o) f
    ∙ sym (behind_is text))

pub behind_both : (text rest more : Text) → None ≡ is 10 text → Some rest ≡ is 13 text → Some more ≡ is 10 rest
    → more ≡ behind_ending text
behind_both text rest more e f g = ap (behind_lf_by rest) g ∙ behind_cr text rest e f

pub behind_second : (text rest : Text) → None ≡ is 10 text → Some rest ≡ is 13 text → None ≡ is 10 rest → rest ≡ behind_ending text
behind_second text rest e f g = ap (behind_lf_by rest) g ∙ behind_cr text rest e f

-- ---- the first line

-- this text begins with a line that is this one without its ending, and this one is left behind it, which is shorter
pub record IsFirst (text line rest : Text) : Type 0 where
  pub first : IsFirstLine text line rest
  pub shorter : length rest < length text

abbrev lines_by : ℕ → Text → Bool → List Text
lines_by c rest ends = elim ends [ true ↦ (c ∷ []) ∷ lines_of rest | false ↦ onto_first c (lines_of rest) ]

cut_by : ℕ → Text → Bool → Text
cut_by c rest ends = elim ends [ true ↦ [] | false ↦ c ∷ without_ending rest ]

-- a line of an ending alone
alone : (c : ℕ) (rest : Text) → is_ending c ≡ true → ends_line c rest ≡ true → IsFirst (c ∷ rest) [] rest
unfolding lines_of without_ending cut_by
alone c rest ends here = record {
  first = record { whole = c ∷ []; first = ap (lines_by c rest) here; content = sym (ap (cut_by c []) ends) };
  shorter = omega arith;
}

-- a CR LF
both_alone : (rest : Text) → IsFirst (13 ∷ 10 ∷ rest) [] rest
unfolding lines_of ends_line onto_first without_ending
both_alone rest = record {
  first = record {
    whole = 13 ∷ 10 ∷ [];
    first = ap (onto_first 13) (ap (lines_by 10 rest) (lf_ends 10 rest refl));
    content = refl;
  };
  shorter = omega arith;
}

abbrev lf_by : ℕ → Text → Bool → Text
lf_by d rest lf = elim lf [ true ↦ rest | false ↦ d ∷ rest ]

cr_first : (rest : Text) → IsFirst (13 ∷ rest) [] (behind_lf rest)
unfolding behind_lf ends_line
cr_first [] = alone 13 [] refl refl
cr_first (d ∷ rest) = at (d == 10) refl
  where
    at : (lf : Bool) → (d == 10) ≡ lf → IsFirst (13 ∷ d ∷ rest) [] (lf_by d rest lf)
    at true e =
        let same : d ≡ 10 = grind (arith, nat_tests) in
        subst (λ (n : ℕ). IsFirst (13 ∷ n ∷ rest) [] rest) (sym same) (both_alone rest)
    at false e = alone 13 (d ∷ rest) refl (ap not e)

ending_first : (c : ℕ) (rest : Text) → is_ending c ≡ true → IsFirst (c ∷ rest) [] (behind_ending (c ∷ rest))
unfolding behind_ending
ending_first c rest e = at (c == 10) refl
  where
    at : (lf : Bool) → (c == 10) ≡ lf → IsFirst (c ∷ rest) [] (behind_by c rest lf (c == 13))
    at true here = alone c rest e (lf_ends c rest here)
    at false here =
        let cr : (c == 13) ≡ true = one_of_both (c == 10) (c == 13) e here in
        let same : c ≡ 13 = grind (arith, nat_tests) in
        subst (λ (b : Bool). IsFirst (c ∷ rest) [] (behind_by c rest false b)) (sym cr)
        (subst (λ (n : ℕ). IsFirst (n ∷ rest) [] (behind_lf rest)) (sym same) (cr_first rest))

goes_on : (c : ℕ) (rest : Text) → is_ending c ≡ false → ends_line c rest ≡ false
unfolding ends_line
goes_on c [] e = e
goes_on c (d ∷ rest) e = rw (or_first (c == 10) (c == 13) e) (rw (or_second (c == 10) (c == 13) e) refl)

-- one more character before it
one_more : (c : ℕ) (text line rest : Text) → is_ending c ≡ false → IsFirst text line rest → IsFirst (c ∷ text) (c ∷ line) rest
unfolding lines_of onto_first without_ending cut_by
one_more c text line rest other h = record {
  first = record {
    whole = c ∷ h.first.whole;
    first = ap (lines_by c text) (goes_on c text other) ∙ ap (onto_first c) h.first.first;
    content = ap (λ (l : Text). c ∷ l) h.first.content ∙ sym (ap (cut_by c h.first.whole) other);
  };
  shorter = let less : length rest < length text = h.shorter in omega (arith, less);
}

-- a line that the text ends with
last_one : (c : ℕ) → is_ending c ≡ false → IsFirst (c ∷ []) (c ∷ []) []
unfolding lines_of onto_first without_ending cut_by
last_one c other = record {
  first = record {
    whole = c ∷ [];
    first = ap (lines_by c []) (goes_on c [] other);
    content = sym (ap (cut_by c []) other);
  };
  shorter = omega arith;
}

-- characters of which none ends a line, before an ending or the end
first_is : (class : ℕ → Bool) → ((c : ℕ) → class c ≡ false → is_ending c ≡ false) → (front rest : Text)
    → list_all (λ c. not (class c)) front ≡ true → begins_in is_ending rest ≡ true → 0 < length (front ++ rest)
    → IsFirst (front ++ rest) front (behind_ending rest)
unfolding behind_ending
first_is class within [] [] all stop some = absurd (omega (arith, some))
first_is class within [] (c ∷ rest) all stop some = ending_first c rest stop
first_is class within (c ∷ []) [] all stop some =
    last_one c (within c (not-true (class c) (and_parts (not (class c)) true all).0))
first_is class within (c ∷ []) (d ∷ rest) all stop some =
    one_more c (d ∷ rest) [] (behind_ending (d ∷ rest)) (within c (not-true (class c) (and_parts (not (class c)) true all).0))
    (ending_first d rest stop)
first_is class within (c ∷ d ∷ front) rest all stop some =
    let parts = and_parts (not (class c)) (list_all (λ e. not (class e)) (d ∷ front)) all in
    one_more c (d ∷ front ++ rest) (d ∷ front) (behind_ending rest) (within c (not-true (class c) parts.0))
    (first_is class within (d ∷ front) rest parts.1 stop (omega arith))

outside_of : (class : ℕ → Bool) (text line stop : Text) → IsCutBefore class text stop → text ≡ line ++ stop
    → list_all (λ c. not (class c)) line ≡ true
outside_of class text line stop h e =
    subst (λ (f : Text). list_all (λ c. not (class c)) f ≡ true) (sym (append_cancel_right line h.front stop (sym e ∙ h.split))) h.outside

-- the text before an ending is the first line, and what is behind the ending is left
cut_first : (class : ℕ → Bool) → ((c : ℕ) → class c ≡ false → is_ending c ≡ false) → (text line stop rest : Text)
    → IsCutBefore class text stop → begins_in is_ending stop ≡ true → text ≡ line ++ stop → rest ≡ behind_ending stop → 0 < length text
    → IsFirst text line rest
cut_first class within text line stop rest h at e k some =
    subst (λ (t : Text). IsFirst t line rest) (sym e)
    (subst (λ (r : Text). IsFirst (line ++ stop) line r) (sym k)
    (first_is class within line stop (outside_of class text line stop h e) at (subst (λ (t : Text). 0 < length t) e some)))

pub line_cut : (text line stop rest : Text) → IsCutBefore is_ending text stop → text ≡ line ++ stop → rest ≡ behind_ending stop
    → 0 < length text → IsFirst text line rest
line_cut text line stop rest h e k some = cut_first is_ending (λ c f. f) text line stop rest h h.stop e k some

secure_one : (c : ℕ) → (c == 0) ≡ false → secure_char c ≡ c
unfolding secure_char
secure_one c e = ap (λ (b : Bool). if b then 0xFFFD else c) e

-- characters of which none is U+0000 are read as they stand
secure_same : (text : Text) → list_all (λ c. not (ends_plain c)) text ≡ true → map secure_char text ≡ text
unfolding ends_plain
secure_same [] e = refl
secure_same (c ∷ text) e =
    let parts = and_parts (not (ends_plain c)) (list_all (λ d. not (ends_plain d)) text) e in
    ap (λ (x : ℕ). x ∷ map secure_char text) (secure_one c (or_second (is_ending c) (c == 0) (not-true (ends_plain c) parts.0)))
    ∙ ap (λ (xs : Text). c ∷ xs) (secure_same text parts.1)

after_null : ℕ → Text → Bool → Option Text
after_null c rest b = elim b [ true ↦ Some rest | false ↦ None ]

no_null : (c : ℕ) (rest : Text) (b : Bool) → after_null c rest b ≡ None → b ≡ false
unfolding after_null
no_null c rest true e = cc
no_null c rest false e = refl

ending_stops : (rest : Text) → begins_in ends_plain rest ≡ true → is 0 rest ≡ None → begins_in is_ending rest ≡ true
unfolding ends_plain after_null
ending_stops [] e f = refl
ending_stops (c ∷ rest) e f = other_of_both (is_ending c) (c == 0) e (no_null c rest (c == 0) f)

is_null_or_ending : (c : ℕ) → ends_plain c ≡ false → is_ending c ≡ false
unfolding ends_plain
is_null_or_ending c e = or_first (is_ending c) (c == 0) e

-- the same where the search stopped at U+0000 too, and did not
pub plain_cut : (text line stop rest : Text) → IsCutBefore ends_plain text stop → is 0 stop ≡ None → text ≡ line ++ stop
    → rest ≡ behind_ending stop → 0 < length text → IsFirst text line rest
plain_cut text line stop rest h none e k some =
    cut_first ends_plain is_null_or_ending text line stop rest h (ending_stops stop h.stop none) e k some

pub plain_is_secure : (text line stop : Text) → IsCutBefore ends_plain text stop → text ≡ line ++ stop → map secure_char line ≡ line
plain_is_secure text line stop h e = secure_same line (outside_of ends_plain text line stop h e)

-- one more character
pub secured : (before rest text behind out out' : Text) (c d : ℕ) → text ≡ before ++ rest → rest ≡ c ∷ behind
    → out ≡ map secure_char before → out' ≡ out ++ d ∷ [] → d ≡ secure_char c →
    (text ≡ (before ++ c ∷ []) ++ behind) × (out' ≡ map secure_char (before ++ c ∷ []))
secured before rest text behind out out' c d e f g h k = (
  e ∙ (ap (λ (xs : Text). before ++ xs) f ∙ sym (append_assoc before (c ∷ []) behind)),
  h ∙ (ap (λ (xs : Text). xs ++ d ∷ []) g ∙ (ap (λ (x : ℕ). map secure_char before ++ x ∷ []) k ∙ sym (map-push before c))),
)
  where
    map-push : (xs : Text) (x : ℕ) → map secure_char (xs ++ x ∷ []) ≡ map secure_char xs ++ secure_char x ∷ []
    map-push [] x = refl
    map-push (y ∷ xs) x = ap (λ (ys : Text). secure_char y ∷ ys) (map-push xs x)

-- no more characters
pub secured_all : (before rest text out : Text) → text ≡ before ++ rest → rest ≡ [] → out ≡ map secure_char before
    → out ≡ map secure_char text
secured_all before rest text out e f g = g ∙ ap (map secure_char) (sym (e ∙ (ap (λ (xs : Text). before ++ xs) f ∙ append-nil before)))
