-- Lines, with and without their endings, are those of doc_page.
use Rattle.std.proofs.Common.{◌≡◌, ℕ, zero, suc, ◌-◌, ◌<◌, ◌≤◌, Bool, true, false, List, [], ◌∷◌, refl, ap, sym, ◌∙◌, subst, length, take}
use Rattle.std.proofs.Common.{get_or, map, arith}
use Rattle.std.specs.Prelude.{◌==◌, ◌||◌, ◌&&◌, not, if◌then◌else◌}
use Rattle.std.specs.List.{list_all, suffix_len, onto_first as std_onto_first, AllByRecursion}
use Rattle.std.proofs.lemmas.List.Folds.{list_all_at}
use Rattle.std.proofs.lemmas.List.Sums.{suffix_len_is}
use Rattle.std.proofs.lemmas.Bool.{false≢true, true_from_ne_false}
use Rattle.doc_page_parts.specs.Lines.{lines, ends_line as page_ends_line, without_ending as page_without_ending}
use Rattle.doc_rules.specs.Characters.{Text, is_ending}
use Rattle.doc_rules.specs.Lines.{ends_line, onto_first, lines_of, without_ending}
use Rattle.doc_rules.specs.Laws.{PageLinesAgree}
use Rattle.std.proofs.Math.Bool.{and-true}

-- ---- lines

same_end : (c : ℕ) (rest : Text) → page_ends_line c rest ≡ ends_line c rest
unfolding ends_line
same_end c [] = ap (λ b. (c == 10) || b) (and-true (c == 13))
same_end c (d ∷ rest) = refl

same_front : (c : ℕ) (some : List Text) → std_onto_first c some ≡ onto_first c some
unfolding onto_first
same_front c [] = refl
same_front c (line ∷ more) = refl

chosen : (c : ℕ) (b : Bool) (some : List Text) →
    (if b then (c ∷ []) ∷ some else std_onto_first c some) ≡ elim b [ true ↦ (c ∷ []) ∷ some | false ↦ onto_first c some ]
chosen c true some = refl
chosen c false some = same_front c some

same_lines : (text : Text) → lines text ≡ lines_of text
unfolding lines lines_of
same_lines [] = refl
same_lines (c ∷ rest) =
    ap (λ b. if b then (c ∷ []) ∷ lines rest else std_onto_first c (lines rest)) (same_end c rest)
    ∙ (ap (λ some. if ends_line c rest then (c ∷ []) ∷ some else std_onto_first c some) (same_lines rest)
    ∙ chosen c (ends_line c rest) (lines_of rest))

-- ---- endings stand last in a line

-- behind a character of a line ending there are only such characters
abbrev EndsOnce : Text → Type 0
EndsOnce [] = Unit {0}
EndsOnce (c ∷ rest) = elim (is_ending c) as (λ b. Type 0) [ true ↦ list_all is_ending rest ≡ true | false ↦ EndsOnce rest ]

-- so it is in each of these lines
abbrev AllEndOnce : List Text → Type 0
AllEndOnce = AllByRecursion EndsOnce

abbrev Behind : Text → Bool → Type 0
Behind rest b = elim b as (λ t. Type 0) [ true ↦ list_all is_ending rest ≡ true | false ↦ EndsOnce rest ]

put : (c : ℕ) (line : Text) (t : Bool) → is_ending c ≡ t → Behind line t → EndsOnce (c ∷ line)
put c line t e h = subst (Behind line) (sym e) h

nothing_behind : (t : Bool) → Behind [] t
nothing_behind true = refl
nothing_behind false = tt

onto_ends : (c : ℕ) (some : List Text) → is_ending c ≡ false → AllEndOnce some → AllEndOnce (onto_first c some)
unfolding onto_first
onto_ends c [] e h = (nothing_behind (is_ending c), tt)
onto_ends c (line ∷ more) e h = (put c line false e h.0, h.1)

-- a character of an ending that ends no line is a CR before a LF
lf_follows : (lf cr next : Bool) → (lf || cr) ≡ true → (lf || (cr && not next)) ≡ false → next ≡ true
lf_follows true cr next is e = absurd (false≢true (sym e))
lf_follows false false next is e = absurd (false≢true is)
lf_follows false true true is e = refl
lf_follows false true false is e = absurd (false≢true (sym e))

-- a LF ends a line
pub lf_ends : (c : ℕ) (rest : Text) → (c == 10) ≡ true → ends_line c rest ≡ true
unfolding ends_line
lf_ends c [] e = ap (λ b. b || (c == 13)) e
lf_ends c (d ∷ rest) e = ap (λ b. b || ((c == 13) && not (d == 10))) e

lf_line : (c : ℕ) (rest : Text) → (c == 10) ≡ true → lines_of (c ∷ rest) ≡ (c ∷ []) ∷ lines_of rest
unfolding lines_of
lf_line c rest e = ap (λ b. elim b [ true ↦ (c ∷ []) ∷ lines_of rest | false ↦ onto_first c (lines_of rest) ]) (lf_ends c rest e)

goes_on : (c : ℕ) (rest : Text) → AllEndOnce (lines_of rest) → ends_line c rest ≡ false → (t : Bool) → is_ending c ≡ t
    → AllEndOnce (onto_first c (lines_of rest))
unfolding ends_line onto_first
goes_on c rest h e false is = onto_ends c (lines_of rest) is h
goes_on c [] h e true is = absurd (false≢true (sym e ∙ is))
goes_on c (d ∷ more) h e true is =
    let lf : (d == 10) ≡ true = lf_follows (c == 10) (c == 13) (d == 10) is e in
    let first : lines_of (d ∷ more) ≡ (d ∷ []) ∷ lines_of more = lf_line d more lf in
    let behind : AllEndOnce ((d ∷ []) ∷ lines_of more) = subst AllEndOnce first h in
    let ending : list_all is_ending (d ∷ []) ≡ true = ap (λ b. (b || (d == 13)) && true) lf in
    subst (λ some. AllEndOnce (onto_first c some)) (sym first) (put c (d ∷ []) true is ending, behind.1)

at_rest : (c : ℕ) (rest : Text) → AllEndOnce (lines_of rest) → (t : Bool) → ends_line c rest ≡ t →
    AllEndOnce (elim t [ true ↦ (c ∷ []) ∷ lines_of rest | false ↦ onto_first c (lines_of rest) ])
at_rest c rest h true e = (nothing_behind (is_ending c), h)
at_rest c rest h false e = goes_on c rest h e (is_ending c) refl

lines_end_once : (text : Text) → AllEndOnce (lines_of text)
unfolding lines_of
lines_end_once [] = tt
lines_end_once (c ∷ rest) = at_rest c rest (lines_end_once rest) (ends_line c rest) refl

-- ---- without endings

-- these characters stand at the front of the line, and behind them there are only those of its ending
record Cut (line content : Text) : Type 0 where
  fits : length content ≤ length line
  front : take (length content) line ≡ content
  behind : (k : ℕ) → length content ≤ k → k < length line → is_ending (get_or line k 0) ≡ true
  last : 0 < length content → is_ending (get_or line (length content - 1) 0) ≡ false

cut_here : (c : ℕ) (rest : Text) → is_ending c ≡ true → list_all is_ending rest ≡ true → Cut (c ∷ rest) []
cut_here c rest is h = record {
  fits = omega arith;
  front = refl;
  behind = λ k _ l. true_from_ne_false (is_ending (get_or (c ∷ rest) k 0)) (λ e.
      false≢true (sym (list_all_at is_ending (c ∷ rest) k 0 l e) ∙ (ap (λ b. b && list_all is_ending rest) is ∙ h)));
  last = λ l. absurd (omega arith);
}

behind_more : (c : ℕ) (rest content : Text) → Cut rest content → (k : ℕ) → length (c ∷ content) ≤ k → k < length (c ∷ rest)
    → is_ending (get_or (c ∷ rest) k 0) ≡ true
behind_more c rest content cut zero h l = absurd (omega arith)
behind_more c rest content cut (suc k) h l = cut.behind k (omega arith) (omega arith)

last_more : (c : ℕ) (rest content : Text) → is_ending c ≡ false → Cut rest content
    → is_ending (get_or (c ∷ rest) (length content) 0) ≡ false
last_more c rest [] e cut = e
last_more c rest (d ∷ content) e cut =
    let place : length content ≡ length (d ∷ content) - 1 = omega arith in
    ap (λ k. is_ending (get_or rest k 0)) place ∙ cut.last (omega arith)

cut_more : (c : ℕ) (rest content : Text) → is_ending c ≡ false → Cut rest content → Cut (c ∷ rest) (c ∷ content)
cut_more c rest content e cut = record {
  fits = let h = cut.fits in omega arith;
  front = ap (λ more. c ∷ more) cut.front;
  behind = behind_more c rest content cut;
  last = λ _. let place : length (c ∷ content) - 1 ≡ length content = omega arith in ap (λ k. is_ending (get_or (c ∷ rest) k 0)) place
      ∙ last_more c rest content e cut;
}

cut_at : (c : ℕ) (rest : Text) → (EndsOnce rest → Cut rest (without_ending rest)) → (t : Bool) → is_ending c ≡ t → Behind rest t →
    Cut (c ∷ rest) (elim t [ true ↦ [] | false ↦ c ∷ without_ending rest ])
cut_at c rest more true e h = cut_here c rest e h
cut_at c rest more false e h = cut_more c rest (without_ending rest) e (more h)

cut_line : (line : Text) → EndsOnce line → Cut line (without_ending line)
unfolding without_ending
cut_line [] h = record { fits = omega arith; front = refl; behind = λ k _ l. absurd (omega arith); last = λ l. absurd (omega arith) }
cut_line (c ∷ rest) h = cut_at c rest (cut_line rest) (is_ending c) refl h

cut_is : (line content : Text) → Cut line content → page_without_ending line ≡ content
unfolding page_without_ending
cut_is line content cut =
    let ending : suffix_len is_ending line ≡ length line - length content = suffix_len_is is_ending line (length content) 0 cut.fits
    cut.behind cut.last in
    let fits = cut.fits in
    let size : length line - (length line - length content) ≡ length content = omega arith in
    ap (λ k. take (length line - k) line) ending ∙ (ap (λ k. take k line) size ∙ cut.front)

same_contents : (some : List Text) → AllEndOnce some → map page_without_ending some ≡ map without_ending some
same_contents [] h = refl
same_contents (line ∷ more) h =
    ap (λ content. content ∷ map page_without_ending more) (cut_is line (without_ending line) (cut_line line h.0))
    ∙ ap (λ contents. without_ending line ∷ contents) (same_contents more h.1)

pub page_lines_agree : PageLinesAgree
page_lines_agree text = (same_lines text, same_contents (lines_of text) (lines_end_once text))
