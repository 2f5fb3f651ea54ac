-- Letters with which an address may begin.
use Rattle.std.proofs.Common.{◌≡◌, Bool, true, false, not, ◌||◌, ◌==◌, ℕ, ◌+◌, ◌-◌, ◌<◌, List, [], ◌∷◌, ◌++◌, length}
use Rattle.std.proofs.Common.{refl, ap, sym, ◌∙◌, subst, Some, None, codes, arith, length-append}
use Rattle.std.specs.Prelude.{if◌then◌else◌}
use Rattle.std.proofs.lemmas.Bool.{eqb-true}
use Rattle.doc_rules.specs.Characters.{Text, one_of, first_or}
use Rattle.doc_rules.specs.Parsers.{before}
use Rattle.doc_rules.specs.Rules.{Rules}
use Rattle.doc_rules.specs.Definitions.{Definition}
use Rattle.doc_rules.specs.Inlines.{Inline, Literal, literals}
use Rattle.doc_rules.specs.Rests.{IsRest}
use Rattle.doc_rules.specs.BareLinks.{bare_address}
use Rattle.doc_rules.specs.Reading.{as_literal, autolink, has_live_bracket, bare_step, bare_link, item_of_kind, read_item}
use Rattle.doc_inlines_marks.specs.PlaceSteps.{StandsBefore}
use Rattle.doc_inlines.specs.ReadingSteps.{begins_always, begins_by, is_plain}
use Rattle.doc_inlines.specs.ReaderSteps.{is_uncut, made_before}
use Rattle.doc_inlines.proofs.PlainLaws.{letter_kind}
use Rattle.doc_inlines.proofs.LinkLaws.{NoBracket}
use Rattle.doc_inlines.proofs.LiveLaws.{passed_over}

-- ---- which letters they are

abbrev pub is_letter : ℕ → Bool
is_letter c = one_of (codes "whHfF") c

-- what holds of each holds of all
each_letter : (P : ℕ → Type 0) → P 119 → P 104 → P 72 → P 102 → P 70 → (c : ℕ) → is_letter c ≡ true → P c
each_letter P w h i f j c e = first (c == 119) refl e
  where
    at : (k : ℕ) → (c == k) ≡ true → P k → P c
    at k g x = subst P (sym (eqb-true c k g)) x

    fifth : (b : Bool) → (c == 70) ≡ b → (b || false) ≡ true → P c
    fifth true g x = at 70 g j
    fifth false g x = absurd cc

    fourth : (b : Bool) → (c == 102) ≡ b → (b || ((c == 70) || false)) ≡ true → P c
    fourth true g x = at 102 g f
    fourth false g x = fifth (c == 70) refl x

    third : (b : Bool) → (c == 72) ≡ b → (b || ((c == 102) || ((c == 70) || false))) ≡ true → P c
    third true g x = at 72 g i
    third false g x = fourth (c == 102) refl x

    second : (b : Bool) → (c == 104) ≡ b → (b || ((c == 72) || ((c == 102) || ((c == 70) || false)))) ≡ true → P c
    second true g x = at 104 g h
    second false g x = third (c == 72) refl x

    first : (b : Bool) → (c == 119) ≡ b → (b || ((c == 104) || ((c == 72) || ((c == 102) || ((c == 70) || false))))) ≡ true → P c
    first true g x = at 119 g w
    first false g x = second (c == 104) refl x

pub letter_uncut : (c : ℕ) → is_letter c ≡ true → is_uncut c ≡ true
letter_uncut c e = each_letter (λ k. is_uncut k ≡ true) refl refl refl refl refl c e

pub letter_no_space : (c : ℕ) → is_letter c ≡ true → (c == 32) ≡ false
letter_no_space c e = each_letter (λ k. (k == 32) ≡ false) refl refl refl refl refl c e

abbrev Unread : ℕ → Type 0
Unread k = (strikes : Bool) → not (begins_always k || begins_by strikes false k) ≡ true

unread : (c : ℕ) → is_letter c ≡ true → Unread c
unread c e = each_letter Unread w h i f j c e
  where
    w : Unread 119
    w true = refl
    w false = refl

    h : Unread 104
    h true = refl
    h false = refl

    i : Unread 72
    i true = refl
    i false = refl

    f : Unread 102
    f true = refl
    f false = refl

    j : Unread 70
    j true = refl
    j false = refl

-- where no bare links are read
pub plain_letter : (rules : Rules) (c : ℕ) → is_letter c ≡ true → rules.bare_links ≡ false → is_plain rules c ≡ true
plain_letter rules c e f = ap (λ l. not (begins_always c || begins_by rules.strikethrough l c)) f ∙ unread c e rules.strikethrough

-- ---- how they are read

letter_reads : (rules : Rules) (refs : List Definition) (last : ℕ) (made : List Inline) (c : ℕ) (rest : Text) → is_letter c ≡ true
    → rules.bare_links ≡ true → read_item rules refs last made c rest ≡ bare_link last made c rest
unfolding read_item item_of_kind
letter_reads rules refs last made c rest e f =
    ap (λ kind. item_of_kind kind rules refs last made c rest) (letter_kind c e)
    ∙ ap (λ (b : Bool). if b then bare_link last made c rest else as_literal c made) f

bracket_case : ℕ → List Inline → ℕ → Text → Bool → List Inline × ℕ
bracket_case last made c rest b = elim b [
  | true ↦ as_literal c made
  | false ↦ bare_step made c (bare_address last (c ∷ rest))
]

bracketed : (last : ℕ) (made : List Inline) (c : ℕ) (rest : Text) (b : Bool) → has_live_bracket made ≡ b
    → bare_link last made c rest ≡ bracket_case last made c rest b
unfolding bare_link bracket_case
bracketed last made c rest b e = ap (bracket_case last made c rest) e

pub in_bracket_reads : (rules : Rules) (refs : List Definition) (last : ℕ) (made : List Inline) (c : ℕ) (rest : Text) → is_letter c ≡ true
    → rules.bare_links ≡ true → has_live_bracket made ≡ true → read_item rules refs last made c rest ≡ (Literal c ∷ made, 0)
unfolding bracket_case
in_bracket_reads rules refs last made c rest e f g = letter_reads rules refs last made c rest e f ∙ bracketed last made c rest true g

pub no_address_reads : (rules : Rules) (refs : List Definition) (last : ℕ) (made : List Inline) (c : ℕ) (rest text : Text)
    → is_letter c ≡ true → rules.bare_links ≡ true → has_live_bracket made ≡ false → text ≡ c ∷ rest → bare_address last text ≡ None
    → read_item rules refs last made c rest ≡ (Literal c ∷ made, 0)
unfolding bracket_case
no_address_reads rules refs last made c rest text e f g h k =
    letter_reads rules refs last made c rest e f
    ∙ (bracketed last made c rest false g ∙ ap (bare_step made c) (ap (bare_address last) (sym h) ∙ k))

pub address_reads : (rules : Rules) (refs : List Definition) (last : ℕ) (made : List Inline) (c : ℕ) (rest text scheme address : Text)
    → is_letter c ≡ true → rules.bare_links ≡ true → has_live_bracket made ≡ false → text ≡ c ∷ rest
    → bare_address last text ≡ Some (scheme ++ address, address) → (n : ℕ) → length address - 1 ≡ n
    → read_item rules refs last made c rest ≡ (autolink (scheme ++ address) address made, n)
unfolding bracket_case
address_reads rules refs last made c rest text scheme address e f g h k n m =
    letter_reads rules refs last made c rest e f
    ∙ (bracketed last made c rest false g
    ∙ (ap (bare_step made c) (ap (bare_address last) (sym h) ∙ k) ∙ ap (λ i. (autolink (scheme ++ address) address made, i)) m))

-- ---- what is open

literals_open : (text : Text) → NoBracket (literals text)
literals_open [] = tt
literals_open (c ∷ text) = literals_open text

pub live_state : (made : List Inline) (plain rest : Text) (b : Bool) → b ≡ has_live_bracket made
    → has_live_bracket (made_before made plain rest) ≡ b
unfolding made_before
live_state made plain rest b e = passed_over (literals (before rest plain)) made (literals_open (before rest plain)) ∙ sym e

-- ---- where an address stands

pub first_in : (text rest : Text) (c : ℕ) → text ≡ c ∷ rest → is_letter c ≡ true → one_of (codes "whHfF") (first_or 0 text) ≡ true
first_in text rest c e f = ap (λ t. one_of (codes "whHfF") (first_or 0 t)) e ∙ f

pub address_rest : (text address next : Text) → text ≡ address ++ next → IsRest next text
address_rest text address next e = record { front = address; split = e }

pub address_stands : (text address next : Text) → text ≡ address ++ next → StandsBefore address next text
address_stands text address next e = record { front = []; between = []; split = e }

pub address_behind : (text rest address next : Text) (c : ℕ) → text ≡ c ∷ rest → text ≡ address ++ next → 0 < length address
    → IsRest next rest
address_behind text rest [] next c e f l = absurd (omega arith)
address_behind text rest (d ∷ address) next c e f l = record { front = address; split = tails (sym e ∙ f) }
  where
    tails : (c ∷ rest) ≡ d ∷ (address ++ next) → rest ≡ address ++ next
    tails g = cc

pub address_long : (text rest address next : Text) (c : ℕ) → text ≡ c ∷ rest → text ≡ address ++ next → 0 < length address
    → length address - 1 ≡ length rest - length next
address_long text rest address next c e f l =
    let a : length text ≡ length (c ∷ rest) = ap length e in
    let b : length text ≡ length (address ++ next) = ap length f in
    let d : length (address ++ next) ≡ length address + length next = length-append address next in
    omega arith
