-- What one step of a scanner's loop does.
use Rattle.std.proofs.Common.{◌≡◌, ℕ, zero, suc, ◌-◌, ◌<◌, Bool, true, false, not, ◌==◌, [], ◌∷◌, ◌++◌, refl, ap, sym, ◌∙◌, Option, Some}
use Rattle.std.proofs.Common.{None, arith}
use Rattle.std.specs.Prelude.{option_and_then}
use Rattle.doc_rules.specs.Characters.{Text}
use Rattle.doc_rules.specs.Parsers.{Parser, is, many, ◌then◌, at_most, repeated, through}
use Rattle.doc_rules.specs.Rests.{IsRest}
use Rattle.doc_rules.proofs.ParserLaws.{Takes, is_rest_again, repeated_step}

-- ---- one character further

pub one_further : (c : ℕ) (behind rest text : Text) → rest ≡ c ∷ behind → IsRest rest text → IsRest behind text
one_further c behind rest text e h = is_rest_again text rest behind (record { front = c ∷ []; split = e }) h

pub one_behind : (c : ℕ) (rest text : Text) → text ≡ c ∷ rest → IsRest rest text
one_behind c rest text e = record { front = c ∷ []; split = e }

after_test : (ℕ → Bool) → ℕ → Text → Bool → Option Text
unfolding many
after_test class c rest b = elim b [ true ↦ many class rest | false ↦ Some (c ∷ rest) ]

pub many_goes_on : (class : ℕ → Bool) (c : ℕ) (behind rest : Text) → rest ≡ c ∷ behind → class c ≡ true
    → many class rest ≡ many class behind
unfolding many after_test
many_goes_on class c behind rest e h = ap (many class) e ∙ ap (after_test class c behind) h

-- ---- a bounded number of times

after_one : ℕ → Parser → Text → Option Text → Option Text
unfolding at_most
after_one n read text found = elim found [ None ↦ Some text | Some rest ↦ at_most n read rest ]

pub at_most_ends : (n : ℕ) (read : Parser) (text : Text) → None ≡ read text → Some text ≡ at_most n read text
unfolding at_most after_one
at_most_ends zero read text e = refl
at_most_ends (suc n) read text e = ap (after_one n read text) e

pub at_most_goes_on : (n : ℕ) (read : Parser) (text rest : Text) → 0 < n → Some rest ≡ read text
    → at_most n read text ≡ at_most (n - 1) read rest
unfolding at_most after_one
at_most_goes_on zero read text rest l e = absurd (omega arith)
at_most_goes_on (suc n) read text rest l e = let same : n ≡ suc n - 1 = omega arith in sym (ap (after_one n read text) e)
    ∙ ap (λ m. at_most m read rest) same

-- ---- one after the other

pub then_is : (first second : Parser) (text mid : Text) (out : Option Text) → Some mid ≡ first text → out ≡ second mid
    → out ≡ (first then second) text
then_is first second text mid out e f = f ∙ ap (option_and_then second) e

-- ---- again and again

once_and_again : Parser → Text → Option Text → Option Text
once_and_again read text found = elim found [ None ↦ Some text | Some mid ↦ repeated read mid ]

pub repeated_ends : (read : Parser) (text : Text) → Takes read → None ≡ read text → Some text ≡ repeated read text
unfolding once_and_again
repeated_ends read text h e = ap (once_and_again read text) e ∙ sym (repeated_step read text h)

pub repeated_goes_on : (read : Parser) (text rest : Text) → Takes read → Some rest ≡ read text → repeated read text ≡ repeated read rest
unfolding once_and_again
repeated_goes_on read text rest h e = repeated_step read text h ∙ sym (ap (once_and_again read text) e)

-- ---- up to a place

up_to : Parser → Text → Option Text → Option Text
unfolding through
up_to end rest found = elim found [ Some after ↦ Some after | None ↦ through end rest ]

pub through_here : (end : Parser) (text after : Text) → Some after ≡ end text → Some after ≡ through end text
unfolding through up_to
through_here end [] after e = e
through_here end (c ∷ rest) after e = ap (up_to end rest) e

-- where it doesn't stand here, it is sought further on, up to the end of the text
pub through_further : (end : Parser) (c : ℕ) (text rest : Text) → text ≡ c ∷ rest → None ≡ end text → through end text ≡ through end rest
unfolding through up_to
through_further end c text rest t e = ap (through end) t ∙ sym (ap (up_to end rest) (e ∙ ap end t))

pub through_ends : (end : Parser) (text : Text) → text ≡ [] → None ≡ end text → None ≡ through end text
unfolding through
through_ends end text t e = e ∙ ap end t ∙ sym (ap (through end) t)

-- where no end stands behind one place, none stands behind a later one: a caller need not seek it again
pub no_end_behind : (end : Parser) (front rest : Text) → through end (front ++ rest) ≡ None → through end rest ≡ None
unfolding through up_to
no_end_behind end [] rest e = e
no_end_behind end (c ∷ front) rest e = no_end_behind end front rest (at (end (c ∷ (front ++ rest))) e)
  where
    at : (found : Option Text) → up_to end (front ++ rest) found ≡ None → through end (front ++ rest) ≡ None
    at None f = f
    at (Some after) f = absurd cc

here : Bool → Text → Option Text
here b rest = elim b [ true ↦ Some rest | false ↦ None ]

-- all up to and with the first place of a character is the run of the others, and it
pub through_is : (c : ℕ) (text : Text) → through (is c) text ≡ (many (λ d. not (d == c)) then is c) text
unfolding through many here
through_is c [] = refl
through_is c (d ∷ rest) = at (through_is c rest) (d == c) refl
  where
    at : through (is c) rest ≡ (many (λ e. not (e == c)) then is c) rest → (b : Bool) → (d == c) ≡ b →
        (elim (here b rest) [ Some after ↦ Some after | None ↦ through (is c) rest ])
        ≡ option_and_then (is c) (elim (not b) [ true ↦ many (λ e. not (e == c)) rest | false ↦ Some (d ∷ rest) ])
    at again true e = sym (ap (λ b. here b rest) e)
    at again false e = again
