-- What a parser leaves is the end of the text: what it takes stands before it. Code that goes over a text needs these.
use Rattle.std.proofs.Common.{◌≡◌, ℕ, zero, suc, ◌+◌, ◌-◌, ◌<◌, ◌≤◌, Bool, true, false, ◌==◌, [], ◌∷◌, ◌++◌, take, length, refl, ap, sym}
use Rattle.std.proofs.Common.{◌∙◌, subst, Option, Some, None, arith, append_assoc, length-append, eqb-true}
use Rattle.std.proofs.Math.Seq.{take-append_seam}
use Rattle.std.specs.Prelude.{codes}
use Rattle.doc_rules.specs.Characters.{Text, is_space_or_tab, strip_front}
use Rattle.doc_rules.specs.Rests.{IsRest}
use Rattle.doc_rules.specs.Parsers.{Parser, one, is, word, ◌then◌, ◌or◌, maybe, many, at_most, repeated, through, before}
use Rattle.doc_rules.specs.Parsers.{passing, some, line_ending, spacing, some_spacing}

-- a parser leaves the end of each text that it is given
abbrev pub Leaves : Parser → Type 0
Leaves read = (text rest : Text) → read text ≡ Some rest → IsRest rest text

-- a parser takes a character at least
abbrev pub Takes : Parser → Type 0
Takes read = (text rest : Text) → read text ≡ Some rest → length rest < length text

-- ---- the rest

pub is_all : (text : Text) → IsRest text text
is_all text = record { front = []; split = refl }

pub is_rest_behind : (c : ℕ) (rest text : Text) → IsRest rest text → IsRest rest (c ∷ text)
is_rest_behind c rest text h = record { front = c ∷ h.front; split = ap (λ more. c ∷ more) h.split }

pub is_rest_again : (a b c : Text) → IsRest c b → IsRest b a → IsRest c a
is_rest_again a b c h g = record {
  front = g.front ++ h.front;
  split = g.split
      ∙ (ap (λ more. g.front ++ more) h.split ∙ sym (append_assoc g.front h.front c));
}

pub rest_is_shorter : (rest text : Text) → IsRest rest text → length rest ≤ length text
rest_is_shorter rest text h =
    let e : length text ≡ length (h.front ++ rest) = ap length h.split in
    let f : length (h.front ++ rest) ≡ length h.front + length rest = length-append h.front rest in
    omega arith

-- what stands before the rest, and the rest, are the text
pub before_rest : (rest text : Text) → IsRest rest text → text ≡ before rest text ++ rest
before_rest rest text h =
    let e : length text ≡ length (h.front ++ rest) = ap length h.split in
    let f : length (h.front ++ rest) ≡ length h.front + length rest = length-append h.front rest in
    let n : length text - length rest ≡ length h.front = omega arith in
    h.split ∙ ap (λ front. front ++ rest) (sym (ap (λ k. take k text) n
    ∙ (ap (take (length h.front)) h.split ∙ take-append_seam h.front rest)))

-- ---- one thing

abbrev if_passed : Bool → Text → Option Text
if_passed b rest = elim b [ true ↦ Some rest | false ↦ None ]

passed_leaves : (b : Bool) (c : ℕ) (more rest : Text) → if_passed b more ≡ Some rest → IsRest rest (c ∷ more)
passed_leaves true c more rest e = let same : more ≡ rest = cc in subst (λ r. IsRest r (c ∷ more)) same
    (is_rest_behind c more more (is_all more))
passed_leaves false c more rest e = absurd cc

passed_takes : (b : Bool) (c : ℕ) (more rest : Text) → if_passed b more ≡ Some rest → length rest < length (c ∷ more)
passed_takes true c more rest e = let same : length more ≡ length rest = ap length cc in omega arith
passed_takes false c more rest e = absurd cc

pub one_leaves : (test : ℕ → Bool) → Leaves (one test)
one_leaves test [] rest e = absurd cc
one_leaves test (c ∷ more) rest e = passed_leaves (test c) c more rest e

pub one_takes : (test : ℕ → Bool) → Takes (one test)
one_takes test [] rest e = absurd cc
one_takes test (c ∷ more) rest e = passed_takes (test c) c more rest e

-- what stands before the rest that `is` leaves
pub is_cons : (c : ℕ) (text rest : Text) → Some rest ≡ is c text → text ≡ c ∷ rest
is_cons c [] rest e = absurd cc
is_cons c (d ∷ more) rest e = at (d == c) refl e
  where
    at : (b : Bool) → (d == c) ≡ b → Some rest ≡ if_passed b more → d ∷ more ≡ c ∷ rest
    at true f g = let same : d ≡ c = eqb-true d c f in let ends : rest ≡ more = cc in cc
    at false f g = absurd cc

pub nothing_leaves : Leaves Some
nothing_leaves text rest e = let same : text ≡ rest = cc in subst (λ r. IsRest r text) same (is_all text)

pub word_leaves : (w : Text) → Leaves (word w)
unfolding word
word_leaves [] text rest e = nothing_leaves text rest e
word_leaves (c ∷ more) [] rest e = absurd cc
word_leaves (c ∷ more) (d ∷ text) rest e = at (λ f. word_leaves more text rest f) (c == d) e
  where
    at : (word more text ≡ Some rest → IsRest rest text) → (b : Bool) → (elim b [ true ↦ word more text | false ↦ None ]) ≡ Some rest
        → IsRest rest (d ∷ text)
    at go true f = is_rest_behind d rest text (go f)
    at go false f = absurd cc

-- ---- things together

abbrev and_then : Parser → Option Text → Option Text
and_then second found = elim found [ None ↦ None | Some mid ↦ second mid ]

pub then_leaves : (first second : Parser) → Leaves first → Leaves second → Leaves (first then second)
then_leaves first second h g text rest e = at (first text) refl e
  where
    at : (found : Option Text) → first text ≡ found → and_then second found ≡ Some rest → IsRest rest text
    at None f k = absurd cc
    at (Some mid) f k = is_rest_again text mid rest (g mid rest k) (h text mid f)

pub first_takes : (first second : Parser) → Takes first → Leaves second → Takes (first then second)
first_takes first second h g text rest e = at (first text) refl e
  where
    at : (found : Option Text) → first text ≡ found → and_then second found ≡ Some rest → length rest < length text
    at None f k = absurd cc
    at (Some mid) f k = let a : length mid < length text = h text mid f in let b : length rest
        ≤ length mid = rest_is_shorter rest mid (g mid rest k) in omega arith

pub second_takes : (first second : Parser) → Leaves first → Takes second → Takes (first then second)
second_takes first second h g text rest e = at (first text) refl e
  where
    at : (found : Option Text) → first text ≡ found → and_then second found ≡ Some rest → length rest < length text
    at None f k = absurd cc
    at (Some mid) f k = let a : length mid ≤ length text = rest_is_shorter mid text (h text mid f) in let b : length rest
        < length mid = g mid rest k in omega arith

abbrev or_else : Parser → Text → Option Text → Option Text
or_else second text found = elim found [ Some mid ↦ Some mid | None ↦ second text ]

pub or_leaves : (first second : Parser) → Leaves first → Leaves second → Leaves (first or second)
or_leaves first second h g text rest e = at (first text) refl e
  where
    at : (found : Option Text) → first text ≡ found → or_else second text found ≡ Some rest → IsRest rest text
    at None f k = g text rest k
    at (Some mid) f k = h text rest (f ∙ k)

pub or_takes : (first second : Parser) → Takes first → Takes second → Takes (first or second)
or_takes first second h g text rest e = at (first text) refl e
  where
    at : (found : Option Text) → first text ≡ found → or_else second text found ≡ Some rest → length rest < length text
    at None f k = g text rest k
    at (Some mid) f k = h text rest (f ∙ k)

pub maybe_leaves : (read : Parser) → Leaves read → Leaves (maybe read)
maybe_leaves read h = or_leaves read Some h nothing_leaves

-- ---- many things

-- many of a class are those that `strip_front` drops
pub many_strip_front : (class : ℕ → Bool) (text : Text) → many class text ≡ Some (strip_front class text)
unfolding many strip_front
many_strip_front class [] = refl
many_strip_front class (c ∷ rest) = at (many_strip_front class rest) (class c)
  where
    at : many class rest ≡ Some (strip_front class rest) → (b : Bool)
        → (elim b [ true ↦ many class rest | false ↦ Some (c ∷ rest) ]) ≡ Some (elim b [ true ↦ strip_front class rest | false ↦ c ∷ rest ])
    at again true = again
    at again false = refl

pub many_leaves : (test : ℕ → Bool) → Leaves (many test)
unfolding many
many_leaves test [] rest e = nothing_leaves [] rest e
many_leaves test (c ∷ text) rest e = at (λ f. many_leaves test text rest f) (test c) e
  where
    at : (many test text ≡ Some rest → IsRest rest text) → (b : Bool)
        → (elim b [ true ↦ many test text | false ↦ Some (c ∷ text) ]) ≡ Some rest → IsRest rest (c ∷ text)
    at go true f = is_rest_behind c rest text (go f)
    at go false f = nothing_leaves (c ∷ text) rest f

abbrev once_more : ℕ → Parser → Text → Option Text → Option Text
once_more n read text found = elim found [ None ↦ Some text | Some mid ↦ at_most n read mid ]

pub at_most_leaves : (n : ℕ) (read : Parser) → Leaves read → Leaves (at_most n read)
unfolding at_most
at_most_leaves zero read h text rest e = nothing_leaves text rest e
at_most_leaves (suc n) read h text rest e = at (λ mid f. at_most_leaves n read h mid rest f) (read text) refl e
  where
    at : ((mid : Text) → at_most n read mid ≡ Some rest → IsRest rest mid) → (found : Option Text) → read text ≡ found
        → once_more n read text found ≡ Some rest → IsRest rest text
    at go None f k = nothing_leaves text rest k
    at go (Some mid) f k = is_rest_again text mid rest (go mid k) (h text mid f)

pub repeated_leaves : (read : Parser) → Leaves read → Leaves (repeated read)
repeated_leaves read h text rest e = at_most_leaves (length text) read h text rest e

pub through_leaves : (end : Parser) → Leaves end → Leaves (through end)
unfolding through
through_leaves end h [] rest e = h [] rest e
through_leaves end h (c ∷ text) rest e = at (λ f. through_leaves end h text rest f) (end (c ∷ text)) refl e
  where
    at : (through end text ≡ Some rest → IsRest rest text) → (found : Option Text) → end (c ∷ text) ≡ found
        → (elim found [ Some after ↦ Some after | None ↦ through end text ]) ≡ Some rest → IsRest rest (c ∷ text)
    at go None f k = is_rest_behind c rest text (go k)
    at go (Some after) f k = h (c ∷ text) rest (f ∙ k)

abbrev if_fits : (Text → Bool) → Text → Option Text → Option Text
if_fits test text found = elim found [ None ↦ None | Some mid ↦ elim (test (before mid text)) [ true ↦ Some mid | false ↦ None ] ]

pub passing_is : (test : Text → Bool) (read : Parser) (text rest : Text) → passing test read text ≡ Some rest
    → (read text ≡ Some rest) × (test (before rest text) ≡ true)
passing_is test read text rest e = at (read text) refl e
  where
    tested : (mid : Text) → read text ≡ Some mid → (b : Bool) → test (before mid text) ≡ b
        → (elim b [ true ↦ Some mid | false ↦ None ]) ≡ Some rest →
        (read text ≡ Some rest) × (test (before rest text) ≡ true)
    tested mid f true g k = (f ∙ k, ap (λ r. test (before r text)) (sym cc) ∙ g)
    tested mid f false g k = absurd cc

    at : (found : Option Text) → read text ≡ found → if_fits test text found ≡ Some rest
        → (read text ≡ Some rest) × (test (before rest text) ≡ true)
    at None f k = absurd cc
    at (Some mid) f k = tested mid f (test (before mid text)) refl k

pub passing_leaves : (test : Text → Bool) (read : Parser) → Leaves read → Leaves (passing test read)
passing_leaves test read h text rest e = h text rest (passing_is test read text rest e).0

-- ---- again and again is once and then again and again

at_most_of_nothing : (n : ℕ) (read : Parser) (text : Text) → Takes read → length text ≤ 0 → at_most n read text ≡ Some text
unfolding at_most
at_most_of_nothing zero read text h g = refl
at_most_of_nothing (suc n) read text h g = at (read text) refl
  where
    at : (found : Option Text) → read text ≡ found → once_more n read text found ≡ Some text
    at None f = refl
    at (Some mid) f = let shorter : length mid < length text = h text mid f in absurd (omega arith)

pub enough : (n m : ℕ) (read : Parser) (text : Text) → Takes read → length text ≤ n → length text ≤ m
    → at_most n read text ≡ at_most m read text
unfolding at_most
enough zero m read text h f g = sym (at_most_of_nothing m read text h f)
enough (suc n) zero read text h f g = at_most_of_nothing (suc n) read text h g
enough (suc n) (suc m) read text h f g = at (λ mid a b. enough n m read mid h a b) (read text) refl
  where
    at : ((mid : Text) → length mid ≤ n → length mid ≤ m → at_most n read mid ≡ at_most m read mid) → (found : Option Text)
        → read text ≡ found → once_more n read text found ≡ once_more m read text found
    at go None e = refl
    at go (Some mid) e = let shorter : length mid < length text = h text mid e in go mid (omega arith) (omega arith)

abbrev once_and_again : Parser → Text → Option Text → Option Text
once_and_again read text found = elim found [ None ↦ Some text | Some mid ↦ repeated read mid ]

pub repeated_step : (read : Parser) (text : Text) → Takes read
    → repeated read text ≡ elim (read text) [ None ↦ Some text | Some rest ↦ repeated read rest ]
unfolding at_most
repeated_step read [] h = at (read []) refl
  where
    at : (found : Option Text) → read [] ≡ found → Some [] ≡ once_and_again read [] found
    at None e = refl
    at (Some mid) e = let shorter : length mid < 0 = h [] mid e in absurd (omega arith)
repeated_step read (c ∷ text) h = at (read (c ∷ text)) refl
  where
    at : (found : Option Text) → read (c ∷ text) ≡ found
        → once_more (length text) read (c ∷ text) found ≡ once_and_again read (c ∷ text) found
    at None e = refl
    at (Some mid) e = let shorter : length mid < length (c ∷ text) = h (c ∷ text) mid e in enough (length text) (length mid) read mid h
        (omega arith) (omega arith)

-- ---- white space

pub some_leaves : (test : ℕ → Bool) → Leaves (some test)
some_leaves test = then_leaves (one test) (many test) (one_leaves test) (many_leaves test)

pub line_ending_leaves : Leaves line_ending
line_ending_leaves =
    or_leaves (word (codes "\r\n") or is 10) (is 13) (or_leaves (word (codes "\r\n")) (is 10) (word_leaves (codes "\r\n"))
    (one_leaves (λ d. d == 10))) (one_leaves (λ d. d == 13))

pub spacing_leaves : Leaves spacing
spacing_leaves =
    then_leaves (many is_space_or_tab then maybe line_ending) (many is_space_or_tab)
    (then_leaves (many is_space_or_tab) (maybe line_ending) (many_leaves is_space_or_tab) (maybe_leaves line_ending line_ending_leaves))
    (many_leaves is_space_or_tab)

pub some_spacing_leaves : Leaves some_spacing
unfolding some_spacing
some_spacing_leaves =
    or_leaves (some is_space_or_tab then maybe line_ending then many is_space_or_tab) (line_ending then many is_space_or_tab)
    (then_leaves (some is_space_or_tab then maybe line_ending) (many is_space_or_tab)
    (then_leaves (some is_space_or_tab) (maybe line_ending) (some_leaves is_space_or_tab) (maybe_leaves line_ending line_ending_leaves))
    (many_leaves is_space_or_tab))
    (then_leaves line_ending (many is_space_or_tab) line_ending_leaves (many_leaves is_space_or_tab))
