-- What cells of a delimiter row say.
use Rattle.std.proofs.Common.{◌≡◌, ℕ, Bool, true, false, ◌==◌, [], ◌∷◌, refl, ap, sym, ◌∙◌, Option, Some, None}
use Rattle.std.proofs.Common.{arith}
use Rattle.std.specs.Prelude.{◌&&◌, option_map}
use Rattle.std.proofs.lemmas.Bool.Decides.{nat_tests}
use Rattle.doc_rules.specs.Characters.{Text, strip_front}
use Rattle.doc_rules.specs.Parsers.{is}
use Rattle.doc_rules.specs.declared.alignment.Alignment.{Alignment}
use Rattle.doc_rules.specs.Tables.{aligned, alignment_of, colon_end, dashes, some_dashes, unescape_pipes}

-- ---- without a ':' at the front

pub no_colon : (text : Text) → None ≡ is 58 text → alignment_of text ≡ option_map (aligned false) (some_dashes text)
unfolding alignment_of some_dashes
no_colon [] e = refl
no_colon (c ∷ rest) e = at (c == 58) e
  where
    at : (b : Bool) → ◌≡◌ {A = Option Text} None (elim b [ true ↦ Some rest | false ↦ None ]) → (elim b [
      | true ↦ option_map (aligned true) (some_dashes rest)
      | false ↦ option_map (aligned false) (some_dashes (c ∷ rest))
    ]) ≡ option_map (aligned false) (some_dashes (c ∷ rest))
    at true f = absurd cc
    at false f = refl

-- ---- a '|' behind a backslash: what has one says nothing, with that backslash and without

by_pair : Bool → ℕ → ℕ → Text → Text
by_pair b c d rest = elim b [ true ↦ d ∷ unescape_pipes rest | false ↦ c ∷ unescape_pipes (d ∷ rest) ]

pub empty_stays : unescape_pipes [] ≡ []
unfolding unescape_pipes
empty_stays = refl

pub single_stays : (c : ℕ) → unescape_pipes (c ∷ []) ≡ c ∷ []
unfolding unescape_pipes
single_stays c = refl

-- two characters that are no such pair
pub no_pair : (c d : ℕ) (rest : Text) → ((c == 92) && (d == 124)) ≡ false → unescape_pipes (c ∷ d ∷ rest) ≡ c ∷ unescape_pipes (d ∷ rest)
unfolding unescape_pipes by_pair
no_pair c d rest e = ap (λ (b : Bool). by_pair b c d rest) e

pub is_pair : (c d : ℕ) → ((c == 92) && (d == 124)) ≡ true → (c ≡ 92) × (d ≡ 124)
is_pair c d e = at (c == 92) (d == 124) refl refl e
  where
    at : (x y : Bool) → (c == 92) ≡ x → (d == 124) ≡ y → (x && y) ≡ true → (c ≡ 92) × (d ≡ 124)
    at true true f g h = (grind (arith, nat_tests), grind (arith, nat_tests))
    at true false f g h = absurd cc
    at false y f g h = absurd cc

-- a text that is not empty stays so
first_of : (d : ℕ) (rest : Text) → (e : ℕ) × (more : Text) × (unescape_pipes (d ∷ rest) ≡ e ∷ more)
unfolding unescape_pipes by_pair
first_of d [] = (d, [], refl)
first_of d (e ∷ rest) = at ((d == 92) && (e == 124))
  where
    at : (b : Bool) → (f : ℕ) × (more : Text) × (by_pair b d e rest ≡ f ∷ more)
    at true = (e, unescape_pipes rest, refl)
    at false = (d, unescape_pipes (e ∷ rest), refl)

-- behind the dashes
two_end : (c d : ℕ) (text rest : Text) → text ≡ d ∷ rest → colon_end (c ∷ text) ≡ None
unfolding colon_end
two_end c d text rest e = ap (λ (t : Text). colon_end (c ∷ t)) e

pair_end : (rest : Text) → colon_end (unescape_pipes (92 ∷ 124 ∷ rest)) ≡ colon_end (92 ∷ 124 ∷ rest)
unfolding unescape_pipes colon_end
pair_end [] = refl
pair_end (c ∷ rest) =
    let first = first_of c rest in
    two_end 124 first.0 (unescape_pipes (c ∷ rest)) first.1 first.2

same_end : (text : Text) → colon_end (unescape_pipes text) ≡ colon_end text
same_end [] = ap colon_end empty_stays
same_end (c ∷ []) = ap colon_end (single_stays c)
same_end (c ∷ d ∷ rest) = at ((c == 92) && (d == 124)) refl
  where
    at : (b : Bool) → ((c == 92) && (d == 124)) ≡ b → colon_end (unescape_pipes (c ∷ d ∷ rest)) ≡ colon_end (c ∷ d ∷ rest)
    at true e =
        let both = is_pair c d e in
        let one : c ≡ 92 = both.0 in
        let two : d ≡ 124 = both.1 in
        rw one (rw two (pair_end rest))
    at false e =
        let first = first_of d rest in
        ap colon_end (no_pair c d rest e) ∙ two_end c first.0 (unescape_pipes (d ∷ rest)) first.1 first.2
        ∙ sym (two_end c d (d ∷ rest) rest refl)

-- the dashes
abbrev behind_dashes : Text → Text
behind_dashes text = strip_front (λ c. c == 45) text

strip_by : Bool → ℕ → Text → Text
strip_by b c rest = elim b [ true ↦ behind_dashes rest | false ↦ c ∷ rest ]

strips : (c : ℕ) (rest : Text) (b : Bool) → (c == 45) ≡ b → behind_dashes (c ∷ rest) ≡ strip_by b c rest
unfolding strip_front strip_by
strips c rest b e = ap (λ (x : Bool). strip_by x c rest) e

pair_strip : (rest : Text) → behind_dashes (unescape_pipes (92 ∷ 124 ∷ rest)) ≡ unescape_pipes (behind_dashes (92 ∷ 124 ∷ rest))
unfolding unescape_pipes strip_front
pair_strip rest = refl

empty_strip : behind_dashes (unescape_pipes []) ≡ unescape_pipes (behind_dashes [])
unfolding unescape_pipes strip_front
empty_strip = refl

single_strip : (c : ℕ) → behind_dashes (unescape_pipes (c ∷ [])) ≡ unescape_pipes (behind_dashes (c ∷ []))
unfolding unescape_pipes strip_front strip_by
single_strip c = at (c == 45)
  where
    at : (b : Bool) → strip_by b c [] ≡ unescape_pipes (strip_by b c [])
    at true = refl
    at false = refl

same_strip : (text : Text) → behind_dashes (unescape_pipes text) ≡ unescape_pipes (behind_dashes text)
unfolding strip_by
same_strip [] = empty_strip
same_strip (c ∷ []) = single_strip c
same_strip (c ∷ d ∷ rest) = at ((c == 92) && (d == 124)) (c == 45) refl refl (same_strip (d ∷ rest))
  where
    at : (b x : Bool) → ((c == 92) && (d == 124)) ≡ b → (c == 45) ≡ x
        → behind_dashes (unescape_pipes (d ∷ rest)) ≡ unescape_pipes (behind_dashes (d ∷ rest))
        → behind_dashes (unescape_pipes (c ∷ d ∷ rest)) ≡ unescape_pipes (behind_dashes (c ∷ d ∷ rest))
    at true x e f g =
        let both = is_pair c d e in
        let one : c ≡ 92 = both.0 in
        let two : d ≡ 124 = both.1 in
        rw one (rw two (pair_strip rest))
    at false true e f g =
        ap behind_dashes (no_pair c d rest e) ∙ strips c (unescape_pipes (d ∷ rest)) true f ∙ g
        ∙ ap unescape_pipes (sym (strips c (d ∷ rest) true f))
    at false false e f g =
        ap behind_dashes (no_pair c d rest e) ∙ strips c (unescape_pipes (d ∷ rest)) false f
        ∙ sym (ap unescape_pipes (strips c (d ∷ rest) false f) ∙ no_pair c d rest e)

same_dashes : (text : Text) → dashes (unescape_pipes text) ≡ dashes text
unfolding dashes
same_dashes text = ap colon_end (same_strip text) ∙ same_end (behind_dashes text)

-- one dash at least
pair_some : (rest : Text) → some_dashes (unescape_pipes (92 ∷ 124 ∷ rest)) ≡ some_dashes (92 ∷ 124 ∷ rest)
unfolding unescape_pipes some_dashes
pair_some rest = refl

some_one : (c : ℕ) (text rest : Text) → dashes text ≡ dashes rest → some_dashes (c ∷ text) ≡ some_dashes (c ∷ rest)
unfolding some_dashes
some_one c text rest e = ap (λ (o : Option Bool). elim (c == 45) [ true ↦ o | false ↦ None ]) e

same_some : (text : Text) → some_dashes (unescape_pipes text) ≡ some_dashes text
same_some [] = ap some_dashes empty_stays
same_some (c ∷ []) = ap some_dashes (single_stays c)
same_some (c ∷ d ∷ rest) = at ((c == 92) && (d == 124)) refl
  where
    at : (b : Bool) → ((c == 92) && (d == 124)) ≡ b → some_dashes (unescape_pipes (c ∷ d ∷ rest)) ≡ some_dashes (c ∷ d ∷ rest)
    at true e =
        let both = is_pair c d e in
        let one : c ≡ 92 = both.0 in
        let two : d ≡ 124 = both.1 in
        rw one (rw two (pair_some rest))
    at false e = ap some_dashes (no_pair c d rest e) ∙ some_one c (unescape_pipes (d ∷ rest)) (d ∷ rest) (same_dashes (d ∷ rest))

-- and a ':' at the front
pair_alignment : (rest : Text) → alignment_of (unescape_pipes (92 ∷ 124 ∷ rest)) ≡ alignment_of (92 ∷ 124 ∷ rest)
unfolding unescape_pipes alignment_of some_dashes
pair_alignment rest = refl

alignment_by : ℕ → Option Bool → Option Bool → Option Alignment
alignment_by c behind whole =
    elim (c == 58) [ true ↦ option_map (aligned true) behind | false ↦ option_map (aligned false) whole ]

one_alignment : (c : ℕ) (text rest : Text) → some_dashes text ≡ some_dashes rest → some_dashes (c ∷ text) ≡ some_dashes (c ∷ rest)
    → alignment_of (c ∷ text) ≡ alignment_of (c ∷ rest)
unfolding alignment_of alignment_by
one_alignment c text rest e f =
    ap (λ (o : Option Bool). alignment_by c o (some_dashes (c ∷ text))) e ∙ ap (λ (o : Option Bool). alignment_by c (some_dashes rest) o) f

pub same_alignment : (text : Text) → alignment_of (unescape_pipes text) ≡ alignment_of text
same_alignment [] = ap alignment_of empty_stays
same_alignment (c ∷ []) = ap alignment_of (single_stays c)
same_alignment (c ∷ d ∷ rest) = at ((c == 92) && (d == 124)) refl
  where
    at : (b : Bool) → ((c == 92) && (d == 124)) ≡ b → alignment_of (unescape_pipes (c ∷ d ∷ rest)) ≡ alignment_of (c ∷ d ∷ rest)
    at true e =
        let both = is_pair c d e in
        let one : c ≡ 92 = both.0 in
        let two : d ≡ 124 = both.1 in
        rw one (rw two (pair_alignment rest))
    at false e =
        ap alignment_of (no_pair c d rest e)
        ∙ one_alignment c (unescape_pipes (d ∷ rest)) (d ∷ rest) (same_some (d ∷ rest))
        (some_one c (unescape_pipes (d ∷ rest)) (d ∷ rest) (same_dashes (d ∷ rest)))
