-- Characters that begin nothing become literals, and line breaks take the spaces around them.
use Rattle.std.proofs.Common.{◌≡◌, ℕ, zero, suc, ◌+◌, Bool, true, false, ◌==◌, List, [], ◌∷◌, ◌++◌, drop, replicate}
use Rattle.std.proofs.Common.{reverse, refl, ap, ap₂, sym, ◌∙◌, subst, append_assoc}
use Rattle.std.specs.Prelude.{nat_le, ◌&&◌, ◌||◌, if◌then◌else◌, codes}
use Rattle.std.specs.List.{list_all}
use Rattle.std.proofs.lemmas.List.{reverse-append}
use Rattle.std.proofs.lemmas.Bool.{eqb-true, eq-eqb, or_parts, not-true, and_parts}
use Rattle.doc_rules.specs.Characters.{Text, one_of, last_or}
use Rattle.doc_rules.specs.Parsers.{run_length}
use Rattle.doc_rules.specs.Rules.{Rules}
use Rattle.doc_rules.specs.Definitions.{Definition}
use Rattle.doc_rules.specs.Inlines.{Inline, Literal, SoftBreak, HardBreak, literals, onto}
use Rattle.doc_rules.specs.Reading.{Kind, Other, Tilde, Address, tildes, bare_link, as_literal, break_behind, gap, kinds, kind_in, item_of_kind, read_item, read}
use Rattle.doc_inlines.specs.ReadingSteps.{begins_always, is_plain, breaks, Quiet}

-- ---- kinds

true_is_false : true ≡ false → ⊥
true_is_false e = absurd cc

abbrev AreOthers : List (ℕ × Kind) → ℕ → Type 0
AreOthers [] c = Unit {0}
AreOthers (entry ∷ more) c = ((c == entry.0) ≡ false) × AreOthers more c

in_no_entry : (rules : List (ℕ × Kind)) (c : ℕ) → AreOthers rules c → kind_in rules c ≡ Other
unfolding kind_in
in_no_entry [] c h = refl
in_no_entry (entry ∷ more) c h = ap (λ b. elim b [ true ↦ entry.1 | false ↦ kind_in more c ]) h.0 ∙ in_no_entry more c h.1

-- the characters that begin something in an extension alone
abbrev is_tilde : ℕ → Bool
is_tilde c = c == 126

abbrev is_letter : ℕ → Bool
is_letter c = one_of (codes "whHfF") c

-- a character that begins something neither always nor in an extension
none_begins : (c : ℕ) → begins_always c ≡ false → is_tilde c ≡ false → is_letter c ≡ false → (c == 32) ≡ false → kind_in kinds c ≡ Other
unfolding kinds
none_begins c h t l space =
    let p0 = or_parts (c == 10) _ h in
    let p1 = or_parts (c == 42) _ p0.1 in
    let p2 = or_parts (c == 95) _ p1.1 in
    let p3 = or_parts (c == 91) _ p2.1 in
    let p4 = or_parts (c == 93) _ p3.1 in
    let p5 = or_parts (c == 96) _ p4.1 in
    let p6 = or_parts (c == 60) _ p5.1 in
    let p7 = or_parts (c == 38) _ p6.1 in
    let p8 = or_parts (c == 92) _ p7.1 in
    let p9 = or_parts (c == 33) _ p8.1 in
    let l0 = or_parts (c == 119) _ l in
    let l1 = or_parts (c == 104) _ l0.1 in
    let l2 = or_parts (c == 72) _ l1.1 in
    let l3 = or_parts (c == 102) _ l2.1 in
    let l4 = or_parts (c == 70) _ l3.1 in
    in_no_entry kinds c (
      p8.0,
      (
        p7.0,
        (
          p5.0,
          (
            p6.0,
            (
              p1.0,
              (
                p2.0,
                (
                  p3.0,
                  (
                    p9.0,
                    (
                      p4.0,
                      (
                        space,
                        (
                          p0.0,
                          (
                            t,
                            (
                              l0.0,
                              (
                                l1.0,
                                (
                                  l2.0,
                                  (
                                    l3.0,
                                    (l4.0, tt),
                                  ),
                                ),
                              ),
                            ),
                          ),
                        ),
                      ),
                    ),
                  ),
                ),
              ),
            ),
          ),
        ),
      ),
    )

pub plain_is_no_ending : (rules : Rules) (c : ℕ) → is_plain rules c ≡ true → (c == 10) ≡ false
plain_is_no_ending rules c h = (or_parts (c == 10) _ (or_parts (begins_always c) _ (not-true _ h)).0).0

pub other_item : (rules : Rules) (refs : List Definition) (last : ℕ) (made : List Inline) (c : ℕ) (rest : Text) → kind_in kinds c ≡ Other
    → read_item rules refs last made c rest ≡ (Literal c ∷ made, 0)
unfolding read_item item_of_kind
other_item rules refs last made c rest e = ap (λ kind. item_of_kind kind rules refs last made c rest) e

-- what begins something in an extension that isn't read is text
tilde_kind : (c : ℕ) → is_tilde c ≡ true → kind_in kinds c ≡ Tilde
unfolding kinds kind_in
tilde_kind c e = subst (λ d. kind_in kinds d ≡ Tilde) (sym (eqb-true c 126 e)) refl

pub letter_kind : (c : ℕ) → is_letter c ≡ true → kind_in kinds c ≡ Address
unfolding kinds kind_in
letter_kind c e = first (c == 119) refl e
  where
    at : (d : ℕ) → (c == d) ≡ true → kind_in kinds d ≡ Address → kind_in kinds c ≡ Address
    at d f g = subst (λ k. kind_in kinds k ≡ Address) (sym (eqb-true c d f)) g

    fifth : (b : Bool) → (c == 70) ≡ b → (b || false) ≡ true → kind_in kinds c ≡ Address
    fifth true f g = at 70 f refl
    fifth false f g = absurd cc

    fourth : (b : Bool) → (c == 102) ≡ b → (b || ((c == 70) || false)) ≡ true → kind_in kinds c ≡ Address
    fourth true f g = at 102 f refl
    fourth false f g = fifth (c == 70) refl g

    third : (b : Bool) → (c == 72) ≡ b → (b || ((c == 102) || ((c == 70) || false))) ≡ true → kind_in kinds c ≡ Address
    third true f g = at 72 f refl
    third false f g = fourth (c == 102) refl g

    second : (b : Bool) → (c == 104) ≡ b → (b || ((c == 72) || ((c == 102) || ((c == 70) || false)))) ≡ true → kind_in kinds c ≡ Address
    second true f g = at 104 f refl
    second false f g = third (c == 72) refl g

    first : (b : Bool) → (c == 119) ≡ b → (b || ((c == 104) || ((c == 72) || ((c == 102) || ((c == 70) || false))))) ≡ true
        → kind_in kinds c ≡ Address
    first true f g = at 119 f refl
    first false f g = second (c == 104) refl g

no_strike_item : (rules : Rules) (refs : List Definition) (last : ℕ) (made : List Inline) (c : ℕ) (rest : Text) → is_tilde c ≡ true
    → rules.strikethrough ≡ false → read_item rules refs last made c rest ≡ (Literal c ∷ made, 0)
unfolding read_item item_of_kind
no_strike_item rules refs last made c rest t e =
    ap (λ kind. item_of_kind kind rules refs last made c rest) (tilde_kind c t)
    ∙ ap (λ (b : Bool). if b then tildes last made c rest else as_literal c made) e

no_link_item : (rules : Rules) (refs : List Definition) (last : ℕ) (made : List Inline) (c : ℕ) (rest : Text) → is_letter c ≡ true
    → rules.bare_links ≡ false → read_item rules refs last made c rest ≡ (Literal c ∷ made, 0)
unfolding read_item item_of_kind
no_link_item rules refs last made c rest l e =
    ap (λ kind. item_of_kind kind rules refs last made c rest) (letter_kind c l)
    ∙ ap (λ (b : Bool). if b then bare_link last made c rest else as_literal c made) e

and_true_right : (a b : Bool) → (a && b) ≡ false → b ≡ true → a ≡ false
and_true_right true b e f = sym f ∙ e
and_true_right false b e f = refl

-- a plain character other than a space begins nothing
pub plain_begins_nothing : (rules : Rules) (refs : List Definition) (last : ℕ) (made : List Inline) (c : ℕ) (rest : Text)
    → is_plain rules c ≡ true → (c == 32) ≡ false → read_item rules refs last made c rest ≡ (Literal c ∷ made, 0)
plain_begins_nothing rules refs last made c rest h space =
    let p = or_parts (begins_always c) _ (not-true _ h) in
    let q = or_parts (rules.strikethrough && is_tilde c) _ p.1 in
    by_tilde p.0 q.0 q.1 (is_tilde c) refl
  where
    by_letter : begins_always c ≡ false → is_tilde c ≡ false → (rules.bare_links && is_letter c) ≡ false → (b : Bool) → is_letter c ≡ b
        → read_item rules refs last made c rest ≡ (Literal c ∷ made, 0)
    by_letter a t l true e = no_link_item rules refs last made c rest e (and_true_right rules.bare_links (is_letter c) l e)
    by_letter a t l false e = other_item rules refs last made c rest (none_begins c a t e space)

    by_tilde : begins_always c ≡ false → (rules.strikethrough && is_tilde c) ≡ false → (rules.bare_links && is_letter c) ≡ false
        → (b : Bool) → is_tilde c ≡ b → read_item rules refs last made c rest ≡ (Literal c ∷ made, 0)
    by_tilde a t l true e = no_strike_item rules refs last made c rest e (and_true_right rules.strikethrough (is_tilde c) t e)
    by_tilde a t l false e = by_letter a e l (is_letter c) refl

-- ---- spaces

-- spaces that no line ending follows are text
no_break : (text : Text) (n : ℕ) (made : List Inline) (c : ℕ) → breaks text ≡ false
    → break_behind n made c (drop (run_length 32 text) text) ≡ (Literal c ∷ made, 0)
unfolding break_behind run_length breaks
no_break [] n made c e = refl
no_break (d ∷ text) n made c e = at (λ f. no_break text n made c f) (32 == d) e
  where
    at : (breaks text ≡ false → break_behind n made c (drop (run_length 32 text) text) ≡ (Literal c ∷ made, 0)) → (b : Bool)
        → (elim b [ true ↦ breaks text | false ↦ d == 10 ]) ≡ false →
        break_behind n made c (drop (elim b [ true ↦ suc (run_length 32 text) | false ↦ 0 ]) (d ∷ text)) ≡ (Literal c ∷ made, 0)
    at go true f = go f
    at go false f = ap (λ b. elim b [
      | true ↦ ((if nat_le 2 n then HardBreak else SoftBreak) ∷ made, n + run_length 32 text)
      | false ↦
          as_literal c made
    ]) f

pub space_item : (rules : Rules) (refs : List Definition) (last : ℕ) (made : List Inline) (rest : Text) → breaks rest ≡ false
    → read_item rules refs last made 32 rest ≡ (Literal 32 ∷ made, 0)
unfolding read_item item_of_kind kinds kind_in gap run_length breaks
space_item rules refs last made rest e = no_break (32 ∷ rest) (suc (run_length 32 rest)) made 32 e

-- ---- plain characters

plain_item : (rules : Rules) (refs : List Definition) (last : ℕ) (made : List Inline) (c : ℕ) (rest : Text) → is_plain rules c ≡ true
    → ((c == 32) ≡ true → breaks rest ≡ false) →
    read_item rules refs last made c rest ≡ (Literal c ∷ made, 0)
plain_item rules refs last made c rest h g = at (c == 32) refl
  where
    at : (b : Bool) → (c == 32) ≡ b → read_item rules refs last made c rest ≡ (Literal c ∷ made, 0)
    at true e =
        let same : c ≡ 32 = eqb-true c 32 e in
        ap (λ d. read_item rules refs last made d rest) same
        ∙ (space_item rules refs last made rest (g e) ∙ ap (λ d. (Literal d ∷ made, 0)) (sym same))
    at false e = plain_begins_nothing rules refs last made c rest h e

literal_onto : (c : ℕ) (run : Text) (made : List Inline) → onto (literals (c ∷ run)) made ≡ onto (literals run) (Literal c ∷ made)
literal_onto c run made = ap (λ t. t ++ made) (reverse-append (Literal c ∷ []) (literals run))
    ∙ append_assoc (reverse (literals run)) (Literal c ∷ []) made

-- they become literals
pub plain_reads : (rules : Rules) (refs : List Definition) (last : ℕ) (made : List Inline) (run rest : Text) → list_all (is_plain rules) run ≡ true
    → Quiet run rest →
    read rules refs last made 0 (run ++ rest) ≡ read rules refs (last_or last run) (onto (literals run) made) 0 rest
unfolding read last_or
plain_reads rules refs last made [] rest h q = refl
plain_reads rules refs last made (c ∷ run) rest h q =
    let p = and_parts (is_plain rules c) (list_all (is_plain rules) run) h in
    ap (λ step. read rules refs c step.0 step.1 (run ++ rest)) (plain_item rules refs last made c (run ++ rest) p.0 q.0)
    ∙ (plain_reads rules refs c (Literal c ∷ made) run rest p.1 q.1
    ∙ ap (λ those. read rules refs (last_or c run) those 0 rest) (sym (literal_onto c run made)))

-- before a rest that begins with no line ending behind spaces
pub plain_breaks : (rules : Rules) (run rest : Text) → list_all (is_plain rules) run ≡ true → breaks rest ≡ false → breaks (run ++ rest) ≡ false
unfolding breaks
plain_breaks rules [] rest h e = e
plain_breaks rules (c ∷ run) rest h e = at (plain_breaks rules run rest (and_parts (is_plain rules c) (list_all (is_plain rules) run) h).1 e) (32 == c)
  where
    at : breaks (run ++ rest) ≡ false → (b : Bool) → (elim b [ true ↦ breaks (run ++ rest) | false ↦ c == 10 ]) ≡ false
    at go true = go
    at go false = plain_is_no_ending rules c (and_parts (is_plain rules c) (list_all (is_plain rules) run) h).0

pub quiet_before : (rules : Rules) (run rest : Text) → list_all (is_plain rules) run ≡ true → breaks rest ≡ false → Quiet run rest
quiet_before rules [] rest h e = tt
quiet_before rules (c ∷ run) rest h e =
    let more = (and_parts (is_plain rules c) (list_all (is_plain rules) run) h).1 in
    (λ _. plain_breaks rules run rest more e, quiet_before rules run rest more e)

-- before anything, where no space stands at their end
no_space_breaks : (rules : Rules) (c : ℕ) (run rest : Text) → list_all (is_plain rules) (c ∷ run) ≡ true → (last_or c run == 32) ≡ false
    → breaks ((c ∷ run) ++ rest) ≡ false
unfolding breaks last_or
no_space_breaks rules c [] rest h e = at (32 == c) refl
  where
    at : (b : Bool) → (32 == c) ≡ b → (elim b [ true ↦ breaks rest | false ↦ c == 10 ]) ≡ false
    at true f = absurd (true_is_false (sym (eq-eqb c 32 (sym (eqb-true 32 c f))) ∙ e))
    at false f = plain_is_no_ending rules c (and_parts (is_plain rules c) true h).0
no_space_breaks rules c (d ∷ run) rest h e = at (no_space_breaks rules d run rest (and_parts (is_plain rules c) (list_all (is_plain rules) (d ∷ run)) h).1 e)
    (32 == c)
  where
    at : breaks ((d ∷ run) ++ rest) ≡ false → (b : Bool) → (elim b [ true ↦ breaks ((d ∷ run) ++ rest) | false ↦ c == 10 ]) ≡ false
    at go true = go
    at go false = plain_is_no_ending rules c (and_parts (is_plain rules c) (list_all (is_plain rules) (d ∷ run)) h).0

pub quiet_without_space : (rules : Rules) (run rest : Text) → list_all (is_plain rules) run ≡ true → (last_or 0 run == 32) ≡ false → Quiet run rest
unfolding last_or
quiet_without_space rules [] rest h e = tt
quiet_without_space rules (c ∷ []) rest h e = (λ f. absurd (true_is_false (sym f ∙ e)), tt)
quiet_without_space rules (c ∷ d ∷ run) rest h e =
    let more = (and_parts (is_plain rules c) (list_all (is_plain rules) (d ∷ run)) h).1 in
    (λ _. no_space_breaks rules d run rest more e, quiet_without_space rules (d ∷ run) rest more e)

-- ---- line breaks

pub break_item : (rules : Rules) (refs : List Definition) (last : ℕ) (made : List Inline) (rest : Text)
    → read_item rules refs last made 10 rest ≡ (SoftBreak ∷ made, 0 + run_length 32 rest)
unfolding read_item item_of_kind kinds kind_in gap break_behind run_length
break_item rules refs last made rest = refl

spaces_before : (n : ℕ) (rest : Text) → run_length 32 (replicate n 32 ++ (10 ∷ rest)) ≡ n
unfolding run_length
spaces_before zero rest = refl
spaces_before (suc n) rest = ap (λ k. suc k) (spaces_before n rest)

behind_spaces : (n : ℕ) (rest : Text) → drop n (replicate n 32 ++ rest) ≡ rest
behind_spaces zero rest = refl
behind_spaces (suc n) rest = behind_spaces n rest

pub spaces_item : (rules : Rules) (refs : List Definition) (last : ℕ) (made : List Inline) (n : ℕ) (rest : Text) →
    read_item rules refs last made 32 (replicate n 32 ++ (10 ∷ rest))
    ≡ ((if nat_le 2 (suc n) then HardBreak else SoftBreak) ∷ made, suc n + run_length 32 rest)
unfolding read_item item_of_kind kinds kind_in gap break_behind run_length
spaces_item rules refs last made n rest =
    ap₂ (λ k text. break_behind (suc k) made 32 text) (spaces_before n rest)
    (ap (λ k. drop k (replicate n 32 ++ (10 ∷ rest))) (spaces_before n rest) ∙ behind_spaces n (10 ∷ rest))
