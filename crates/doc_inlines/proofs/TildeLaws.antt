-- Runs of '~': one or two are read as delimiters, more as text.
use Rattle.std.proofs.Common.{◌≡◌, Bool, true, false, ◌==◌, ℕ, zero, suc, ◌-◌, ◌<◌, List, [], ◌∷◌, ◌++◌, replicate, length, refl, ap}
use Rattle.std.proofs.Common.{sym, ◌∙◌, Option, Some, None, ◌⊎◌, inl, inr, arith}
use Rattle.std.specs.Prelude.{nat_le, if◌then◌else◌}
use Rattle.std.specs.List.{list_all}
use Rattle.std.proofs.lemmas.Bool.{lt-leb}
use Rattle.std.proofs.lemmas.Bool.Decides.{eqb_tells}
use Rattle.doc_rules.specs.Characters.{Text}
use Rattle.doc_rules.specs.Parsers.{is, many, before, run_length}
use Rattle.doc_rules.specs.Rules.{Rules}
use Rattle.doc_rules.specs.Definitions.{Definition}
use Rattle.doc_rules.specs.Inlines.{Inline, Literal, literals, onto}
use Rattle.doc_rules.specs.Rests.{IsRest}
use Rattle.doc_rules.specs.Reading.{as_literal, delimiters, tildes, kinds, kind_in, item_of_kind, read_item}
use Rattle.doc_inlines_emphasis.specs.declared.delimiter.Delimiter.TheVariants.{Tilde, TwoTildes}
use Rattle.doc_inlines.specs.ReaderSteps.{is_uncut}
use Rattle.doc_inlines.specs.TildeSteps.{BeginsRun, IsRead}
use Rattle.doc_inlines.proofs.ReadingLaws.{before_is}
use Rattle.doc_inlines.proofs.RunLaws.{split_at_run, taken_by}
use Rattle.doc_inlines.proofs.GapLaws.{is_first}
use Rattle.doc_inlines.proofs.EnclosedLaws.{run_onto}

-- ---- how many there are

none_follows : (text : Text) → None ≡ is 126 text → run_length 126 text ≡ 0
unfolding run_length
none_follows [] e = refl
none_follows (d ∷ rest) e = at (eqb_tells 126 d)
  where
    again : (b : Bool) → (d == 126) ≡ b → ◌≡◌ {A = Option Text} None (elim b [ true ↦ Some rest | false ↦ None ]) → b ≡ false
    again true f g = absurd cc
    again false f g = refl

    at : (((126 == d) ≡ true) × (126 ≡ d)) ⊎ (((126 == d) ≡ false) × (126 ≡ d → ⊥)) → run_length 126 (d ∷ rest) ≡ 0
    at (inl p) =
        let f : (d == 126) ≡ false = again (d == 126) refl e in
        let g : (d == 126) ≡ true = ap (λ k. k == 126) (sym p.1) in
        absurd cc
    at (inr p) = ap (λ b. elim b as (λ _. ℕ) [ true ↦ suc (run_length 126 rest) | false ↦ 0 ]) p.0

one_more : (text rest : Text) → text ≡ 126 ∷ rest → run_length 126 text ≡ suc (run_length 126 rest)
unfolding run_length
one_more text rest e = ap (run_length 126) e

-- ---- one or two

pub one_begins : (rest : Text) → None ≡ is 126 rest → BeginsRun 126 Tilde rest
one_begins rest e = record { same = refl; fits = ap suc (sym (none_follows rest e)) }

two_long : (rest second : Text) → Some second ≡ is 126 rest → None ≡ is 126 second → run_length 126 rest ≡ 1
two_long rest second e f = one_more rest second (is_first 126 rest second e) ∙ ap suc (none_follows second f)

pub two_begin : (rest second : Text) → Some second ≡ is 126 rest → None ≡ is 126 second → BeginsRun 126 TwoTildes rest
two_begin rest second e f = record { same = refl; fits = ap suc (sym (two_long rest second e f)) }

strike_reads : (rules : Rules) (refs : List Definition) (last : ℕ) (made : List Inline) (rest : Text) → rules.strikethrough ≡ true
    → read_item rules refs last made 126 rest ≡ tildes last made 126 rest
unfolding read_item kind_in kinds item_of_kind
strike_reads rules refs last made rest e = ap (λ (b : Bool). if b then tildes last made 126 rest else as_literal 126 made) e

few_are_read : (rules : Rules) (rest : Text) → rules.strikethrough ≡ true → nat_le (run_length 126 rest) 1 ≡ true → IsRead rules 126 rest
unfolding tildes
few_are_read rules rest e f refs last made =
    strike_reads rules refs last made rest e
    ∙ ap (λ (b : Bool). elim b as (λ _. List Inline × ℕ) [
      | true ↦ delimiters last made 126 rest
      | false ↦ (replicate (suc (run_length 126 rest)) (Literal 126) ++ made, run_length 126 rest)
    ]) f

pub one_is_read : (rules : Rules) (rest : Text) → rules.strikethrough ≡ true → None ≡ is 126 rest → IsRead rules 126 rest
one_is_read rules rest e f = few_are_read rules rest e (ap (λ n. nat_le n 1) (none_follows rest f))

pub two_are_read : (rules : Rules) (rest second : Text) → rules.strikethrough ≡ true → Some second ≡ is 126 rest → None ≡ is 126 second
    → IsRead rules 126 rest
two_are_read rules rest second e f g = few_are_read rules rest e (ap (λ n. nat_le n 1) (two_long rest second f g))

-- ---- more

-- three at least before a rest
pub record AreMany (rest second third next : Text) : Type 0 where
  pub first : Some second ≡ is 126 rest
  pub more : Some third ≡ is 126 second
  pub run : Some next ≡ many (λ d. 126 == d) third
  pub behind : IsRest next third

many_long : (rest second third next : Text) → AreMany rest second third next → run_length 126 rest ≡ suc (suc (run_length 126 third))
many_long rest second third next m =
    one_more rest second (is_first 126 rest second m.first) ∙ ap suc (one_more second third (is_first 126 second third m.more))

many_split : (rest second third next : Text) → AreMany rest second third next → rest ≡ replicate (run_length 126 rest) 126 ++ next
many_split rest second third next m =
    is_first 126 rest second m.first
    ∙ (ap (λ t. 126 ∷ t) (is_first 126 second third m.more ∙ ap (λ t. 126 ∷ t) (split_at_run 126 third next m.run))
    ∙ ap (λ n. replicate n 126 ++ next) (sym (many_long rest second third next m)))

pub many_behind : (rest second third next : Text) → AreMany rest second third next → IsRest next rest
many_behind rest second third next m = record {
  front = replicate (run_length 126 rest) 126;
  split = many_split rest second third next m;
}

many_before : (whole rest second third next : Text) → whole ≡ 126 ∷ rest → AreMany rest second third next
    → before next whole ≡ replicate (suc (run_length 126 rest)) 126
many_before whole rest second third next e m =
    ap (before next) (e ∙ ap (λ t. 126 ∷ t) (many_split rest second third next m))
    ∙ before_is (replicate (suc (run_length 126 rest)) 126) next

uncut_tildes : (n : ℕ) → list_all is_uncut (replicate n 126) ≡ true
uncut_tildes zero = refl
uncut_tildes (suc n) = uncut_tildes n

pub many_uncut : (whole rest second third next : Text) → whole ≡ 126 ∷ rest → AreMany rest second third next
    → list_all is_uncut (before next whole) ≡ true
many_uncut whole rest second third next e m =
    ap (list_all is_uncut) (many_before whole rest second third next e m) ∙ uncut_tildes (suc (run_length 126 rest))

pub many_made : (whole rest second third next : Text) (made new : List Inline) → whole ≡ 126 ∷ rest → AreMany rest second third next
    → new ≡ onto (literals (before next whole)) made → new ≡ replicate (suc (run_length 126 rest)) (Literal 126) ++ made
many_made whole rest second third next made new e m f =
    f ∙ (ap (λ t. onto (literals t) made) (many_before whole rest second third next e m) ∙ run_onto (suc (run_length 126 rest)) 126 made)

pub many_read : (rules : Rules) (refs : List Definition) (last : ℕ) (made : List Inline) (rest second third next : Text)
    → rules.strikethrough ≡ true → AreMany rest second third next →
    read_item rules refs last made 126 rest
    ≡ (replicate (suc (run_length 126 rest)) (Literal 126) ++ made, length rest - length next)
unfolding tildes
many_read rules refs last made rest second third next e m =
    let long : run_length 126 rest ≡ suc (suc (run_length 126 third)) = many_long rest second third next m in
    let more : 1 < run_length 126 rest = omega arith in
    let taken : run_length 126 rest ≡ length rest - length next = taken_by 126 (run_length 126 rest) rest next
    (many_split rest second third next m) in
    strike_reads rules refs last made rest e
    ∙ (ap (λ (b : Bool). elim b as (λ _. List Inline × ℕ) [
      | true ↦ delimiters last made 126 rest
      | false ↦ (replicate (suc (run_length 126 rest)) (Literal 126) ++ made, run_length 126 rest)
    ]) (lt-leb (run_length 126 rest) 1 more)
    ∙ ap (λ n. (replicate (suc (run_length 126 rest)) (Literal 126) ++ made, n)) taken)
