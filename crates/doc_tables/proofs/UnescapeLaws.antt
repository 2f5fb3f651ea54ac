-- Cells without the backslashes before their '|', one character after the other.
use Rattle.std.proofs.Common.{◌≡◌, ℕ, Bool, true, false, ◌==◌, List, [], ◌∷◌, ◌++◌, refl, ap, sym, ◌∙◌, Option, Some, None, length}
use Rattle.std.proofs.Common.{arith, ◌<◌, ◌≤◌, append_assoc, chars}
use Rattle.std.specs.Prelude.{◌&&◌}
use Rattle.std.proofs.lemmas.Bool.Decides.{nat_tests}
use Rattle.std.proofs.lemmas.List.{append-nil}
use Rattle.doc_rules.specs.Characters.{Text}
use Rattle.doc_tables.specs.CellSteps.{behind_pair}
use Rattle.doc_rules.specs.Tables.{unescape_pipes}
use Rattle.doc_tables.proofs.AlignmentLaws.{empty_stays, single_stays, no_pair}

-- ---- one character

found_by : Bool → Text → Option Text
found_by b rest = elim b [ true ↦ Some rest | false ↦ None ]

first_pair : (rest : Text) → unescape_pipes (92 ∷ 124 ∷ rest) ≡ 124 ∷ unescape_pipes rest
unfolding unescape_pipes
first_pair rest = refl

pub pair_read : (c : ℕ) (behind next : Text) → Some next ≡ behind_pair c behind
    → unescape_pipes (c ∷ behind) ≡ 124 ∷ unescape_pipes next
unfolding behind_pair found_by
pair_read c [] next e = at (c == 92) e
  where
    at : (b : Bool) → ◌≡◌ {A = Option Text} (Some next) (elim b [ true ↦ None | false ↦ None ])
        → unescape_pipes (c ∷ []) ≡ 124 ∷ unescape_pipes next
    at true f = absurd cc
    at false f = absurd cc
pair_read c (d ∷ rest) next e = at (c == 92) (d == 124) refl refl e
  where
    at : (b x : Bool) → (c == 92) ≡ b → (d == 124) ≡ x
        → ◌≡◌ {A = Option Text} (Some next) (elim b [ true ↦ found_by x rest | false ↦ None ])
        → unescape_pipes (c ∷ d ∷ rest) ≡ 124 ∷ unescape_pipes next
    at true true f g h =
        let one : c ≡ 92 = grind (arith, nat_tests) in
        let two : d ≡ 124 = grind (arith, nat_tests) in
        let same : next ≡ rest = cc in
        rw one (rw two (rw same (first_pair rest)))
    at true false f g h = absurd cc
    at false x f g h = absurd cc

pub one_read : (c : ℕ) (behind : Text) → None ≡ behind_pair c behind → unescape_pipes (c ∷ behind) ≡ c ∷ unescape_pipes behind
unfolding behind_pair found_by
one_read c [] e = single_stays c ∙ ap (λ (t : Text). c ∷ t) (sym empty_stays)
one_read c (d ∷ rest) e = no_pair c d rest (at (c == 92) (d == 124) e)
  where
    at : (b x : Bool) → ◌≡◌ {A = Option Text} None (elim b [ true ↦ found_by x rest | false ↦ None ]) → (b && x) ≡ false
    at true true f = absurd cc
    at true false f = refl
    at false x f = refl

pub pair_shorter : (c : ℕ) (behind next : Text) → Some next ≡ behind_pair c behind → length next ≤ length behind
unfolding behind_pair found_by
pair_shorter c [] next e = at (c == 92) e
  where
    at : (b : Bool) → ◌≡◌ {A = Option Text} (Some next) (elim b [ true ↦ None | false ↦ None ]) → length next ≤ 0
    at true f = absurd cc
    at false f = absurd cc
pair_shorter c (d ∷ rest) next e = at (c == 92) (d == 124) e
  where
    at : (b x : Bool) → ◌≡◌ {A = Option Text} (Some next) (elim b [ true ↦ found_by x rest | false ↦ None ])
        → length next ≤ length (d ∷ rest)
    at true true f = let same : next ≡ rest = cc in rw same (omega arith)
    at true false f = absurd cc
    at false x f = absurd cc

-- ---- all of them

pub read_on : (made made' text behind next whole : Text) (c read : ℕ) → made ++ unescape_pipes text ≡ whole → text ≡ c ∷ behind
    → unescape_pipes (c ∷ behind) ≡ read ∷ unescape_pipes next → made' ≡ made ++ read ∷ [] → made' ++ unescape_pipes next ≡ whole
read_on made made' text behind next whole c read same e f g =
    ap (λ (m : Text). m ++ unescape_pipes next) g
    ∙ append_assoc made (read ∷ []) (unescape_pipes next)
    ∙ ap (λ (t : Text). made ++ t) (sym (ap unescape_pipes e ∙ f))
    ∙ same

pub read_all : (made text whole : Text) → made ++ unescape_pipes text ≡ whole → text ≡ [] → made ≡ whole
read_all made text whole same e =
    sym (append-nil made) ∙ ap (λ (t : Text). made ++ t) (sym (ap unescape_pipes e ∙ empty_stays)) ∙ same

pub read_first : (made : List ℕ) (text : Text) → chars made ≡ [] → chars made ++ unescape_pipes text ≡ unescape_pipes text
read_first made text e = ap (λ (m : Text). m ++ unescape_pipes text) e

pub fewer_left : (c : ℕ) (text behind next : Text) → text ≡ c ∷ behind → length next ≤ length behind → length next < length text
fewer_left c text behind next e less = rw e (omega (arith, less))
