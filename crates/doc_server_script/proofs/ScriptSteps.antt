-- The lines of a script, one after the other.
use Rattle.std.proofs.Common.{◌≡◌, ℕ, suc, ◌+◌, ◌<◌, ◌==◌, not, List, [], ◌∷◌, length, take, drop, Bool, true, false, cond, refl, ap, sym}
use Rattle.std.proofs.Common.{subst, ◌∙◌, arith}
use Rattle.std.proofs.Common.{◌≤◌, inl, inr, length-drop}
use Rattle.std.specs.Prelude.{Option, Some, None, nat_lt}
use Rattle.std.specs.List.{position_or_len, before_first, after_first}
use Rattle.std.proofs.lemmas.List.Sums.{prefix_len-le-length}
use Rattle.std.proofs.lemmas.Bool.{cases_Bool}
use Rattle.std.proofs.lemmas.Bool.Decides.{nat_tests}
use Rattle.doc_server_script.specs.ScriptSteps.{cut, is_lf}
use Rattle.doc_server_script.specs.Scripts.{lines, onto_first}

cut_at : (t : Bool) (b : ℕ) (rest : List ℕ) → (t ≡ false → lines rest ≡ before_first is_lf rest ∷ lines (after_first is_lf rest))
    → cond t ([] ∷ lines rest) (onto_first b (lines rest))
    ≡ take (cond (not t) (1 + position_or_len is_lf rest) 0) (b ∷ rest)
    ∷ lines (drop (cond (not t) (1 + position_or_len is_lf rest) 0 + 1) (b ∷ rest))
cut_at true b rest behind = refl
cut_at false b rest behind =
    let n = position_or_len is_lf rest in
    let one : 1 + n ≡ suc n = omega arith in
    let two : 1 + n + 1 ≡ suc (n + 1) = omega arith in
    ap (onto_first b) (behind refl)
    ∙ sym (ap (λ k. take k (b ∷ rest) ∷ lines (drop (1 + n + 1) (b ∷ rest))) one
    ∙ ap (λ k. take (suc n) (b ∷ rest) ∷ lines (drop k (b ∷ rest))) two)

-- a LF ends the first line
ended : (script : List ℕ) → position_or_len is_lf script < length script
    → lines script ≡ before_first is_lf script ∷ lines (after_first is_lf script)
unfolding lines
ended [] within = absurd (omega (arith, within))
ended (b ∷ rest) within = cut_at (b == 10) b rest (λ other. ended rest (inside other))
  where
    inside : (b == 10) ≡ false → position_or_len is_lf rest < length rest
    inside other =
        let less = subst (λ t. cond (not t) (1 + position_or_len is_lf rest) 0 < length (b ∷ rest)) other within in omega (arith, less)

is_other : (t : Bool) (n m : ℕ) → cond (not t) (1 + n) 0 ≡ 1 + m → (t ≡ false) × (n ≡ m)
is_other true n m is = absurd (omega (arith, is))
is_other false n m is = (refl, omega (arith, is))

-- no LF ends it
whole : (script : List ℕ) → 0 < length script → position_or_len is_lf script ≡ length script → lines script ≡ script ∷ []
unfolding lines
whole [] some none = absurd (omega (arith, some))
whole (b ∷ []) some none =
    let other = is_other (b == 10) 0 0 none in ap (λ t. cond t ([] ∷ []) ((b ∷ []) ∷ [])) other.0
whole (b ∷ c ∷ rest) some none =
    let longer : length (b ∷ c ∷ rest) ≡ 1 + length (c ∷ rest) = omega arith in
    let other = is_other (b == 10) (position_or_len is_lf (c ∷ rest)) (length (c ∷ rest)) (none ∙ longer) in
    let more = whole (c ∷ rest) (omega arith) other.1 in
    ap (λ t. cond t ([] ∷ lines (c ∷ rest)) (onto_first b (lines (c ∷ rest)))) other.0 ∙ ap (onto_first b) more

-- what follows is shorter
shorter : (script : List ℕ) → position_or_len is_lf script < length script → length (after_first is_lf script) < length script
shorter script within = omega (arith, within, length-drop (position_or_len is_lf script + 1) script)

abbrev Parts : List ℕ → Option (List ℕ × List ℕ) → Type 0
Parts script None = lines script ≡ script ∷ []
Parts script (Some parts) = (lines script ≡ parts.0 ∷ lines parts.1) × (length parts.1 < length script)

found : (a b : ℕ) → nat_lt a b ≡ true → a < b
found a b is = grind (arith, nat_tests)

never : (script : List ℕ) → nat_lt (position_or_len is_lf script) (length script) ≡ false
    → position_or_len is_lf script ≡ length script
never script is =
    let at_most : position_or_len is_lf script ≤ length script = prefix_len-le-length (λ b. not (is_lf b)) script in
    grind (arith, nat_tests)

parts_of : (script : List ℕ) → 0 < length script → Parts script (cut script)
parts_of script some =
    elim (cases_Bool (nat_lt (position_or_len is_lf script) (length script))) [
      | inl is ↦
          subst (λ t. Parts script (cond t (Some (before_first is_lf script, after_first is_lf script)) None)) (sym is)
          (ended script (found _ _ is), shorter script (found _ _ is))
      | inr other ↦
          subst (λ t. Parts script (cond t (Some (before_first is_lf script, after_first is_lf script)) None)) (sym other)
          (whole script some (never script other))
    ]

-- a script that was cut at its first LF
pub cut_line : (script line more : List ℕ) → 0 < length script → cut script ≡ Some (line, more)
    → (lines script ≡ line ∷ lines more) × (length more < length script)
cut_line script line more some is = subst (Parts script) is (parts_of script some)

-- a script without LF
pub last_line : (script : List ℕ) → 0 < length script → cut script ≡ None
    → (lines script ≡ script ∷ lines []) × (0 < length script)
unfolding lines
last_line script some is = (subst (Parts script) is (parts_of script some), some)
