-- Steps of the proofs on a reference's components.
use Rattle.std.proofs.Common.{◌≡◌, ◌≢◌, ℕ, suc, ◌+◌, ◌<◌, ◌==◌, not, true, false, cond, List, [], ◌∷◌, length, get_or, drop}
use Rattle.std.proofs.Common.{Option, Some, None, refl, sym, ap, ◌∙◌, arith, Bor}
use Rattle.std.specs.List.{position_or_len, after_first}
use Rattle.std.specs.Option.{option_copied, MatchOption}
use Rattle.std.specs.Str.{IsCharBoundary}
use Rattle.std.proofs.lemmas.Bool.Decides.{nat_tests}
use Rattle.std.proofs.lemmas.List.Sums.{prefix_len-le-length}
use Rattle.doc_resolve.specs.References.{behind, behind_slash, authority_len}

-- what follows the first such byte, where there is none
pub behind-none : (c : ℕ) (text : List ℕ) → position_or_len (λ b. b == c) text ≡ length text → behind c text ≡ None
behind-none c [] none = refl
behind-none c (b ∷ rest) none =
    elim (b == c) as (λ v. cond (not v) (1 + position_or_len (λ b. b == c) rest) 0 ≡ length (b ∷ rest)
    → cond v (Some rest) (behind c rest) ≡ None) [
      | true ↦ λ e. absurd (omega arith)
      | false ↦ λ e. behind-none c rest (omega arith)
    ] none

-- what follows the first such byte, where there is one
pub behind-found : (c : ℕ) (text : List ℕ) → position_or_len (λ b. b == c) text < length text
    → behind c text ≡ Some (after_first (λ b. b == c) text)
behind-found c [] found = absurd (omega arith)
behind-found c (b ∷ rest) found =
    let at = position_or_len (λ b. b == c) rest in
    elim (b == c) as (λ v. cond (not v) (1 + at) 0 < length (b ∷ rest)
    → cond v (Some rest) (behind c rest) ≡ Some (drop (cond (not v) (1 + at) 0 + 1) (b ∷ rest))) [
      | true ↦ λ h. refl
      | false ↦ λ h. let e : 1 + at + 1 ≡ suc (at + 1) = omega arith in behind-found c rest (omega arith)
          ∙ ap (λ n. Some (drop n (b ∷ rest))) (sym e)
    ] found

-- a `/` stands where an authority ends, if not the text does
slash_at : (text : List ℕ) → authority_len text < length text → get_or text (authority_len text) 0 ≡ 47
slash_at [] within = absurd (omega arith)
slash_at (b ∷ rest) within =
    let at = authority_len rest in
    elim (b == 47) as (λ v. b == 47 ≡ v → cond (not v) (1 + at) 0 < length (b ∷ rest)
    → get_or (b ∷ rest) (cond (not v) (1 + at) 0) 0 ≡ 47) [
      | true ↦ λ e h. grind (arith, nat_tests)
      | false ↦ λ e h. let s : 1 + at ≡ suc at = omega arith in ap (λ n. get_or (b ∷ rest) n 0) s ∙ slash_at rest (omega arith)
    ] refl within

-- so the text may be cut there
pub boundary_at_end : (text : List ℕ) → IsCharBoundary text (authority_len text)
boundary_at_end text =
    let within = prefix_len-le-length (λ b. not (b == 47)) text in
    (within, λ short high. let slash = slash_at text short in absurd (omega arith))

-- what follows a `/` at the front
pub behind_slash-found : (text : List ℕ) (r : Option (Bor (List ℕ)))
    → MatchOption r ((rest : List ℕ) → text ≢ 47 ∷ rest) (λ x. text ≡ 47 ∷ x.now) → option_copied r ≡ behind_slash text
behind_slash-found text (Some x) is = rw is refl
behind_slash-found [] None none = refl
behind_slash-found (b ∷ rest) None none =
    elim (b == 47) as (λ v. b == 47 ≡ v → None ≡ cond v (Some rest) None) [
      | true ↦ λ e. let same : b ≡ 47 = grind (arith, nat_tests) in absurd (none rest (ap (λ x. x ∷ rest) same))
      | false ↦ λ _. refl
    ] refl
