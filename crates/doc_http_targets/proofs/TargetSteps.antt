-- Steps of the proofs on a request's target.
use Rattle.std.proofs.Common.{◌≡◌, ℕ, suc, ◌+◌, ◌<◌, ◌≤◌, ◌==◌, not, true, false, cond, List, [], ◌∷◌, length, get_or, take}
use Rattle.std.proofs.Common.{drop, map, min, Some, None, codes, refl, sym, ap, ◌∙◌, arith}
use Rattle.std.specs.Char.{to_ascii_lowercase}
use Rattle.std.specs.List.{position_or_len, after_first}
use Rattle.std.specs.Str.{IsUtf8, IsCharBoundary}
use Rattle.std.proofs.lemmas.Bool.Decides.{nat_tests}
use Rattle.std.proofs.lemmas.List.{get_or-map, get_or-take, length-map, length-take}
use Rattle.std.proofs.lemmas.Str.{IsCharBoundary-after_ascii}
use Rattle.doc_http_targets.specs.TargetSteps.{after_slash}

-- a letter that becomes `/` in lower case is one byte
lower_slash : (b : ℕ) → to_ascii_lowercase b ≡ 47 → b < 128
lower_slash b e = grind (arith, nat_tests)

-- a text may be cut after `http://`
pub boundary_after_http : (text : List ℕ) → IsUtf8 text → map to_ascii_lowercase (take 7 text) ≡ codes "http://" → IsCharBoundary text 7
boundary_after_http text utf8 same =
    let len : length (map to_ascii_lowercase (take 7 text)) ≡ 7 = ap length same in
    let least : min 7 (length text) ≡ 7 = simp (length-map, length-take) at len in
    let long : 7 ≤ length text = omega arith in
    let front : length (take 7 text) ≡ 7 = length-take 7 text ∙ least in
    let at_last : get_or (map to_ascii_lowercase (take 7 text)) 6 0 ≡ 47 = ap (λ xs. get_or xs 6 0) same in
    let mapped = get_or-map to_ascii_lowercase (take 7 text) 6 0 0 (omega arith) in
    let taken = get_or-take 7 text 6 0 (omega arith) in
    let last : to_ascii_lowercase (get_or text 6 0) ≡ 47 = ap to_ascii_lowercase (sym taken) ∙ sym mapped ∙ at_last in
    IsCharBoundary-after_ascii text 6 utf8 (omega arith) (lower_slash (get_or text 6 0) last)

-- what follows the first `/`, where there is none
pub after_slash-none : (text : List ℕ) → position_or_len (λ b. b == 47) text ≡ length text → after_slash text ≡ None
after_slash-none [] none = refl
after_slash-none (b ∷ rest) none =
    elim (b == 47) as (λ v. cond (not v) (1 + position_or_len (λ b. b == 47) rest) 0 ≡ length (b ∷ rest)
    → cond v (Some rest) (after_slash rest) ≡ None) [
      | true ↦ λ e. absurd (omega arith)
      | false ↦ λ e. after_slash-none rest (omega arith)
    ] none

-- what follows the first `/`, where there is one
pub after_slash-found : (text : List ℕ) → position_or_len (λ b. b == 47) text < length text
    → after_slash text ≡ Some (after_first (λ b. b == 47) text)
after_slash-found [] found = absurd (omega arith)
after_slash-found (b ∷ rest) found =
    let at = position_or_len (λ b. b == 47) rest in
    elim (b == 47) as (λ v. cond (not v) (1 + at) 0 < length (b ∷ rest)
    → cond v (Some rest) (after_slash rest) ≡ Some (drop (cond (not v) (1 + at) 0 + 1) (b ∷ rest))) [
      | true ↦ λ h. refl
      | false ↦ λ h. let e : 1 + at + 1 ≡ suc (at + 1) = omega arith in after_slash-found rest (omega arith)
          ∙ ap (λ n. Some (drop n (b ∷ rest))) (sym e)
    ] found
