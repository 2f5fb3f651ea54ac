-- A target's route stands in the part of it that is an origin form.
use Rattle.std.proofs.Common.{◌≡◌, ℕ, suc, ◌+◌, ◌==◌, not, true, false, cond, List, [], ◌∷◌, take, drop, ◌⊎◌, inl, inr, subst, Option, Some}
use Rattle.std.proofs.Common.{None, option_and_then, refl, sym, ap, ◌∙◌, arith}
use Rattle.std.specs.List.{position_or_len}
use Rattle.std.proofs.lemmas.Bool.Decides.{nat_tests}
use Rattle.doc_http_targets.specs.Targets.{ends_authority, after_authority, after_http, with_slash, if_rooted, origin_form_by, origin_form}
use Rattle.doc_http_targets.specs.Targets.{path_part, route_at, route_of}
use Rattle.doc_http_targets.specs.TargetSteps.{origin_part_by, origin_part}

-- the byte that ends an authority
ends-here : (text : List ℕ) (b : ℕ) (rest : List ℕ) → after_authority text ≡ b ∷ rest → ends_authority b ≡ true
ends-here [] b rest e = absurd (cc)
ends-here (x ∷ text) b rest e =
    let at = position_or_len ends_authority text in
    elim (ends_authority x) as (λ v. ends_authority x ≡ v → drop (cond (not v) (1 + at) 0) (x ∷ text) ≡ b ∷ rest
    → ends_authority b ≡ true) [
      | true ↦ λ ends h. let same : x ≡ b = cc in ap ends_authority (sym same) ∙ ends
      | false ↦ λ _ h. let n : 1 + at ≡ suc at = omega arith in ends-here text b rest (ap (λ k. drop k (x ∷ text)) (sym n) ∙ h)
    ] refl e

-- no route begins with a fragment
before_fragment : (rest : List ℕ) → route_at (path_part (47 ∷ 35 ∷ rest)) ≡ None
before_fragment rest =
    let at = position_or_len (λ b. b == 63) rest in
    let n : 1 + (1 + at) ≡ suc (suc at) = omega arith in
    ap (λ k. route_at (take k (47 ∷ 35 ∷ rest))) n

-- what lacks its `/` after the authority has no route
no_route : (b : ℕ) (rest : List ℕ) → ends_authority b ≡ true
    → route_at (path_part (with_slash (b ∷ rest))) ≡ option_and_then (λ form. route_at (path_part form)) (if_rooted (b ∷ rest))
no_route b rest ends =
    elim (b == 47) as (λ v. b == 47 ≡ v → route_at (path_part (cond v (b ∷ rest) (47 ∷ b ∷ rest)))
    ≡ option_and_then (λ form. route_at (path_part form)) (cond v (Some (b ∷ rest)) None)) [
      | true ↦ λ _. refl
      | false ↦ λ other.
          let which : (b ≡ 63) ⊎ (b ≡ 35) = grind (arith, nat_tests) in
          elim which [
            | inl query ↦ subst (λ x. route_at (path_part (47 ∷ x ∷ rest)) ≡ None) (sym query) refl
            | inr fragment ↦ subst (λ x. route_at (path_part (47 ∷ x ∷ rest)) ≡ None) (sym fragment) (before_fragment rest)
          ]
    ] refl

by_authority : (text : List ℕ) (known : List ℕ) → after_authority text ≡ known
    → route_at (path_part (with_slash known)) ≡ option_and_then (λ form. route_at (path_part form)) (if_rooted known)
by_authority text [] e = refl
by_authority text (b ∷ rest) e = no_route b rest (ends-here text b rest e)

by_scheme : (target : List ℕ) (known : Option (List ℕ)) → option_and_then (λ form. route_at (path_part form)) (origin_form_by target known)
    ≡ option_and_then (λ form. route_at (path_part form)) (origin_part_by target known)
by_scheme target None = refl
by_scheme target (Some rest) = by_authority rest (after_authority rest) refl

-- what a target asks for is what the origin form's part in the target does
pub route_of-part : (target : List ℕ) → route_of target ≡ option_and_then (λ form. route_at (path_part form)) (origin_part target)
unfolding route_of origin_form origin_part
route_of-part target = by_scheme target (after_http target)
