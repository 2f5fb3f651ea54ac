-- What stands in a table of bodies.
use Rattle.std.proofs.Common.{◌≡◌, ◌⊎◌, ℕ, List, [], ◌∷◌, ◌++◌, Bool, true, false, cond, inl, inr, refl, ap, sym, subst, ◌∙◌, arith}
use Rattle.std.specs.Prelude.{Contains, Some, None, Result, Ok, Err, OnOk, OnErr}
use Rattle.std.specs.Cmp.Lexicographic.{slice_cmp}
use Rattle.std.specs.FinMap as map
use Rattle.std.specs.Ordering.{nat_cmp}
use Rattle.std.proofs.lemmas.List.Elements.{Contains-push_cases}
use Rattle.doc_store_readers.proofs.KeySteps.{get_set, get_taken, same_from, same_key}
use Rattle.doc_shelf_bodies.specs.Tables.{AddsAtMost, BodyMap, StandsAt, bodies_in}
use Rattle.doc_shelf_bodies.specs.declared.body.Body.{Body}

none_in : (one : Body) → Contains [] one → ⊥
none_in one c = let within = c.1 in omega arith

-- in an empty table none stands
pub none_stands : (rows : BodyMap) (path : List ℕ) (one : Body) → rows ≡ map.empty → StandsAt rows path one → ⊥
none_stands rows path one empty stands =
    none_in one (subst (λ o. Contains (bodies_in o) one)
    (ap (λ m. map.get m path) empty ∙ map.get-empty (slice_cmp nat_cmp) path) stands)

module _ (old taken : BodyMap) (path : List ℕ) (body : Body) (removed : taken ≡ map.remove old path) where
  stood_before : (at : List ℕ) (one : Body) → StandsAt taken at one → StandsAt old at one
  stood_before at one stands =
      by (same_key at path) (subst (λ o. Contains (bodies_in o) one) (ap (λ m. map.get m at) removed ∙ get_taken old path at) stands)
    where
      by : (b : Bool) → Contains (bodies_in (cond b None (map.get old at))) one → StandsAt old at one
      by true h = absurd (none_in one h)
      by false h = h

  -- without the bodies of a path
  pub taken_out : AddsAtMost old path body taken
  taken_out at one stands = inl (stood_before at one stands)

  module _ (bodies : List Body) (new : BodyMap) (are : bodies ≡ bodies_in (map.get old path) ++ body ∷ []) where
    -- with these and one more set there
    pub set_there : new ≡ map.insert taken path bodies → AddsAtMost old path body new
    set_there inserted at one stands =
        by (same_key at path) refl
        (subst (λ o. Contains (bodies_in o) one) (ap (λ m. map.get m at) inserted ∙ get_set taken path bodies at) stands)
      where
        by : (b : Bool) → same_key at path ≡ b → Contains (bodies_in (cond b (Some bodies) (map.get taken at))) one
            → StandsAt old at one ⊎ ((at ≡ path) × (one ≡ body))
        by true e h = elim (Contains-push_cases (bodies_in (map.get old path)) body one (subst (λ bs. Contains bs one) are h)) [
          | inl before ↦ inl (subst (λ p. StandsAt old p one) (sym (same_from at path e)) before)
          | inr last ↦ inr (same_from at path e, sym last)
        ]
        by false e h = inl (stood_before at one h)

    pub set_or_not : {E : Type 0} (r : Result (Unit {0}) E) → OnOk r (new ≡ map.insert taken path bodies) → OnErr r (new ≡ taken)
        → AddsAtMost old path body new
    set_or_not (Ok fine) inserted same = set_there inserted
    set_or_not (Err e) inserted same = subst (AddsAtMost old path body) (sym same) taken_out
