-- A sweep of some numbers, one behind the other.
use Rattle.std.proofs.Common.{◌≡◌, ◌==◌, ◌++◌, ◌+◌, ℕ, List, [], ◌∷◌, Bool, true, false, cond, refl, sym, ap, subst, ◌∙◌, arith, eq-eqb}
use Rattle.std.specs.Prelude.{Some, None, option_map}
use Rattle.std.specs.FinMap as map
use Rattle.std.proofs.lemmas.Bool.{eqb-true}
use Rattle.doc_server_turns.specs.Parts.{times_among}
use Rattle.doc_server_turns.specs.Sweeps.{Sweeps, swept}
use Rattle.doc_server_turns.specs.Wirings.{Peer, Table}
use Rattle.doc_server_turns.specs.declared.limits.Limits.{Limits}
use Rattle.doc_server_turns.proofs.Tables.{get_same}
use Rattle.doc_server_turns.proofs.Parting.{one_behind, stay_more, stay_nobody, turned}

pub sweeps_nobody : (limits : Limits) (is_crowded : Bool) (t : Table) → Sweeps limits is_crowded [] t t
sweeps_nobody limits is_crowded t = record {
  each = λ k one. absurd (never one);
  others = stay_nobody [] t;
}
  where
    never : ◌≡◌ {A = ℕ} 0 1 → ⊥
    never e = omega (arith, e)

module _ (limits : Limits) (is_crowded : Bool) (numbers : List ℕ) (id : ℕ) (t u v : Table) (before : Sweeps limits is_crowded numbers t u)
    (here : map.get v id ≡ option_map (swept limits is_crowded) (map.get u id))
    (others : (k : ℕ) → (k == id) ≡ false → map.get v k ≡ map.get u k) where
  none_before : (n : ℕ) → n + 1 ≡ 1 → n ≡ 0
  none_before n is = omega (arith, is)

  one_before : (n : ℕ) → n + 0 ≡ 1 → n ≡ 1
  one_before n is = omega (arith, is)

  at : (k : ℕ) (b : Bool) → (id == k) ≡ b → times_among numbers k + cond (id == k) 1 0 ≡ 1
      → map.get v k ≡ option_map (swept limits is_crowded) (map.get t k)
  at k true e one =
      let stays = before.others k (none_before (times_among numbers k) (subst (λ c. times_among numbers k + cond c 1 0 ≡ 1) e one)) in
      subst (λ n. map.get v n ≡ option_map (swept limits is_crowded) (map.get u n)) (eqb-true id k e) here
      ∙ ap (option_map (swept limits is_crowded)) stays
  at k false e one =
      others k (turned id k e)
      ∙ before.each k (one_before (times_among numbers k) (subst (λ c. times_among numbers k + cond c 1 0 ≡ 1) e one))

  pub sweeps_more : Sweeps limits is_crowded (numbers ++ id ∷ []) t v
  sweeps_more = record {
    each = λ k one. at k (id == k) refl (sym (one_behind numbers id k) ∙ one);
    others = stay_more numbers id t u v before.others others;
  }

-- the client of one number
pub swept_here : (limits : Limits) (is_crowded : Bool) (t u : Table) (id : ℕ) (p q : Peer) → map.get t id ≡ Some p → u ≡ map.insert t id q
    → q ≡ swept limits is_crowded p → map.get u id ≡ option_map (swept limits is_crowded) (map.get t id)
swept_here limits is_crowded t u id p q found is own =
    ap (λ m. map.get m id) is ∙ get_same t id q id (eq-eqb id id refl) ∙ ap Some own ∙ ap (option_map (swept limits is_crowded)) (sym found)

pub swept_nobody : (limits : Limits) (is_crowded : Bool) (t u : Table) (id : ℕ) → u ≡ t → map.get t id ≡ None
    → map.get u id ≡ option_map (swept limits is_crowded) (map.get t id)
swept_nobody limits is_crowded t u id is none = ap (λ m. map.get m id) is ∙ none ∙ ap (option_map (swept limits is_crowded)) (sym none)
