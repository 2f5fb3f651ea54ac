-- How many clients stand in a table in which nobody has come to stand.
use Rattle.std.proofs.Common.{◌≡◌, ◌≤◌, ◌-◌, ◌+◌, ℕ, List, [], ◌∷◌, suc, zero, Bool, true, false, cond, length, refl, sym, ap, subst, ◌∙◌, arith}
use Rattle.std.specs.Prelude.{Option, Some, None, is_some}
use Rattle.std.specs.FinMap as map
use Rattle.std.specs.Cmp.{eq_by_cmp_equiv}
use Rattle.std.specs.Ordering.{eq_by_cmp, nat_cmp}
use Rattle.std.proofs.lemmas.Cmp.{nat_cmp_total}
use Rattle.doc_server_turns.specs.Wirings.{Peer, Table}

none_some : (p : Peer) → ◌≡◌ {A = Option Peer} None (Some p) → ⊥
none_some p e = cc

-- a number under which a client stands
some_number : (t : Table) (es : List (ℕ × Peer)) (n : ℕ) → map.entries t ≡ es → length es ≡ suc n
    → (k : ℕ) × (p : Peer) × (map.get t k ≡ Some p)
some_number t [] n is long = absurd (omega (arith, long))
some_number t (e ∷ es) n is long = (
  e.0,
  e.1,
  map.get-entries t e.0 ∙ ap (map.find nat_cmp e.0) is
      ∙ ap (λ b. cond b (Some e.1) (map.find nat_cmp e.0 es)) ((eq_by_cmp_equiv nat_cmp_total).refl e.0),
)

stands : (t : Table) (k : ℕ) → (map.get t k ≡ None → ⊥) → is_some (map.get t k) ≡ true
stands t k some = by (map.get t k) refl
  where
    by : (o : Option Peer) → map.get t k ≡ o → is_some (map.get t k) ≡ true
    by None e = absurd (some e)
    by (Some p) e = ap is_some e

not_both : (b : Bool) → b ≡ true → b ≡ false → ⊥
not_both b is off = cc

not_empty : (t : Table) (k : ℕ) → is_some (map.get t k) ≡ true → map.len t ≡ 0 → ⊥
not_empty t k some none =
    not_both (is_some (map.get t k)) some
    (ap (λ m. is_some (map.get m k)) (map.empty_of_len t none) ∙ ap is_some (map.get-empty nat_cmp k))

less : (n m l : ℕ) → m ≡ suc n → l ≡ m - 1 → l ≡ n
less n m l long is = omega (arith, long, is)

-- without a client that stands there is one less
one_less : (t : Table) (k : ℕ) → is_some (map.get t k) ≡ true → map.len (map.remove t k) ≡ map.len t - 1
one_less t k some = map.len-remove nat_cmp_total t k ∙ ap (λ b. cond b (map.len t - 1) (map.len t)) some

more : (n m : ℕ) → n ≤ m - 1 → (m ≡ 0 → ⊥) → suc n ≤ m
more n m le some = by m refl
  where
    by : (x : ℕ) → m ≡ x → suc n ≤ m
    by zero e = absurd (some e)
    by (suc x) e = omega (arith, le, e)

out : (b : Bool) (x y : Option Peer) → (x ≡ None → y ≡ None) → cond b None x ≡ None → cond b None y ≡ None
out true x y keeps e = refl
out false x y keeps e = keeps e

kept_out : (k q : ℕ) (t u : Table) → (map.get t q ≡ None → map.get u q ≡ None) → map.get (map.remove t k) q ≡ None
    → map.get (map.remove u k) q ≡ None
kept_out k q t u keeps e =
    map.get-remove nat_cmp_total u k q
    ∙ out (eq_by_cmp nat_cmp q k) (map.get t q) (map.get u q) keeps (sym (map.get-remove nat_cmp_total t k q) ∙ e)

behind : (n : ℕ) (t u : Table) → map.len u ≡ suc n → ((k : ℕ) → map.get t k ≡ None → map.get u k ≡ None)
    → ((v w : Table) → map.len w ≡ n → ((k : ℕ) → map.get v k ≡ None → map.get w k ≡ None) → n ≤ map.len v)
    → ((k : ℕ) × (p : Peer) × (map.get u k ≡ Some p)) → suc n ≤ map.len t
behind n t u long none before (k, p, there) =
    let here : is_some (map.get t k) ≡ true = stands t k (λ e. none_some p (sym (none k e) ∙ there)) in
    let fewer : map.len (map.remove u k) ≡ n = less n (map.len u) (map.len (map.remove u k)) long (one_less u k (ap is_some there)) in
    more n (map.len t)
    (subst (λ m. n ≤ m) (one_less t k here)
    (before (map.remove t k) (map.remove u k) fewer (λ q e. kept_out k q t u (none q) e)))
    (not_empty t k here)

within : (n : ℕ) (t u : Table) → map.len u ≡ n → ((k : ℕ) → map.get t k ≡ None → map.get u k ≡ None) → n ≤ map.len t
within zero t u long none = omega arith
within (suc n) t u long none =
    behind n t u long none (λ v w. within n v w) (some_number u (map.entries u) n refl (sym (map.len-entries u) ∙ long))

-- where nobody stands under a number under which nobody stood, no more stand
pub no_more : (t u : Table) → ((k : ℕ) → map.get t k ≡ None → map.get u k ≡ None) → map.len u ≤ map.len t
no_more t u none = within (map.len u) t u refl none

-- one client more, or one that was there already
pub one_more : (t u : Table) (k : ℕ) (p : Peer) → u ≡ map.insert t k p → map.len u ≤ map.len t + 1
one_more t u k p is = by (map.contains_key t k) (map.len u) (ap map.len is ∙ map.len-insert nat_cmp_total t k p)
  where
    by : (b : Bool) (n : ℕ) → n ≡ cond b (map.len t) (map.len t + 1) → n ≤ map.len t + 1
    by true n e = omega (arith, e)
    by false n e = omega (arith, e)

-- one that came and went again
pub none_more : (t u v : Table) (k : ℕ) (p : Peer) → u ≡ map.insert t k p → v ≡ map.remove u k → map.len v ≤ map.len t + 1
none_more t u v k p came went =
    by (map.contains_key u k) (map.len v) (ap map.len went ∙ map.len-remove nat_cmp_total u k) (one_more t u k p came)
  where
    by : (b : Bool) (n : ℕ) → n ≡ cond b (map.len u - 1) (map.len u) → map.len u ≤ map.len t + 1 → n ≤ map.len t + 1
    by true n e le = omega (arith, e, le)
    by false n e le = omega (arith, e, le)

pub as_many : (t u : Table) → u ≡ t → map.len u ≤ map.len t + 1
as_many t u is = omega (arith, ap map.len is)

-- nobody stands
pub nobody : (t : Table) (n : ℕ) → ((k : ℕ) → map.get t k ≡ None) → map.len t ≤ n
nobody t n none = zero_le (map.len t) n (subst (λ m. map.len t ≤ m) (map.len-empty nat_cmp Peer) (no_more map.empty t (λ k e. none k)))
  where
    zero_le : (m n : ℕ) → m ≤ 0 → m ≤ n
    zero_le m n le = omega (arith, le)
