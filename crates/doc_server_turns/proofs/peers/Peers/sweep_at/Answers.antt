use Rattle.std.proofs.Common.{◌∙◌, ap, sym, refl, subst, ℕ}
use Rattle.std.specs.FinMap as map
use Rattle.std.proofs.lemmas.Cmp.{nat_cmp_total}
use Rattle.std.proofs.lemmas.Map.Lookups.{exact_unsigned}
use Rattle.doc_page_parts.proofs.Maps.{looked_up, inserted}
use Rattle.std.specs.BTreeMap.{BTreeMap}
use Rattle.std.specs.Ordering.{nat_cmp}
use Rattle.doc_server_turns.specs.Wirings.{IsFedAt, Peer, Table}
use Rattle.doc_server_turns.proofs.Feeding.{fed_here, fed_nobody}
use Rattle.doc_server_turns.proofs.Parting.{others_in, others_none}
use Rattle.doc_server_turns.proofs.Sweeping.{swept_here, swept_nobody}
use Rattle.doc_server_turns.proofs.Tables.{swept_at}
use Rattle.doc_server_turns.proofs.peers.Peers.sweep_at.Goals as goal

pub returns : goal.returns
returns c =
    let es = c.self.inside.clients.entries in
    let h = c.in-Some.ensures.value in
    let k = (c.get_mut.follows.holds c.sweep.new.self).3 in
    record {
      exact = swept_here c.args.limits.now c.args.is_crowded c.args.self.now _ c.args.id c.in-Some.client.now c.sweep.new.self
          (ap (λ m. map.get m c.args.id) (sym c.self.view_is) ∙ sym (looked_up nat_cmp_total exact_unsigned es c.args.id) ∙ sym h)
          (inserted nat_cmp_total exact_unsigned es (c.get_mut.follows.lender c.sweep.new.self).entries c.args.id c.sweep.new.self
          (k (rw (← h) refl)).0 ∙ ap (λ m. map.insert m c.args.id c.sweep.new.self) c.self.view_is)
          c.sweep.ensures.exact;
      others = others_in c.args.self.now _ c.args.id c.sweep.new.self
          (inserted nat_cmp_total exact_unsigned es (c.get_mut.follows.lender c.sweep.new.self).entries c.args.id c.sweep.new.self
          (k (rw (← h) refl)).0 ∙ ap (λ m. map.insert m c.args.id c.sweep.new.self) c.self.view_is);
      swept = swept_at c.args.self.now _ c.args.id c.in-Some.client.now c.sweep.new.self
          (ap (λ m. map.get m c.args.id) (sym c.self.view_is) ∙ sym (looked_up nat_cmp_total exact_unsigned es c.args.id) ∙ sym h)
          (inserted nat_cmp_total exact_unsigned es (c.get_mut.follows.lender c.sweep.new.self).entries c.args.id c.sweep.new.self
          (k (rw (← h) refl)).0 ∙ ap (λ m. map.insert m c.args.id c.sweep.new.self) c.self.view_is)
          c.sweep.ensures.swept;
      fed = fed_here c.args.self.now _ c.args.id c.sweep.new.self
          (inserted nat_cmp_total exact_unsigned es (c.get_mut.follows.lender c.sweep.new.self).entries c.args.id c.sweep.new.self
          (k (rw (← h) refl)).0 ∙ ap (λ m. map.insert m c.args.id c.sweep.new.self) c.self.view_is)
          c.sweep.ensures.fed;
    }

pub returns-in_default-clause-fed : goal.returns-in_default-clause-fed
returns-in_default-clause-fed c =
    subst (λ (t : Table). IsFedAt (map.get t c.args.id))
    (sym (ap (λ (t : BTreeMap ℕ Peer). map.from_entries {R = nat_cmp} t.entries) c.get_mut.follows.holds-at-none ∙ c.self.view_is))
    (fed_nobody c.args.self.now c.args.id
    (ap (λ m. map.get m c.args.id) (sym c.self.view_is)
    ∙ sym (looked_up nat_cmp_total exact_unsigned c.self.inside.clients.entries c.args.id) ∙ sym c.in_default.ensures.value))

pub returns-in_default-clause-exact : goal.returns-in_default-clause-exact
returns-in_default-clause-exact c =
    swept_nobody c.args.limits.now c.args.is_crowded c.args.self.now _ c.args.id
    (ap (λ (t : BTreeMap ℕ Peer). map.from_entries {R = nat_cmp} t.entries) c.get_mut.follows.holds-at-none ∙ c.self.view_is)
    (ap (λ m. map.get m c.args.id) (sym c.self.view_is)
    ∙ sym (looked_up nat_cmp_total exact_unsigned c.self.inside.clients.entries c.args.id) ∙ sym c.in_default.ensures.value)

pub returns-in_default-clause-others : goal.returns-in_default-clause-others
returns-in_default-clause-others c =
    others_none c.args.self.now _ c.args.id
    (ap (λ (t : BTreeMap ℕ Peer). map.from_entries {R = nat_cmp} t.entries) c.get_mut.follows.holds-at-none ∙ c.self.view_is)
