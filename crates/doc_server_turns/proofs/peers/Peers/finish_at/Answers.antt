use Rattle.std.proofs.Common.{◌∙◌, ap, sym, refl, subst, ℕ}
use Rattle.std.specs.FinMap as map
use Rattle.std.specs.BTreeMap.{BTreeMap}
use Rattle.std.specs.Ordering.{nat_cmp}
use Rattle.std.proofs.lemmas.Cmp.{nat_cmp_total}
use Rattle.std.proofs.lemmas.Map.Lookups.{exact_unsigned}
use Rattle.doc_page_parts.proofs.Maps.{looked_up, inserted}
use Rattle.doc_server_turns.specs.Hearing.{SparesAll}
use Rattle.doc_server_turns.specs.Wirings.{Peer}
use Rattle.doc_server_turns.proofs.Ending.{ends_here, ends_nobody}
use Rattle.doc_server_turns.proofs.Hearing.{spares_at, spares_nobody}
use Rattle.doc_server_turns.proofs.Parting.{others_in, others_none}
use Rattle.doc_server_turns.proofs.Tables.{woken_at, lingers_at}
use Rattle.doc_server_turns.proofs.peers.Peers.finish_at.Goals as goal

pub returns-clause-lingers : goal.returns-clause-lingers
returns-clause-lingers g c =
    let es = c.self.inside.clients.entries in
    let h = c.in-Some.ensures.value in
    let k = (c.get_mut.follows.holds c.finish.new.self).3 in
    lingers_at (g.N.Network.came c.args.net.now) (g.N.Network.came c.finish.new.net) c.args.self.now _
    c.args.id c.in-Some.client.now c.finish.new.self
    (ap (λ m. map.get m c.args.id) (sym c.self.view_is) ∙ sym (looked_up nat_cmp_total exact_unsigned es c.args.id) ∙ sym h)
    (inserted nat_cmp_total exact_unsigned es (c.get_mut.follows.lender c.finish.new.self).entries c.args.id c.finish.new.self
    (k (rw (← h) refl)).0 ∙ ap (λ m. map.insert m c.args.id c.finish.new.self) c.self.view_is)
    c.finish.ensures.lingers c.finish.ensures.others

pub returns-clause-woken : goal.returns-clause-woken
returns-clause-woken g c =
    let es = c.self.inside.clients.entries in
    let h = c.in-Some.ensures.value in
    let k = (c.get_mut.follows.holds c.finish.new.self).3 in
    woken_at (g.N.Network.wakes c.args.net.now) (g.N.Network.wakes c.finish.new.net) c.args.self.now _ c.args.id c.in-Some.client.now
    c.finish.new.self
    (ap (λ m. map.get m c.args.id) (sym c.self.view_is) ∙ sym (looked_up nat_cmp_total exact_unsigned es c.args.id) ∙ sym h)
    (inserted nat_cmp_total exact_unsigned es (c.get_mut.follows.lender c.finish.new.self).entries c.args.id c.finish.new.self
    (k (rw (← h) refl)).0 ∙ ap (λ m. map.insert m c.args.id c.finish.new.self) c.self.view_is)
    c.finish.ensures.woken c.finish.ensures.wakes

pub returns-clause-spares : goal.returns-clause-spares
returns-clause-spares g c =
    let es = c.self.inside.clients.entries in
    let h = c.in-Some.ensures.value in
    let k = (c.get_mut.follows.holds c.finish.new.self).3 in
    spares_at c.args.self.now _ c.args.id c.in-Some.client.now c.finish.new.self
    (ap (λ m. map.get m c.args.id) (sym c.self.view_is) ∙ sym (looked_up nat_cmp_total exact_unsigned es c.args.id) ∙ sym h)
    (inserted nat_cmp_total exact_unsigned es (c.get_mut.follows.lender c.finish.new.self).entries c.args.id c.finish.new.self
    (k (rw (← h) refl)).0 ∙ ap (λ m. map.insert m c.args.id c.finish.new.self) c.self.view_is)
    c.finish.ensures.spares

pub returns-in_default-clause-spares : goal.returns-in_default-clause-spares
returns-in_default-clause-spares g c =
    subst (SparesAll c.args.self.now)
    (sym (ap (λ (t : BTreeMap ℕ Peer). map.from_entries {R = nat_cmp} t.entries) c.get_mut.follows.holds-at-none ∙ c.self.view_is))
    (spares_nobody c.args.self.now)

pub returns-clause-ends : goal.returns-clause-ends
returns-clause-ends g c =
    let es = c.self.inside.clients.entries in
    let h = c.in-Some.ensures.value in
    let k = (c.get_mut.follows.holds c.finish.new.self).3 in
    ends_here c.args.self.now _ c.args.id c.in-Some.client.now c.finish.new.self
    (ap (λ m. map.get m c.args.id) (sym c.self.view_is) ∙ sym (looked_up nat_cmp_total exact_unsigned es c.args.id) ∙ sym h)
    (inserted nat_cmp_total exact_unsigned es (c.get_mut.follows.lender c.finish.new.self).entries c.args.id c.finish.new.self
    (k (rw (← h) refl)).0 ∙ ap (λ m. map.insert m c.args.id c.finish.new.self) c.self.view_is)
    c.finish.ensures.ends

pub returns-in_default-clause-ends : goal.returns-in_default-clause-ends
returns-in_default-clause-ends g c =
    ends_nobody c.args.self.now _ c.args.id
    (ap (λ m. map.get m c.args.id) (sym c.self.view_is)
    ∙ sym (looked_up nat_cmp_total exact_unsigned c.self.inside.clients.entries c.args.id) ∙ sym c.in_default.ensures.value)

pub returns-clause-others : goal.returns-clause-others
returns-clause-others g c =
    let es = c.self.inside.clients.entries in
    let h = c.in-Some.ensures.value in
    let k = (c.get_mut.follows.holds c.finish.new.self).3 in
    others_in c.args.self.now _ c.args.id c.finish.new.self
    (inserted nat_cmp_total exact_unsigned es (c.get_mut.follows.lender c.finish.new.self).entries c.args.id c.finish.new.self
    (k (rw (← h) refl)).0 ∙ ap (λ m. map.insert m c.args.id c.finish.new.self) c.self.view_is)

pub returns-in_default-clause-others : goal.returns-in_default-clause-others
returns-in_default-clause-others g c =
    others_none c.args.self.now _ c.args.id
    (ap (λ (t : BTreeMap ℕ Peer). map.from_entries {R = nat_cmp} t.entries) c.get_mut.follows.holds-at-none ∙ c.self.view_is)
