use Rattle.std.proofs.Common.{◌∙◌, ap, sym, refl, ℕ}
use Rattle.std.specs.FinMap as map
use Rattle.std.specs.BTreeMap.{BTreeMap}
use Rattle.std.specs.Ordering.{nat_cmp}
use Rattle.std.proofs.lemmas.Cmp.{nat_cmp_total}
use Rattle.std.proofs.lemmas.Map.Lookups.{exact_unsigned}
use Rattle.doc_page_parts.proofs.Maps.{looked_up, inserted}
use Rattle.doc_server_turns.specs.Wirings.{Peer}
use Rattle.doc_server_turns.proofs.Tables.{woke_none, woke_some}
use Rattle.doc_server_turns.proofs.peers.Peers.wake.Goals as goal

pub returns : goal.returns
returns c =
    let es = c.self.inside.clients.entries in
    let h = c.in-Some.ensures.value in
    let k = (c.get_mut.follows.holds c.wake.new.self).3 in
    let found = ap (λ m. map.get m c.args.id) (sym c.self.view_is) ∙ sym (looked_up nat_cmp_total exact_unsigned es c.args.id) ∙ sym h in
    woke_some c.args.id c.args.is_gone c.args.self.now _ c.in-Some.client.now (map.get c.args.self.now c.args.id) found
    (inserted nat_cmp_total exact_unsigned es (c.get_mut.follows.lender c.wake.new.self).entries c.args.id c.wake.new.self
    (k (rw (← h) refl)).0 ∙ ap (λ m. map.insert m c.args.id c.wake.new.self) c.self.view_is
    ∙ ap (map.insert c.args.self.now c.args.id) c.wake.ensures)

pub returns-in_default : goal.returns-in_default
returns-in_default c =
    let look = looked_up nat_cmp_total exact_unsigned c.self.inside.clients.entries c.args.id in
    woke_none c.args.id c.args.is_gone c.args.self.now _ (map.get c.args.self.now c.args.id)
    (ap (λ m. map.get m c.args.id) (sym c.self.view_is) ∙ sym look ∙ sym c.in_default.ensures.value)
    (ap (λ (t : BTreeMap ℕ Peer). map.from_entries {R = nat_cmp} t.entries) c.get_mut.follows.holds-at-none ∙ c.self.view_is)
