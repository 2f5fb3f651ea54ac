use Rattle.std.proofs.Common.{◌∙◌, ap, sym, refl, subst, ℕ, [], ◌∷◌}
use Rattle.std.specs.FinMap as map
use Rattle.std.specs.BTreeMap.{BTreeMap}
use Rattle.std.specs.Ordering.{nat_cmp}
use Rattle.std.proofs.lemmas.Cmp.{nat_cmp_total}
use Rattle.std.proofs.lemmas.Map.Lookups.{exact_unsigned}
use Rattle.doc_page_parts.proofs.Maps.{looked_up, inserted}
use Rattle.doc_server_listen.specs.Costs.{Left}
use Rattle.doc_server_turns.specs.Wirings.{Peer, Table}
use Rattle.doc_server_turns.proofs.Hearing.{nobody_hears, one_hears}
use Rattle.doc_server_turns.proofs.TableServing.{AllSharing, serves_at, serves_nobody, shares_none, shares_one}
use Rattle.doc_server_turns.proofs.Parting.{others_in, others_none}
use Rattle.doc_server_turns.proofs.Tables.{woken_at}
use Rattle.doc_server_turns.proofs.Visits.{either_none, one_either}
use Rattle.doc_server_turns.specs.Scopes.{is_earlier}
use Rattle.doc_server_network.proofs.Leading.{same_is_unedited}
use Rattle.doc_server_turns.proofs.peers.Peers.take_in_at.Goals as goal

pub returns-in_default-clause-serves : goal.returns-in_default-clause-serves
returns-in_default-clause-serves g c =
    let render = g.R.Renderer.page c.args.saved.now.hub.0 in let w = c.args.saved.now.hub.1 in
    let came = g.N.Network.came c.args.net.now in let ended = g.N.Network.has_ended c.args.net.now in
    subst (λ (t : Table). AllSharing render w w (c.args.id ∷ []) came came ended c.args.self.now t c.args.share.now c.begin.new.self
    (is_earlier c.args.scope))
    (sym (ap (λ (t : BTreeMap ℕ Peer). map.from_entries {R = nat_cmp} t.entries) c.get_mut.follows.holds-at-none ∙ c.self.view_is)) (
      serves_nobody render w (c.args.id ∷ []) came came ended c.args.self.now (λ k. refl),
      shares_none c.args.share.now c.begin.new.self (ap (λ (l : Left). l.dear) c.begin.ensures) (c.args.id ∷ []),
      nobody_hears c.args.id c.args.self.now
          (ap (λ m. map.get m c.args.id) (sym c.self.view_is)
          ∙ sym (looked_up nat_cmp_total exact_unsigned c.self.inside.clients.entries c.args.id) ∙ sym c.in_default.ensures.value),
      λ is. one_either c.args.id [] (either_none c.args.id),
    )

pub returns-clause-serves : goal.returns-clause-serves
returns-clause-serves g c =
    let es = c.self.inside.clients.entries in
    let h = c.in-Some.ensures.value in
    let k = (c.get_mut.follows.holds c.take_in.new.self).3 in (
      serves_at (g.R.Renderer.page c.args.saved.now.hub.0) c.args.saved.now.hub.1 c.take_in.new.saved.hub.1 c.args.id
          (g.N.Network.came c.args.net.now) (g.N.Network.came c.take_in.new.net) (g.N.Network.has_ended c.take_in.new.net)
          c.args.self.now _ c.in-Some.client.now c.take_in.new.self
          (ap (λ m. map.get m c.args.id) (sym c.self.view_is) ∙ sym (looked_up nat_cmp_total exact_unsigned es c.args.id) ∙ sym h)
          (inserted nat_cmp_total exact_unsigned es (c.get_mut.follows.lender c.take_in.new.self).entries c.args.id c.take_in.new.self
          (k (rw (← h) refl)).0 ∙ ap (λ m. map.insert m c.args.id c.take_in.new.self) c.self.view_is)
          c.take_in.ensures.others c.take_in.ensures.serves.0,
      shares_one c.args.id c.take_in.ensures.serves.0.run c.args.share.now c.begin.new.self c.take_in.new.share
          c.take_in.ensures.serves.0.own c.begin.ensures c.take_in.ensures.serves.1,
      one_hears c.args.id c.take_in.ensures.serves.0.run c.args.self.now _ c.in-Some.client.now c.take_in.new.self
          (ap (λ m. map.get m c.args.id) (sym c.self.view_is) ∙ sym (looked_up nat_cmp_total exact_unsigned es c.args.id) ∙ sym h)
          (inserted nat_cmp_total exact_unsigned es (c.get_mut.follows.lender c.take_in.new.self).entries c.args.id c.take_in.new.self
          (k (rw (← h) refl)).0 ∙ ap (λ m. map.insert m c.args.id c.take_in.new.self) c.self.view_is)
          c.take_in.ensures.serves.2 c.take_in.ensures.serves.3,
      λ is. one_either c.args.id c.take_in.ensures.serves.0.run (c.take_in.ensures.serves.4 is),
    )

pub returns-clause-woken : goal.returns-clause-woken
returns-clause-woken g c =
    let es = c.self.inside.clients.entries in
    let h = c.in-Some.ensures.value in
    let k = (c.get_mut.follows.holds c.take_in.new.self).3 in
    woken_at (g.N.Network.wakes c.args.net.now) (g.N.Network.wakes c.take_in.new.net) c.args.self.now _ c.args.id c.in-Some.client.now
    c.take_in.new.self
    (ap (λ m. map.get m c.args.id) (sym c.self.view_is) ∙ sym (looked_up nat_cmp_total exact_unsigned es c.args.id) ∙ sym h)
    (inserted nat_cmp_total exact_unsigned es (c.get_mut.follows.lender c.take_in.new.self).entries c.args.id c.take_in.new.self
    (k (rw (← h) refl)).0 ∙ ap (λ m. map.insert m c.args.id c.take_in.new.self) c.self.view_is)
    c.take_in.ensures.woken c.take_in.ensures.wakes

pub returns-clause-others : goal.returns-clause-others
returns-clause-others g c =
    let es = c.self.inside.clients.entries in
    let h = c.in-Some.ensures.value in
    let k = (c.get_mut.follows.holds c.take_in.new.self).3 in
    others_in c.args.self.now _ c.args.id c.take_in.new.self
    (inserted nat_cmp_total exact_unsigned es (c.get_mut.follows.lender c.take_in.new.self).entries c.args.id c.take_in.new.self
    (k (rw (← h) refl)).0 ∙ ap (λ m. map.insert m c.args.id c.take_in.new.self) c.self.view_is)

pub returns-in_default-clause-others : goal.returns-in_default-clause-others
returns-in_default-clause-others g c =
    others_none c.args.self.now _ c.args.id
    (ap (λ (t : BTreeMap ℕ Peer). map.from_entries {R = nat_cmp} t.entries) c.get_mut.follows.holds-at-none ∙ c.self.view_is)

pub returns-in_default-clause-unedited : goal.returns-in_default-clause-unedited
returns-in_default-clause-unedited g c = λ is. same_is_unedited c.args.saved.now c.args.saved.now refl
