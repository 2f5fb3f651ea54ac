use Rattle.std.proofs.Common.{◌≡◌, ap, false, refl, subst, sym, ◌∙◌}
use Rattle.doc_server_network.specs.Reloads.{RemovalsFit, has_room_for, is_counted}
use Rattle.doc_store.specs.Store.{stamp_after}
use Rattle.doc_server_network.specs.declared.reload_fault.Refusal.TheVariants as refusals
use Rattle.doc_server_network.proofs.reloading.pages_of_start.Goals as goal

pub returns-then-not-has_room_for-clause-refused : goal.returns-then-not-has_room_for-clause-refused
returns-then-not-has_room_for-clause-refused g c = (
  refusals.Full,
  refl,
  (
    c.in_ok-again.again,
    record { gives = c.in_ok-again.ensures.restored },
    ap (has_room_for c.args.room) (sym c.page_count.ensures) ∙ sym c.has_room_for.ensures.exact ∙ c.if-not-has_room_for.true,
  ),
)

pub returns-then-not-is_counted-clause-refused : goal.returns-then-not-is_counted-clause-refused
returns-then-not-is_counted-clause-refused g c = (
  refusals.Other,
  refl,
  (
    c.in_ok-again.again,
    record { gives = c.in_ok-again.ensures.restored },
    subst (λ x. is_counted x (stamp_after c.args.config.puts) (stamp_after c.args.hub.now.1.puts) ≡ false) c.next_stamp.ensures.stamp
        (subst (λ x. is_counted c.next_stamp.result x (stamp_after c.args.hub.now.1.puts) ≡ false) c.next_stamp-counted.ensures.stamp
        (subst (λ x. is_counted c.next_stamp.result c.next_stamp-counted.result x ≡ false)
        (c.next_stamp-2.ensures.stamp ∙ ap stamp_after c.store.ensures.puts)
        (sym c.is_counted.ensures ∙ c.if-not-is_counted.true))),
  ),
)

pub returns-clause-room : goal.returns-clause-room
returns-clause-room g c = subst (RemovalsFit c.args.room) c.page_count.ensures (c.has_room_for.ensures.enough c.if-not-has_room_for.false)
