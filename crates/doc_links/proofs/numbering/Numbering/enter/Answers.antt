use Rattle.std.proofs.Common.{Some, set, ◌∙◌}
use Rattle.doc_links.proofs.NamingSteps.{forgotten, of_slice, others_named, same_named, set_here, set_others}
use Rattle.doc_links.proofs.NumberingSteps.{as_they_were, cleared, entered, kept, kept_others}
use Rattle.doc_links.proofs.numbering.Numbering.enter.Goals as goal

pub returns-in_err-make_room-clause-numbered : goal.returns-in_err-make_room-clause-numbered
returns-in_err-make_room-clause-numbered c slots there are =
    let old = c.args.self.now in
    as_they_were slots old.names c.clear.new.numbers.items
    (cleared slots old.names old.numbers.items are c.clear.new.numbers.items c.args.slot c.clear.ensures.gone c.clear.ensures.others)
    c.make_room.new.numbers.items c.make_room.ensures.same

pub returns-in_default-clause-numbered : goal.returns-in_default-clause-numbered
returns-in_default-clause-numbered c slots there are =
    let old = c.args.self.now in
    let numbers = c.make_room.new.numbers.items in
    let were = as_they_were slots old.names c.clear.new.numbers.items
    (cleared slots old.names old.numbers.items are c.clear.new.numbers.items c.args.slot c.clear.ensures.gone c.clear.ensures.others)
    numbers c.make_room.ensures.same in
    kept_others slots c.of.new.names numbers (kept slots old.names numbers were c.of.new.names c.of.ensures.kept) c.leave.new.names
    c.args.slot (c.make_room.ensures.same c.args.slot ∙ c.clear.ensures.gone) c.leave.ensures.kept

pub returns-clause-numbered : goal.returns-clause-numbered
returns-clause-numbered c slots there are =
    let old = c.args.self.now in
    let numbers = c.make_room.new.numbers.items in
    let were = as_they_were slots old.names c.clear.new.numbers.items
    (cleared slots old.names old.numbers.items are c.clear.new.numbers.items c.args.slot c.clear.ensures.gone c.clear.ensures.others)
    numbers c.make_room.ensures.same in
    entered slots c.of.new.names numbers (kept slots old.names numbers were c.of.new.names c.of.ensures.kept)
    c.args.slot c.args.page.now c.in-Ok.numbers c.in_ok-make_room.ensures.room there c.in-Ok.ensures.numbered

pub returns-in_err-make_room-clause-named : goal.returns-in_err-make_room-clause-named
returns-in_err-make_room-clause-named c has =
    same_named c.clear.new.numbers.items c.make_room.new.numbers.items c.forget_anchors.new.named.slots.items c.make_room.ensures.same
    (forgotten c.args.self.now.numbers.items c.deref.result.now c.clear.new.numbers.items c.args.self.now.named.slots.items
    c.forget_anchors.new.named.slots.items c.args.slot c.deref.ensures.value c.forget_anchors.ensures.named c.forget_anchors.ensures.gone
    c.clear.ensures.others has)

pub returns-in_default-clause-named : goal.returns-in_default-clause-named
returns-in_default-clause-named c has =
    same_named c.clear.new.numbers.items c.make_room.new.numbers.items c.forget_anchors.new.named.slots.items c.make_room.ensures.same
    (forgotten c.args.self.now.numbers.items c.deref.result.now c.clear.new.numbers.items c.args.self.now.named.slots.items
    c.forget_anchors.new.named.slots.items c.args.slot c.deref.ensures.value c.forget_anchors.ensures.named c.forget_anchors.ensures.gone
    c.clear.ensures.others has)

pub returns-clause-named : goal.returns-clause-named
returns-clause-named c has =
    let numbers = c.make_room.new.numbers.items in
    let named = c.forget_anchors.new.named.slots.items in
    let were = same_named c.clear.new.numbers.items numbers named c.make_room.ensures.same
    (forgotten c.args.self.now.numbers.items c.deref.result.now c.clear.new.numbers.items c.args.self.now.named.slots.items
    c.forget_anchors.new.named.slots.items c.args.slot c.deref.ensures.value c.forget_anchors.ensures.named c.forget_anchors.ensures.gone
    c.clear.ensures.others has) in
    let page = Some c.in-Ok.numbers in
    c.enter.ensures (set numbers c.args.slot page) (set_here numbers c.args.slot page c.in_ok-make_room.ensures.room)
    (others_named numbers (set numbers c.args.slot page) named c.args.slot (set_others numbers c.args.slot page)
    (c.forget_anchors.ensures.gone (of_slice c.args.self.now.numbers.items c.deref.result.now c.args.self.now.named.slots.items
    c.deref.ensures.value has)) were)
