use Rattle.std.proofs.Common.{rules}
use Rattle.doc_links_seen.proofs.NamedSteps.{as_they_were}
use Rattle.doc_links_seen.proofs.WholeSteps.{named}
use Rattle.doc_links_seen.proofs.named.Named.set.Goals as goal

pub returns-then-number-len : goal.returns-then-number-len
returns-then-number-len c numbers slot own at next has are =
    named numbers c.make_room.new.self.slots.items slot c.args.number c.args.stand own at next has (search rules)
    (as_they_were numbers c.args.self.now.slots.items c.make_room.new.self.slots.items c.make_room.ensures are)

pub returns-else-number-len : goal.returns-else-number-len
returns-else-number-len c numbers slot own at next has are =
    as_they_were numbers c.args.self.now.slots.items c.make_room.new.self.slots.items c.make_room.ensures are
