use Rattle.std.proofs.Common.{inl}
use Rattle.doc_server_journal.specs.declared.memory.Change.TheVariants.{Sync, Lost}
use Rattle.doc_server_journal.proofs.MemoryLemmas.{durable, lost_leaves, more_time, noted_time, same_time, settled, stale_lost, stale_synced}
use Rattle.doc_server_journal.proofs.memory.MemoryDeviceDevice.sync.Goals as goal

pub returns-then-not-goes_well-clause-time : goal.returns-then-not-goes_well-clause-time
returns-then-not-goes_well-clause-time c =
    noted_time c.args.self.now.first c.args.self.now.file.changes.items (Lost c.args.self.now.file.bytes.items)
    c.lose.new.self.changes.items c.lose.ensures.noted

pub returns-then-not-goes_well-clause-crash : goal.returns-then-not-goes_well-clause-crash
returns-then-not-goes_well-clause-crash c =
    lost_leaves c.args.self.now.first c.args.self.now.file.changes.items c.args.self.now.file.bytes.items c.lose.new.self.changes.items
    c.lose.ensures.noted

pub returns-then-not-goes_well-clause-lost : goal.returns-then-not-goes_well-clause-lost
returns-then-not-goes_well-clause-lost c =
    stale_lost c.args.self.now.first c.args.self.now.file.changes.items c.args.self.now.file.bytes.items c.lose.new.self.bytes.items
    c.lose.new.self.changes.items c.lose.ensures.noted c.lose.ensures.bytes

pub returns-in-Ok-clause-durable : goal.returns-in-Ok-clause-durable
returns-in-Ok-clause-durable c =
    durable c.args.self.now.first c.args.self.now.file.changes.items c.args.self.now.file.bytes.items c.sync.new.self.changes.items
    c.in-Ok.ensures.ok

pub returns-in-Ok-clause-crash : goal.returns-in-Ok-clause-crash
returns-in-Ok-clause-crash c = λ x left.
    (settled c.args.self.now.first c.args.self.now.file.changes.items c.args.self.now.file.bytes.items c.sync.new.self.changes.items
    c.in-Ok.ensures.ok x left).0

pub returns-in-Ok-clause-stale : goal.returns-in-Ok-clause-stale
returns-in-Ok-clause-stale c =
    stale_synced c.args.self.now.first c.args.self.now.file.changes.items c.args.self.now.file.bytes.items c.sync.new.self.bytes.items
    c.sync.new.self.changes.items c.in-Ok.ensures.ok c.sync.ensures.bytes

pub returns-in-Ok-clause-lost : goal.returns-in-Ok-clause-lost
returns-in-Ok-clause-lost c = λ i here. inl
    (stale_synced c.args.self.now.first c.args.self.now.file.changes.items c.args.self.now.file.bytes.items c.sync.new.self.bytes.items
    c.sync.new.self.changes.items c.in-Ok.ensures.ok c.sync.ensures.bytes i here)

pub returns-in-Ok-clause-time : goal.returns-in-Ok-clause-time
returns-in-Ok-clause-time c =
    more_time c.args.self.now.first c.args.self.now.file.changes.items (Sync c.args.self.now.file.bytes.items)
    c.sync.new.self.changes.items c.in-Ok.ensures.ok

pub returns-in-Err-clause-time : goal.returns-in-Err-clause-time
returns-in-Err-clause-time c =
    same_time c.args.self.now.first c.args.self.now.file.changes.items c.sync.new.self.changes.items c.in-Err.ensures.err
