use Rattle.std.proofs.Common.{length, arith}
use Rattle.doc_server_journal.specs.declared.memory.Change.TheVariants.{Grow}
use Rattle.doc_server_journal.proofs.MemoryLemmas.{grown_follows, stale_grown, noted_time}
use Rattle.doc_server_journal.proofs.memory.MemoryDeviceDevice.grow.Goals as goal

pub returns-then-self-clause-crash : goal.returns-then-self-clause-crash
returns-then-self-clause-crash c =
    grown_follows c.args.self.now.first c.args.self.now.file.changes.items (length c.args.self.now.file.bytes.items) c.args.count
    c.min-more.result
    (omega (arith, c.min-more.ensures))
    c.grow-kept.new.self.changes.items c.grow-kept.ensures.noted

pub returns-then-self-clause-time : goal.returns-then-self-clause-time
returns-then-self-clause-time c =
    noted_time c.args.self.now.first c.args.self.now.file.changes.items
    (Grow (length c.args.self.now.file.bytes.items) c.min-more.result) c.grow-kept.new.self.changes.items
    c.grow-kept.ensures.noted

pub returns-clause-crash : goal.returns-clause-crash
returns-clause-crash c =
    grown_follows c.args.self.now.first c.args.self.now.file.changes.items (length c.args.self.now.file.bytes.items) c.args.count
    c.min-more.result
    (omega (arith, c.min-more.ensures))
    c.grow-kept.new.self.changes.items c.grow-kept.ensures.noted

pub returns-clause-time : goal.returns-clause-time
returns-clause-time c =
    noted_time c.args.self.now.first c.args.self.now.file.changes.items
    (Grow (length c.args.self.now.file.bytes.items) c.min-more.result) c.grow-kept.new.self.changes.items
    c.grow-kept.ensures.noted

pub returns-then-self-clause-stale : goal.returns-then-self-clause-stale
returns-then-self-clause-stale c =
    stale_grown c.args.self.now.first c.args.self.now.file.changes.items c.grow-kept.result c.min-more.result
    c.args.self.now.file.bytes.items
    c.grow-kept.new.self.bytes.items c.grow-kept.new.self.changes.items c.grow-kept.ensures.noted c.grow-kept.ensures.ok
    c.grow-kept.ensures.err

pub returns-clause-stale : goal.returns-clause-stale
returns-clause-stale c =
    stale_grown c.args.self.now.first c.args.self.now.file.changes.items c.grow-kept.result c.min-more.result
    c.args.self.now.file.bytes.items
    c.grow-kept.new.self.bytes.items c.grow-kept.new.self.changes.items c.grow-kept.ensures.noted c.grow-kept.ensures.ok
    c.grow-kept.ensures.err
