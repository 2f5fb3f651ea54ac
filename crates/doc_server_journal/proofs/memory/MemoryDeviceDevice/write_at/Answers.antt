use Rattle.std.proofs.Common.{subst}
use Rattle.doc_server_journal.specs.Devices.{IsOutside}
use Rattle.doc_server_journal.specs.declared.memory.Change.TheVariants.{Write}
use Rattle.doc_server_journal.proofs.MemoryLemmas.{torn_follows, stale_written, fresh_written, noted_time, not_well, both_ways, when_well, whole}
use Rattle.doc_server_journal.proofs.memory.MemoryDeviceDevice.write_at.Goals as goal
use Rattle.doc_server_journal.proofs.memory.MemoryDeviceDevice.write_at.Goals.{then-not-well, else-not-well, then-well, else-well}

pub returns-then-self-clause-crash : goal.returns-then-self-clause-crash
returns-then-self-clause-crash c =
    torn_follows c.args.self.now.first c.args.self.now.file.changes.items c.args.at c.args.bytes.now _ c.write-kept.new.self.changes.items
    c.write-kept.ensures.noted

pub returns-then-self-clause-stale : goal.returns-then-self-clause-stale
returns-then-self-clause-stale c =
    stale_written c.args.self.now.first c.args.self.now.file.changes.items c.write-kept.result c.args.at c.args.bytes.now _
    c.args.self.now.file.bytes.items c.write-kept.new.self.bytes.items c.write-kept.new.self.changes.items c.requires.place
    c.write-kept.ensures.noted c.write-kept.ensures.ok c.write-kept.ensures.bytes c.write-kept.ensures.err

pub returns-then-self-clause-time : goal.returns-then-self-clause-time
returns-then-self-clause-time c =
    noted_time c.args.self.now.first c.args.self.now.file.changes.items (Write c.args.at c.args.bytes.now _)
    c.write-kept.new.self.changes.items
    c.write-kept.ensures.noted

pub returns-clause-crash : goal.returns-clause-crash
returns-clause-crash c =
    torn_follows c.args.self.now.first c.args.self.now.file.changes.items c.args.at c.args.bytes.now _ c.write-kept.new.self.changes.items
    c.write-kept.ensures.noted

pub returns-clause-stale : goal.returns-clause-stale
returns-clause-stale c =
    stale_written c.args.self.now.first c.args.self.now.file.changes.items c.write-kept.result c.args.at c.args.bytes.now _
    c.args.self.now.file.bytes.items c.write-kept.new.self.bytes.items c.write-kept.new.self.changes.items c.requires.place
    c.write-kept.ensures.noted c.write-kept.ensures.ok c.write-kept.ensures.bytes c.write-kept.ensures.err

pub returns-clause-time : goal.returns-clause-time
returns-clause-time c =
    noted_time c.args.self.now.first c.args.self.now.file.changes.items (Write c.args.at c.args.bytes.now _)
    c.write-kept.new.self.changes.items
    c.write-kept.ensures.noted

pub returns-clause-fresh : goal.returns-clause-fresh
returns-clause-fresh c = elim c.if-not-well.branch [
  | then-not-well w ↦ not_well c.if-not-well.self c.goes_well-well.result w.self-is w.if-not-well.true c.if-self.false
  | else-not-well w ↦ elim c.if-well.branch [
    | then-well v ↦ λ i here.
        subst (λ n. IsOutside c.args.at n i) (whole c.if-well.written c.args.bytes.now v.written-is)
        (fresh_written c.args.self.now.first c.args.self.now.file.changes.items c.args.at c.args.bytes.now _
        c.write-kept.new.self.changes.items
        (when_well c.write-kept.result c.if-not-well.self w.is_err-self.result w.is_err-self.ensures.value w.self-is c.if-self.false
        c.write-kept.ensures.ok) i here.0)
    | else-well v ↦ both_ways c.goes_well-well.result v.if-well.false w.if-not-well.false
  ]
]
