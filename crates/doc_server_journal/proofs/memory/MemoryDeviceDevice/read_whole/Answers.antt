use Rattle.std.proofs.Common.{refl}
use Rattle.doc_server_journal.proofs.MemoryLemmas.{same_time}
use Rattle.doc_server_journal.proofs.memory.MemoryDeviceDevice.read_whole.Goals as goal

pub returns-then-not-goes_well-clause-time : goal.returns-then-not-goes_well-clause-time
returns-then-not-goes_well-clause-time c =
    same_time c.args.self.now.first c.args.self.now.file.changes.items c.args.self.now.file.changes.items refl

pub returns-then-len-most-clause-time : goal.returns-then-len-most-clause-time
returns-then-len-most-clause-time c =
    same_time c.args.self.now.first c.args.self.now.file.changes.items c.args.self.now.file.changes.items refl

pub returns-in_err-copy_of-clause-time : goal.returns-in_err-copy_of-clause-time
returns-in_err-copy_of-clause-time c =
    same_time c.args.self.now.first c.args.self.now.file.changes.items c.args.self.now.file.changes.items refl

pub returns-clause-time : goal.returns-clause-time
returns-clause-time c =
    same_time c.args.self.now.first c.args.self.now.file.changes.items c.args.self.now.file.changes.items refl
