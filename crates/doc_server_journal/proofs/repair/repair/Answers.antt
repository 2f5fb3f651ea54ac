use Rattle.std.proofs.Common.{◌+◌, ◌-◌, ◌++◌, length, take, drop, sym, ◌∙◌, arith}
use Rattle.doc_server_journal.specs.Devices.{Torn}
use Rattle.doc_server_journal.specs.Journals.{Holds}
use Rattle.doc_server_journal.proofs.RepairLemmas.{all_again, last_inside, on_ok, reads, size, written_holds, torn_reads, only_synced, place, filled, changed}
use Rattle.doc_server_journal.proofs.Places.{none_outside}
use Rattle.doc_server_journal.proofs.repair.repair.Goals as goal
use Rattle.doc_page_parts.proofs.Results.{is_err_on_ok}

pub returns-in_err-sync-clause-any_moment : goal.returns-in_err-sync-clause-any_moment
returns-in_err-sync-clause-any_moment g c = λ fresh.
    only_synced g.D.Device.seen g.D.Device.may_leave g.D.Device.moment g.D.Device.left_since c.args.device.now c.sync.new.device
    c.args.found.now.texts c.sync.ensures.any_moment

pub returns-in_err-sync-clause-file : goal.returns-in_err-sync-clause-file
returns-in_err-sync-clause-file g c = λ is. is_err_on_ok c.from_residual.result _ c.from_residual.ensures.0

pub returns-in_err-sync-clause-durable : goal.returns-in_err-sync-clause-durable
returns-in_err-sync-clause-durable g c = is_err_on_ok c.from_residual.result _ c.from_residual.ensures.0

pub returns-in_err-sync-clause-cause : goal.returns-in_err-sync-clause-cause
returns-in_err-sync-clause-cause g c = c.in_err-sync.ensures.cause ∙ sym c.from_residual.ensures.0

pub write_and_sync-requires-clause-place : goal.write_and_sync-requires-clause-place
write_and_sync-requires-clause-place g c =
    place g.D.Device.seen g.D.Device.may_leave g.D.Device.moment g.D.Device.left_since c.args.device.now c.sync.new.device c.sync.new.device
    c.args.bytes.now c.args.found.now.texts (reads c.args.bytes.now c.args.found.now c.requires.found) c.requires.known c.sync.ensures.seen
    (c.args.found.now.end - c.args.found.now.last) (omega (arith, size c.args.bytes.now c.args.found.now c.requires.found))

pub returns-clause-file : goal.returns-clause-file
returns-clause-file g c = λ is.
    let from = c.args.found.now.end - c.args.found.now.last in
    let again = c.args.again.now in
    on_ok c.write_and_sync.result c.write_and_sync.ensures.written (λ writes.
    filled g.D.Device.seen g.D.Device.may_leave g.D.Device.moment g.D.Device.left_since c.args.device.now c.sync.new.device
    c.write_and_sync.new.device
    c.args.bytes.now c.args.found.now.texts (reads c.args.bytes.now c.args.found.now c.requires.found) c.requires.known c.sync.ensures.seen
    (λ file. Holds is.identity is.entries file)
    (λ l. take from l ++ again ++ drop (from + length again) l) writes
    (written_holds c.args.bytes.now c.args.found.now is c.args.room again c.requires.again))

pub returns-clause-any_moment : goal.returns-clause-any_moment
returns-clause-any_moment g c = λ fresh.
    changed g.D.Device.seen g.D.Device.may_leave g.D.Device.moment g.D.Device.left_since c.args.device.now c.sync.new.device
    c.write_and_sync.new.device
    c.args.bytes.now c.args.found.now.texts (reads c.args.bytes.now c.args.found.now c.requires.found) c.requires.known c.sync.ensures.seen
    c.sync.ensures.any_moment
    (c.in_ok-sync.ensures.durable fresh)
    (Torn (c.args.found.now.end - c.args.found.now.last) c.args.again.now) c.write_and_sync.ensures.any_moment
    (torn_reads c.args.bytes.now c.args.found.now c.requires.found c.args.room c.args.again.now c.requires.again)

pub returns-clause-durable : goal.returns-clause-durable
returns-clause-durable g c =
    on_ok c.write_and_sync.result c.write_and_sync.ensures.durable (λ durable behind. durable (λ i was outside.
    none_outside (g.D.Device.seen c.args.device.now) c.args.bytes.now (c.args.found.now.end - c.args.found.now.last)
    (length c.args.again.now) i c.requires.known
    (all_again c.args.bytes.now c.args.found.now c.requires.found c.args.room c.args.again.now c.requires.again c.requires.room)
    (behind i (c.in_ok-sync.ensures.stale i was))
    (g.met.D.Device.stale_within c.args.device.now i (c.in_ok-sync.ensures.stale i was)) outside))

pub returns-clause-fresh : goal.returns-clause-fresh
returns-clause-fresh g c =
    on_ok c.write_and_sync.result c.write_and_sync.ensures.stale (λ stale behind i here.
    none_outside (g.D.Device.seen c.args.device.now) c.args.bytes.now (c.args.found.now.end - c.args.found.now.last)
    (length c.args.again.now) i c.requires.known
    (all_again c.args.bytes.now c.args.found.now c.requires.found c.args.room c.args.again.now c.requires.again c.requires.room)
    (behind i (c.in_ok-sync.ensures.stale i (stale i here).0))
    (g.met.D.Device.stale_within c.args.device.now i (c.in_ok-sync.ensures.stale i (stale i here).0)) (stale i here).1)

pub returns-clause-cause : goal.returns-clause-cause
returns-clause-cause g c = c.write_and_sync.ensures.cause

pub overflow_sub-found : goal.overflow_sub-found
overflow_sub-found g c = last_inside c.args.bytes.now c.args.found.now c.requires.found
