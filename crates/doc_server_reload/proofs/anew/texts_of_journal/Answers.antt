use Rattle.doc_server_reload.specs.Texts.{of_reading}
use Rattle.doc_server_reload.proofs.TextsLaw.{as_loaded, digests_are, digests_differ, its_fault, known_digest, known_end, known_is_read, known_texts, none_known, open_with_these}
use Rattle.doc_server_reload.proofs.anew.texts_of_journal.Goals as goal

pub returns-in_err-found-clause-other : goal.returns-in_err-found-clause-other
returns-in_err-found-clause-other g c = λ is.
    let read = as_loaded (g.D.Device.seen c.args.journal.now.device) _ c.get.result.now c.get.ensures c.in_ok-loaded.ensures.bytes in
    known_is_read g.D.Device.seen g.D.Device.may_leave g.D.Device.failed g.D.Device.stale c.args.journal.now c.requires.open.0
    c.requires.open.1 c.get.result.now read c.in_err-found.field-0.0 c.in_err-found.ensures.refused
    (its_fault c.from_residual-in_err-found.result (of_reading c.in_err-found.field-0.0) c.from_residual-in_err-found.ensures.1 is)

pub returns-then-found-journal-clause-other : goal.returns-then-found-journal-clause-other
returns-then-found-journal-clause-other g c = λ _.
    let read = as_loaded (g.D.Device.seen c.args.journal.now.device) _ c.get.result.now c.get.ensures c.in_ok-loaded.ensures.bytes in
    none_known (g.D.Device.seen c.args.journal.now.device) (λ file there.
    c.if-found-journal.true
    (known_end g.D.Device.seen g.D.Device.may_leave g.D.Device.failed g.D.Device.stale c.args.journal.now c.requires.open.0
    c.requires.open.1 c.get.result.now read c.in_ok-found.found c.in_ok-found.ensures.found file there))

pub returns-then-ne-clause-other : goal.returns-then-ne-clause-other
returns-then-ne-clause-other g c = λ _.
    let read = as_loaded (g.D.Device.seen c.args.journal.now.device) _ c.get.result.now c.get.ensures c.in_ok-loaded.ensures.bytes in
    none_known (g.D.Device.seen c.args.journal.now.device) (λ file there.
    digests_differ c.in_ok-found.found.digest c.args.journal.now.digest c.if-ne.ensures
    (known_digest g.D.Device.seen g.D.Device.may_leave g.D.Device.failed g.D.Device.stale c.args.journal.now c.requires.open.0
    c.requires.open.1 c.get.result.now read c.in_ok-found.found c.in_ok-found.ensures.found file there))

pub returns-clause-read : goal.returns-clause-read
returns-clause-read g c =
    let read = as_loaded (g.D.Device.seen c.args.journal.now.device) _ c.get.result.now c.get.ensures c.in_ok-loaded.ensures.bytes in
    open_with_these g.D.Device.seen g.D.Device.may_leave g.D.Device.failed g.D.Device.stale c.args.journal.now c.load.new.device
    c.load.ensures.seen c.load.ensures.crash c.load.ensures.stale c.in_ok-loaded.ensures.cause c.get.result.now read c.in_ok-found.found
    c.in_ok-found.ensures.found c.if-found-journal.false
    (digests_are c.in_ok-found.found.digest c.args.journal.now.digest c.if-ne.ensures) c.requires.open.0 c.requires.open.1

pub returns-clause-known : goal.returns-clause-known
returns-clause-known g c = λ others is.
    let read = as_loaded (g.D.Device.seen c.args.journal.now.device) _ c.get.result.now c.get.ensures c.in_ok-loaded.ensures.bytes in
    known_texts g.D.Device.seen g.D.Device.may_leave g.D.Device.failed g.D.Device.stale c.args.journal.now others is c.get.result.now read
    c.in_ok-found.found c.in_ok-found.ensures.found
