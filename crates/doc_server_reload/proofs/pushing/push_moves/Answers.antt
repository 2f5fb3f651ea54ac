use Rattle.std.proofs.Common.{arith, ap, refl}
use Rattle.std.proofs.lemmas.List.{drop_all}
use Rattle.doc_store_readers.specs.Groups.{texts_of}
use Rattle.doc_server_script.specs.Compactions.{moves}
use Rattle.doc_server_reload.proofs.PushSteps.{goes_on, has_all, next_move}
use Rattle.doc_server_reload.proofs.pushing.push_moves.Goals as goal

pub names-init : goal.names-init
names-init c = record { added = refl }

pub names-preserved : goal.names-preserved
names-preserved c = record {
  added = goes_on c.args.edits.now.items c.names.edits.items c.push_move.new.edits.items _ _ _ _ c.names.invariant.added
      c.in_ok-push_move.ensures
      (next_move c.names.last.now c.args.names.now c.names.name-index c.name-item.result (omega (arith, c.names-test.true)) c.name-item.is);
}

pub returns : goal.returns
returns c =
    has_all c.args.edits.now.items c.names.edits.items _ _ c.names.invariant.added
    (ap (λ left. moves c.names.last.now (texts_of left)) (drop_all c.names.name-index c.args.names.now c.names-test.false))
