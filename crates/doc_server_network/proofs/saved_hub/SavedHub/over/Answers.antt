use Rattle.std.proofs.Common.{sym, ap, subst}
use Rattle.doc_server_listen.specs.Edits.{Kept}
use Rattle.doc_server_network.proofs.Settling.{begun}
use Rattle.doc_server_network.specs.Saved.{IsSavedIn}
use Rattle.doc_server_network.proofs.saved_hub.SavedHub.over.Goals as goal

pub returns-clause-settled : goal.returns-clause-settled
returns-clause-settled g c =
    λ config texts is_open gives of_calls apart room. (
      subst
          (λ k. IsSavedIn g.D.Device.seen g.D.Device.may_leave g.D.Device.failed g.D.Device.stale config c.args.hub.1 c.args.journal k
          c.args.hub.1)
          (sym c.lines_for-unsaved.ensures)
          (begun g.D.Device.seen g.D.Device.may_leave g.D.Device.failed g.D.Device.stale config c.args.journal texts c.args.hub.1
          is_open gives of_calls apart room),
      (ap (λ (k : Kept). k.lines) c.lines_for-unsaved.ensures, ap (λ (k : Kept). k.is_whole) c.lines_for-unsaved.ensures),
    )
