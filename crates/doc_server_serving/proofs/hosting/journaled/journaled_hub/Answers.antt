use Rattle.std.proofs.Common.{ap, subst, sym, ◌∙◌}
use Rattle.std.specs.Prelude.{IfSome, is_some}
use Rattle.doc_hub.specs.Worlds.{IsApart, store_of}
use Rattle.doc_server_journal_records.specs.Readings.{ReadsAs}
use Rattle.doc_server_network.specs.KeptTurns.{IsOfCalls}
use Rattle.doc_server_serving.proofs.Joining.{quietly_taking}
use Rattle.doc_server_serving.proofs.Ready.{restored_too}
use Rattle.doc_server_serving.proofs.hosting.journaled.journaled_hub.Goals as goal

pub returns-clause-ready : goal.returns-clause-ready
returns-clause-ready g c =
    let restored = c.in_ok-journal.ensures.restored in
    let texts = restored.0.texts in
    let taken = c.in_ok-make_room.ensures.taken in
    let begin = c.restored_journal.new.hub.1 in
    let opened = c.in_ok-make_room.ensures.kept texts restored.1 in
    record {
      begin = begin;
      begins = record {
        texts = texts;
        reads = subst (λ file. IfSome file (λ bytes. ReadsAs bytes texts)) c.in-Ok.ensures.file restored.0.reads;
        gives = restored.0.gives;
        others = restored.0.others;
      };
      quiet =
          quietly_taking (g.R.Renderer.page c.args.hub.0) begin c.over.result.hub.1 taken.0
          (ap (λ hub. hub.1) c.over.ensures.hub ∙ taken.1);
      all = c.over.ensures.all;
      ready = c.over.ensures.ready texts opened;
      keeps = ap is_some c.over.ensures.journal;
      settled = λ of_calls apart.
          c.over.ensures.settled (store_of c.args.hub.1) texts opened
          (restored_too (g.H.Device.Device.seen c.in-Ok.device) c.args.hub.1 begin c.make_room.new.hub.1 taken.0 restored.0 taken.1)
          (subst IsOfCalls (sym (ap (λ w. w.site) taken.1)) of_calls) (subst (λ w. IsApart w.site w.media) (sym taken.1) apart)
          c.in_ok-make_room.ensures.room;
    }
