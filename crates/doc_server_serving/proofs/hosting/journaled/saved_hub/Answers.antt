use Rattle.std.proofs.Common.{ap, refl, subst, sym}
use Rattle.std.specs.Prelude.{is_some, option_copied}
use Rattle.doc_hub.specs.Worlds.{store_of}
use Rattle.doc_server_turns.specs.QuietRuns.{LeadsQuietly}
use Rattle.doc_server_serving.specs.Hostings.{IsMadeReady}
use Rattle.doc_server_serving.proofs.Joining.{quietly_nowhere}
use Rattle.doc_server_serving.proofs.hosting.journaled.saved_hub.Goals as goal

pub returns-in-None-clause-ready : goal.returns-in-None-clause-ready
returns-in-None-clause-ready g c =
    let w = c.args.hub.1 in
    let render = g.R.Renderer.page c.args.hub.0 in
    let settled = c.new.ensures.settled (store_of w) in
    subst (λ journal. IsMadeReady g.H.Device.Device.seen g.H.Device.Device.may_leave g.H.Device.Device.failed g.H.Device.Device.stale
    render (g.H.Host.file c.args.host.now) (option_copied journal) w c.new.result) (sym c.in-None.is)
    (record {
      begin = w;
      begins = refl;
      quiet = subst (λ hub. LeadsQuietly render w hub.1) (sym c.new.ensures.hub) (quietly_nowhere render w);
      all = settled.1;
      ready = c.new.ensures.ready;
      keeps = ap is_some c.new.ensures.none;
      settled = λ of_calls apart. settled;
    })
