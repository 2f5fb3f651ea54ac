use Rattle.std.proofs.Common.{refl, ◌∙◌, arith, inl, inr}
use Rattle.std.specs.FinMap as map
use Rattle.doc_server_network.specs.Networks.{WasAsked}
use Rattle.doc_server_serving.proofs.Accepting.{goes_silently, quiet_none}
use Rattle.doc_server_serving.proofs.Asking.{asked_above, asked_open, awaits_join, none_less, shut}
use Rattle.doc_server_serving.proofs.Going.{goes_join}
use Rattle.doc_server_turns.proofs.Minding.{waits_join, waits_nobody}
use Rattle.doc_server_turns.proofs.Parting.{more_join, more_nobody}
use Rattle.doc_server_turns.proofs.Sites.{same_join, same_site}
use Rattle.doc_server_serving.proofs.door.Door.accept.Goals as goal

pub accepts-init : goal.accepts-init
accepts-init g c = record {
  goes = goes_silently g.R.Renderer.page g.N.Network.came g.N.Network.gone g.N.Network.wakes g.N.Network.is_free c.args.saved.now.hub
      c.args.saved.now.hub c.args.net.now c.args.peers.now refl
      (quiet_none (g.R.Renderer.page c.args.saved.now.hub.0) c.args.saved.now.hub.1 c.args.saved.now.hub.1 refl);
  no_more = more_nobody c.args.peers.now;
  waits = waits_nobody c.args.peers.now;
  bound = λ le. le;
  most = refl;
  asked = inl refl;
  awaits = inl refl;
  rests = λ is. is;
  calls = λ k f. f;
  site = same_site c.args.saved.now.hub.1;
  saved = λ config begin is. is;
  ready = λ is. is;
  journal = refl;
  unsaved = refl;
}

pub accepts-preserved : goal.accepts-preserved
accepts-preserved g c = record {
  goes = goes_join g.R.Renderer.page g.N.Network.came g.N.Network.gone g.N.Network.wakes g.N.Network.is_free c.args.saved.now.hub
      c.accepts.saved.hub c.accept_one.new.saved.hub c.args.net.now c.accepts.net c.accept_one.new.net c.args.peers.now c.accepts.peers
      c.accept_one.new.peers c.accepts.invariant.goes c.accept_one.ensures.goes;
  no_more = more_join c.args.peers.now c.accepts.peers c.accept_one.new.peers c.accepts.invariant.no_more c.accept_one.ensures.no_more;
  waits = waits_join c.args.peers.now c.accepts.peers c.accept_one.new.peers c.accepts.invariant.waits c.accept_one.ensures.waits;
  bound = λ le.
      omega (arith, c.accept_one.ensures.more, c.is_open.ensures.room c.if-not-is_open.false, c.accepts.invariant.most);
  most = c.accept_one.ensures.most ∙ c.accepts.invariant.most;
  asked = inr (asked_above c.args.saved.now.hub.1.given c.accepts.saved.hub.1.given c.accept_one.new.self.rests
      (g.N.Network.made c.accept_one.new.net)
      (none_less g.R.Renderer.page g.N.Network.came g.N.Network.gone g.N.Network.wakes g.N.Network.is_free c.args.saved.now.hub
      c.accepts.saved.hub c.args.net.now c.accepts.net c.args.peers.now c.accepts.peers c.accepts.invariant.goes)
      c.accept_one.ensures.asked);
  awaits = awaits_join c.args.saved.now.hub.1.given c.accepts.saved.hub.1.given (g.N.Network.made c.accepts.net)
      (g.N.Network.made c.accept_one.new.net)
      (none_less g.R.Renderer.page g.N.Network.came g.N.Network.gone g.N.Network.wakes g.N.Network.is_free c.args.saved.now.hub
      c.accepts.saved.hub c.args.net.now c.accepts.net c.args.peers.now c.accepts.peers c.accepts.invariant.goes)
      c.accept_one.ensures.calls c.accepts.invariant.awaits c.accept_one.ensures.awaits;
  rests = λ is. c.accept_one.ensures.rests (c.accepts.invariant.rests is);
  calls = λ k f. c.accept_one.ensures.calls k (c.accepts.invariant.calls k f);
  site = same_join c.args.saved.now.hub.1 c.accepts.saved.hub.1 c.accept_one.new.saved.hub.1 c.accepts.invariant.site
      c.accept_one.ensures.site;
  saved = λ config begin is. c.accept_one.ensures.saved config begin (c.accepts.invariant.saved config begin is);
  ready = λ is. c.accept_one.ensures.ready (c.accepts.invariant.ready is);
  journal = c.accept_one.ensures.journal ∙ c.accepts.invariant.journal;
  unsaved = c.accept_one.ensures.unsaved ∙ c.accepts.invariant.unsaved;
}

pub returns-then-not-is_open-clause-asked : goal.returns-then-not-is_open-clause-asked
returns-then-not-is_open-clause-asked g c =
    λ still. absurd (shut c.accepts.self (map.len c.accepts.peers) c.is_open.result c.is_open.ensures.open c.if-not-is_open.true still)

pub returns-clause-asked : goal.returns-clause-asked
returns-clause-asked g c =
    asked_open c.accepts.self (map.len c.accepts.peers) (WasAsked c.args.saved.now.hub.1.given (g.N.Network.made c.accepts.net))
    c.accepts.counter (omega (arith, c.accepts-test.false)) c.accepts.invariant.asked
