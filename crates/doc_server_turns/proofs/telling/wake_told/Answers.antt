use Rattle.std.proofs.Common.{refl, ◌∙◌}
use Rattle.doc_server_turns.proofs.Minding.{rouses_join, rouses_nobody}
use Rattle.doc_server_turns.proofs.Tables.{gives_nothing, gives_join}
use Rattle.doc_server_turns.proofs.NewsSteps.{nothing_new}
use Rattle.doc_server_turns.proofs.telling.wake_told.Goals as goal

pub told-init : goal.told-init
told-init g c = record {
  gives = gives_nothing (g.N.Network.gone c.args.net.now) (g.N.Network.gone c.args.net.now) (g.N.Network.has_ended c.args.net.now)
      c.args.peers.now (λ k. refl);
  news = nothing_new (g.N.Network.made c.args.net.now);
  rouses = rouses_nobody c.args.peers.now;
  came = λ k. refl;
  gone = λ k. refl;
  woken = λ w. w;
  ended = λ k e. e;
  free = λ k f. f;
  calls = λ k f. f;
}

pub returns-then-not-wake_one-clause-gives : goal.returns-then-not-wake_one-clause-gives
returns-then-not-wake_one-clause-gives g c =
    gives_join (g.N.Network.gone c.args.net.now) (g.N.Network.gone c.told.net) (g.N.Network.gone c.wake_one.new.net)
    (g.N.Network.has_ended c.told.net) (g.N.Network.has_ended c.wake_one.new.net)
    c.args.peers.now c.told.peers c.wake_one.new.peers c.wake_one.ensures.ended c.told.invariant.gives c.wake_one.ensures.gives

pub told-preserved : goal.told-preserved
told-preserved g c = record {
  gives = gives_join (g.N.Network.gone c.args.net.now) (g.N.Network.gone c.told.net) (g.N.Network.gone c.wake_one.new.net)
      (g.N.Network.has_ended c.told.net) (g.N.Network.has_ended c.wake_one.new.net)
      c.args.peers.now c.told.peers c.wake_one.new.peers c.wake_one.ensures.ended c.told.invariant.gives c.wake_one.ensures.gives;
  news = c.wake_one.ensures.news c.told.invariant.news;
  rouses = rouses_join c.args.peers.now c.told.peers c.wake_one.new.peers c.told.invariant.rouses c.wake_one.ensures.rouses;
  came = λ k. c.wake_one.ensures.came k ∙ c.told.invariant.came k;
  gone = λ k. c.wake_one.ensures.gone k ∙ c.told.invariant.gone k;
  woken = λ w. c.wake_one.ensures.woken (c.told.invariant.woken w);
  ended = λ k e. c.wake_one.ensures.ended k (c.told.invariant.ended k e);
  free = λ k f. c.wake_one.ensures.free k (c.told.invariant.free k f);
  calls = λ k f. c.wake_one.ensures.calls k (c.told.invariant.calls k f);
}

pub returns-then-not-wake_one-clause-rouses : goal.returns-then-not-wake_one-clause-rouses
returns-then-not-wake_one-clause-rouses g c =
    rouses_join c.args.peers.now c.told.peers c.wake_one.new.peers c.told.invariant.rouses c.wake_one.ensures.rouses
