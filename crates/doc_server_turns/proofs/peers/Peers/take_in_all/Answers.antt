use Rattle.std.proofs.Common.{ℕ, List, [], refl, ap, arith, sym, subst, take, ◌∙◌}
use Rattle.std.proofs.Math.Seq.{take-length}
use Rattle.std.proofs.lemmas.List.{take_more}
use Rattle.doc_server_turns.specs.Parts.{StayBut}
use Rattle.doc_server_turns.proofs.Hearing.{all_hear_nothing}
use Rattle.doc_server_turns.proofs.Parting.{stay_more, stay_nobody}
use Rattle.doc_server_turns.proofs.TableServing.{AllSharing, all_sharing_join, serves_nobody, shares_none}
use Rattle.doc_server_turns.specs.Scopes.{is_earlier}
use Rattle.doc_server_network.proofs.Leading.{same_is_unedited, unedited_behind}
use Rattle.doc_server_turns.proofs.peers.Peers.take_in_all.Goals as goal

pub numbers-init : goal.numbers-init
numbers-init g c = record {
  serves = (
    serves_nobody (g.R.Renderer.page c.args.saved.now.hub.0) c.args.saved.now.hub.1 [] (g.N.Network.came c.args.net.now)
        (g.N.Network.came c.args.net.now) (g.N.Network.has_ended c.args.net.now) c.args.self.now (λ k. refl),
    shares_none c.args.share.now c.args.share.now refl [],
    all_hear_nothing c.args.self.now,
    λ is. refl,
  );
  gone = λ k. refl;
  others = stay_nobody [] c.args.self.now;
  woken = λ w. w;
  ended = λ k e. e;
  free = λ k f. f;
  calls = λ k f. f;
  same = refl;
  saved = λ config begin is. is;
  ready = λ is. is;
  journal = refl;
  unedited = λ is. same_is_unedited c.args.saved.now c.args.saved.now refl;
  room = refl;
}

pub numbers-preserved : goal.numbers-preserved
numbers-preserved g c = record {
  serves = subst (λ (ready : List ℕ). AllSharing (g.R.Renderer.page c.args.saved.now.hub.0) c.args.saved.now.hub.1
      c.take_in_at.new.saved.hub.1 ready (g.N.Network.came c.args.net.now) (g.N.Network.came c.take_in_at.new.net)
      (g.N.Network.has_ended c.take_in_at.new.net) c.args.self.now c.take_in_at.new.self c.args.share.now c.take_in_at.new.share
      (is_earlier c.args.scope))
      (sym (take_more c.args.ready.now c.numbers.id-index 0 c.numbers-test.true))
      (all_sharing_join (g.R.Renderer.page c.args.saved.now.hub.0) (g.R.Renderer.page c.numbers.saved.hub.0) c.args.saved.now.hub.1
      c.numbers.saved.hub.1 c.take_in_at.new.saved.hub.1 (take c.numbers.id-index c.args.ready.now) _
      (g.N.Network.came c.args.net.now) (g.N.Network.came c.numbers.net) (g.N.Network.came c.take_in_at.new.net)
      (g.N.Network.has_ended c.numbers.net) (g.N.Network.has_ended c.take_in_at.new.net) c.args.self.now c.numbers.self
      c.take_in_at.new.self c.args.share.now c.numbers.share c.take_in_at.new.share (is_earlier c.args.scope) c.numbers.invariant.same
      c.take_in_at.ensures.ended c.numbers.invariant.serves c.take_in_at.ensures.serves);
  gone = λ k. c.take_in_at.ensures.gone k ∙ c.numbers.invariant.gone k;
  others = subst (λ (xs : List ℕ). StayBut xs c.args.self.now c.take_in_at.new.self)
      (sym (take_more c.args.ready.now c.numbers.id-index 0 c.numbers-test.true))
      (stay_more (take c.numbers.id-index c.args.ready.now) _ c.args.self.now c.numbers.self c.take_in_at.new.self c.numbers.invariant.others
      c.take_in_at.ensures.others);
  woken = λ w. c.take_in_at.ensures.woken (c.numbers.invariant.woken w);
  ended = λ k e. c.take_in_at.ensures.ended k (c.numbers.invariant.ended k e);
  free = λ k f. c.take_in_at.ensures.free k (c.numbers.invariant.free k f);
  calls = λ k f. c.take_in_at.ensures.calls k (c.numbers.invariant.calls k f);
  same = c.take_in_at.ensures.same ∙ c.numbers.invariant.same;
  saved = λ config begin is. c.take_in_at.ensures.saved config begin (c.numbers.invariant.saved config begin is);
  ready = λ is. c.take_in_at.ensures.ready (c.numbers.invariant.ready is);
  journal = c.take_in_at.ensures.journal ∙ c.numbers.invariant.journal;
  unedited = λ is.
      unedited_behind c.args.saved.now c.numbers.saved c.take_in_at.new.saved (c.numbers.invariant.unedited is)
      (c.take_in_at.ensures.unedited is);
  room = c.take_in_at.ensures.room ∙ c.numbers.invariant.room;
}

pub returns-clause-serves : goal.returns-clause-serves
returns-clause-serves g c =
    subst (λ (ready : List ℕ). AllSharing (g.R.Renderer.page c.args.saved.now.hub.0) c.args.saved.now.hub.1 c.numbers.saved.hub.1 ready
    (g.N.Network.came c.args.net.now) (g.N.Network.came c.numbers.net) (g.N.Network.has_ended c.numbers.net) c.args.self.now
    c.numbers.self c.args.share.now c.numbers.share (is_earlier c.args.scope))
    (ap (λ n. take n c.args.ready.now) (omega (arith, c.numbers-test.false, c.numbers.auto.id-index-end)) ∙ take-length c.args.ready.now)
    c.numbers.invariant.serves

pub returns-clause-others : goal.returns-clause-others
returns-clause-others g c =
    subst (λ (xs : List ℕ). StayBut xs c.args.self.now c.numbers.self)
    (ap (λ n. take n c.args.ready.now) (omega (arith, c.numbers-test.false, c.numbers.auto.id-index-end))
    ∙ take-length c.args.ready.now)
    c.numbers.invariant.others
