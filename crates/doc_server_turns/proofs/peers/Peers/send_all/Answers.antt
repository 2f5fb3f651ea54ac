use Rattle.std.proofs.Common.{◌∙◌, ℕ, List, [], ap, arith, refl, subst, sym, take}
use Rattle.std.specs.Prelude.{Contains}
use Rattle.std.proofs.lemmas.List.{take_more}
use Rattle.std.proofs.Math.Seq.{take-length}
use Rattle.doc_server_turns.specs.Parts.{StayBut}
use Rattle.doc_server_turns.specs.Wirings.{HaveSent}
use Rattle.doc_server_turns.proofs.Ending.{sent_more}
use Rattle.doc_server_turns.proofs.Hearing.{spares_join, spares_nobody}
use Rattle.doc_server_turns.proofs.Parting.{stay_more, stay_nobody}
use Rattle.doc_server_turns.proofs.Tables.{gives_nothing, gives_join}
use Rattle.doc_server_turns.proofs.peers.Peers.send_all.Goals as goal

pub numbers-init : goal.numbers-init
numbers-init g c = record {
  gives = gives_nothing (g.N.Network.gone c.args.net.now) (g.N.Network.gone c.args.net.now) (g.N.Network.has_ended c.args.net.now)
      c.args.self.now (λ k. refl);
  sent = λ k among. absurd (omega (arith, among.1));
  came = λ k. refl;
  spares = spares_nobody c.args.self.now;
  others = stay_nobody [] c.args.self.now;
  woken = λ w. w;
  ended = λ k e. e;
  free = λ k f. f;
  calls = λ k f. f;
}

pub numbers-preserved : goal.numbers-preserved
numbers-preserved g c = record {
  gives = gives_join (g.N.Network.gone c.args.net.now) (g.N.Network.gone c.numbers.net) (g.N.Network.gone c.send_at.new.net)
      (g.N.Network.has_ended c.numbers.net) (g.N.Network.has_ended c.send_at.new.net)
      c.args.self.now c.numbers.self c.send_at.new.self c.send_at.ensures.ended c.numbers.invariant.gives c.send_at.ensures.gives;
  sent = λ k among.
      sent_more (take c.numbers.id-index c.args.ready.now) _ (g.N.Network.gone c.numbers.net) (g.N.Network.gone c.send_at.new.net)
      (g.N.Network.has_ended c.send_at.new.net) c.numbers.self c.send_at.new.self c.send_at.ensures.gives c.send_at.ensures.spares
      c.numbers.invariant.sent c.send_at.ensures.sent k
      (subst (λ (xs : List ℕ). Contains xs k) (take_more c.args.ready.now c.numbers.id-index 0 c.numbers-test.true) among);
  came = λ k. c.send_at.ensures.came k ∙ c.numbers.invariant.came k;
  spares = spares_join c.args.self.now c.numbers.self c.send_at.new.self c.numbers.invariant.spares c.send_at.ensures.spares;
  others = subst (λ (xs : List ℕ). StayBut xs c.args.self.now c.send_at.new.self)
      (sym (take_more c.args.ready.now c.numbers.id-index 0 c.numbers-test.true))
      (stay_more (take c.numbers.id-index c.args.ready.now) _ c.args.self.now c.numbers.self c.send_at.new.self c.numbers.invariant.others
      c.send_at.ensures.others);
  woken = λ w. c.send_at.ensures.woken (c.numbers.invariant.woken w);
  ended = λ k e. c.send_at.ensures.ended k (c.numbers.invariant.ended k e);
  free = λ k f. c.send_at.ensures.free k (c.numbers.invariant.free k f);
  calls = λ k f. c.send_at.ensures.calls k (c.numbers.invariant.calls k f);
}

pub returns-clause-sent : goal.returns-clause-sent
returns-clause-sent g c =
    subst (λ (xs : List ℕ). HaveSent xs c.numbers.self)
    (ap (λ n. take n c.args.ready.now) (omega (arith, c.numbers-test.false, c.numbers.auto.id-index-end))
    ∙ take-length c.args.ready.now)
    c.numbers.invariant.sent

pub returns-clause-others : goal.returns-clause-others
returns-clause-others g c =
    subst (λ (xs : List ℕ). StayBut xs c.args.self.now c.numbers.self)
    (ap (λ n. take n c.args.ready.now) (omega (arith, c.numbers-test.false, c.numbers.auto.id-index-end))
    ∙ take-length c.args.ready.now)
    c.numbers.invariant.others
