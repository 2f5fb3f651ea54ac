use Rattle.std.proofs.Common.{◌∙◌, ℕ, List, [], ap, arith, refl, subst, sym, take}
use Rattle.std.specs.Prelude.{Contains}
use Rattle.std.proofs.lemmas.List.{take_more}
use Rattle.std.proofs.Math.Seq.{take-length}
use Rattle.doc_server_turns.specs.Parts.{StayBut}
use Rattle.doc_server_turns.specs.Wirings.{EndAll}
use Rattle.doc_server_turns.proofs.Ending.{ends_more}
use Rattle.doc_server_turns.proofs.Hearing.{spares_join, spares_nobody}
use Rattle.doc_server_turns.proofs.Parting.{stay_more, stay_nobody}
use Rattle.doc_server_turns.proofs.Tables.{lingers_nothing, lingers_join}
use Rattle.doc_server_turns.proofs.peers.Peers.finish_all.Goals as goal

pub numbers-init : goal.numbers-init
numbers-init g c = record {
  lingers = lingers_nothing (g.N.Network.came c.args.net.now) (g.N.Network.came c.args.net.now) c.args.self.now (λ k. refl);
  ends = λ k among. absurd (omega (arith, among.1));
  gone = λ k. refl;
  spares = spares_nobody c.args.self.now;
  others = stay_nobody [] c.args.self.now;
  woken = λ w. w;
  ended = λ k e. e;
  free = λ k f. f;
  calls = λ k f. f;
  room = refl;
}

pub numbers-preserved : goal.numbers-preserved
numbers-preserved g c = record {
  lingers = lingers_join (g.N.Network.came c.args.net.now) (g.N.Network.came c.numbers.net) (g.N.Network.came c.finish_at.new.net)
      c.args.self.now c.numbers.self c.finish_at.new.self c.numbers.invariant.lingers c.finish_at.ensures.lingers;
  ends = λ k among.
      ends_more (take c.numbers.id-index c.args.ready.now) _ (g.N.Network.came c.args.net.now) (g.N.Network.came c.numbers.net)
      (g.N.Network.came c.finish_at.new.net) c.args.self.now c.numbers.self c.finish_at.new.self c.numbers.invariant.ends
      c.numbers.invariant.lingers c.finish_at.ensures.ends c.finish_at.ensures.lingers c.finish_at.ensures.spares k
      (subst (λ (xs : List ℕ). Contains xs k) (take_more c.args.ready.now c.numbers.id-index 0 c.numbers-test.true) among);
  gone = λ k. c.finish_at.ensures.gone k ∙ c.numbers.invariant.gone k;
  spares = spares_join c.args.self.now c.numbers.self c.finish_at.new.self c.numbers.invariant.spares c.finish_at.ensures.spares;
  others = subst (λ (xs : List ℕ). StayBut xs c.args.self.now c.finish_at.new.self)
      (sym (take_more c.args.ready.now c.numbers.id-index 0 c.numbers-test.true))
      (stay_more (take c.numbers.id-index c.args.ready.now) _ c.args.self.now c.numbers.self c.finish_at.new.self c.numbers.invariant.others
      c.finish_at.ensures.others);
  woken = λ w. c.finish_at.ensures.woken (c.numbers.invariant.woken w);
  ended = λ k e. c.finish_at.ensures.ended k (c.numbers.invariant.ended k e);
  free = λ k f. c.finish_at.ensures.free k (c.numbers.invariant.free k f);
  calls = λ k f. c.finish_at.ensures.calls k (c.numbers.invariant.calls k f);
  room = c.finish_at.ensures.room ∙ c.numbers.invariant.room;
}

pub returns-clause-ends : goal.returns-clause-ends
returns-clause-ends g c =
    subst (λ (xs : List ℕ). EndAll xs c.args.self.now c.numbers.self)
    (ap (λ n. take n c.args.ready.now) (omega (arith, c.numbers-test.false, c.numbers.auto.id-index-end))
    ∙ take-length c.args.ready.now)
    c.numbers.invariant.ends

pub returns-clause-others : goal.returns-clause-others
returns-clause-others g c =
    subst (λ (xs : List ℕ). StayBut xs c.args.self.now c.numbers.self)
    (ap (λ n. take n c.args.ready.now) (omega (arith, c.numbers-test.false, c.numbers.auto.id-index-end))
    ∙ take-length c.args.ready.now)
    c.numbers.invariant.others
