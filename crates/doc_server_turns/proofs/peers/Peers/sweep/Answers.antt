use Rattle.std.proofs.Common.{◌∙◌, ℕ, List, ap, arith, subst, sym, take}
use Rattle.std.specs.Prelude.{Contains}
use Rattle.std.proofs.lemmas.List.{take_more}
use Rattle.std.proofs.Math.Seq.{take-length}
use Rattle.doc_server_turns.specs.Sweeps.{Sweeps}
use Rattle.doc_server_turns.proofs.Feeding.{fed_more}
use Rattle.doc_server_turns.proofs.Sweeping.{sweeps_more, sweeps_nobody}
use Rattle.doc_server_turns.proofs.Tables.{swept_nothing, swept_join}
use Rattle.doc_server_turns.proofs.peers.Peers.sweep.Goals as goal

pub numbers-init : goal.numbers-init
numbers-init c = record { exact = sweeps_nobody c.args.limits.now c.args.is_crowded c.args.self.now; swept = swept_nothing c.args.self.now; fed = λ k among. absurd (omega (arith, among.1)) }

pub numbers-preserved : goal.numbers-preserved
numbers-preserved c = record {
  exact = subst (λ (xs : List ℕ). Sweeps c.args.limits.now c.args.is_crowded xs c.args.self.now c.sweep_at.new.self)
      (sym (take_more c.args.numbers.now c.numbers.id-index 0 c.numbers-test.true))
      (sweeps_more c.args.limits.now c.args.is_crowded (take c.numbers.id-index c.args.numbers.now) _ c.args.self.now c.numbers.self
      c.sweep_at.new.self c.numbers.invariant.exact c.sweep_at.ensures.exact c.sweep_at.ensures.others);
  swept = swept_join c.args.self.now c.numbers.self c.sweep_at.new.self c.numbers.invariant.swept c.sweep_at.ensures.swept;
  fed = λ k among.
      fed_more (take c.numbers.id-index c.args.numbers.now) _ c.numbers.self c.sweep_at.new.self c.sweep_at.ensures.swept
      c.numbers.invariant.fed c.sweep_at.ensures.fed k
      (subst (λ (xs : List ℕ). Contains xs k) (take_more c.args.numbers.now c.numbers.id-index 0 c.numbers-test.true) among);
}

pub returns-clause-fed : goal.returns-clause-fed
returns-clause-fed c =
    λ k among.
    c.numbers.invariant.fed k
    (subst (λ (xs : List ℕ). Contains xs k)
    (sym (ap (λ n. take n c.args.numbers.now) (omega (arith, c.numbers-test.false, c.numbers.auto.id-index-end))
    ∙ take-length c.args.numbers.now))
    among)

pub returns-clause-exact : goal.returns-clause-exact
returns-clause-exact c =
    subst (λ (xs : List ℕ). Sweeps c.args.limits.now c.args.is_crowded xs c.args.self.now c.numbers.self)
    (ap (λ n. take n c.args.numbers.now) (omega (arith, c.numbers-test.false, c.numbers.auto.id-index-end))
    ∙ take-length c.args.numbers.now)
    c.numbers.invariant.exact
