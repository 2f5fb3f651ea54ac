use Rattle.std.proofs.Common.{ℕ, List, [], refl, ap, arith, sym, subst, take, ◌∙◌}
use Rattle.std.specs.Prelude.{Contains}
use Rattle.std.proofs.Math.Seq.{take-length}
use Rattle.std.proofs.lemmas.List.{take_more}
use Rattle.doc_server_turns.specs.Turns.{Turns}
use Rattle.doc_server_turns.proofs.Minding.{out_more, waits_join, waits_nobody}
use Rattle.doc_server_turns.proofs.LeavingSteps.{leaves_nobody, turns_join}
use Rattle.doc_server_turns.proofs.Parting.{more_join, more_nobody}
use Rattle.doc_server_turns.proofs.Sites.{same_join, same_site}
use Rattle.doc_server_turns.proofs.letting_go.let_go.Goals as goal

pub numbers-init : goal.numbers-init
numbers-init g c = record {
  turns = leaves_nobody (g.R.Renderer.page c.args.saved.now.hub.0) c.args.saved.now.hub.1 [] (g.N.Network.came c.args.net.now)
      (g.N.Network.came c.args.net.now) (g.N.Network.gone c.args.net.now) (g.N.Network.gone c.args.net.now) c.args.peers.now (λ k. refl)
      (λ k. refl);
  out = λ k among. absurd (omega (arith, among.1));
  no_more = more_nobody c.args.peers.now;
  waits = waits_nobody c.args.peers.now;
  woken = λ w. w;
  ended = λ k e. e;
  free = λ k f. f;
  calls = λ k f. f;
  same = refl;
  site = same_site c.args.saved.now.hub.1;
  saved = λ config begin is. is;
  ready = λ is. is;
  journal = refl;
  unsaved = refl;
}

pub numbers-preserved : goal.numbers-preserved
numbers-preserved g c =
    let came = g.N.Network.came in let gone = g.N.Network.gone in record {
      turns = subst (λ (ready : List ℕ). Turns (g.R.Renderer.page c.args.saved.now.hub.0) c.args.saved.now.hub.1
          c.let_one_go.new.saved.hub.1 ready (came c.args.net.now) (came c.let_one_go.new.net) (gone c.args.net.now)
          (gone c.let_one_go.new.net) c.args.peers.now c.let_one_go.new.peers)
          (sym (take_more c.args.gone.now c.numbers.id-index 0 c.numbers-test.true))
          (turns_join (g.R.Renderer.page c.args.saved.now.hub.0) (g.R.Renderer.page c.numbers.saved.hub.0) c.args.saved.now.hub.1
          c.numbers.saved.hub.1 c.let_one_go.new.saved.hub.1 (take c.numbers.id-index c.args.gone.now) _ (came c.args.net.now)
          (came c.numbers.net) (came c.let_one_go.new.net) (gone c.args.net.now) (gone c.numbers.net) (gone c.let_one_go.new.net)
          c.args.peers.now c.numbers.peers c.let_one_go.new.peers c.numbers.invariant.same c.numbers.invariant.turns
          c.let_one_go.ensures.turns);
      out = λ k among.
          out_more (take c.numbers.id-index c.args.gone.now) _ c.numbers.peers c.let_one_go.new.peers c.let_one_go.ensures.out
          c.numbers.invariant.out c.let_one_go.ensures.gone k
          (subst (λ (xs : List ℕ). Contains xs k) (take_more c.args.gone.now c.numbers.id-index 0 c.numbers-test.true) among);
      no_more = more_join c.args.peers.now c.numbers.peers c.let_one_go.new.peers c.numbers.invariant.no_more c.let_one_go.ensures.no_more;
      waits = waits_join c.args.peers.now c.numbers.peers c.let_one_go.new.peers c.numbers.invariant.waits c.let_one_go.ensures.waits;
      woken = λ w. c.let_one_go.ensures.woken (c.numbers.invariant.woken w);
      ended = λ k e. c.let_one_go.ensures.ended k (c.numbers.invariant.ended k e);
      free = λ k f. c.let_one_go.ensures.free k (c.numbers.invariant.free k f);
      calls = λ k f. c.let_one_go.ensures.calls k (c.numbers.invariant.calls k f);
      same = c.let_one_go.ensures.same ∙ c.numbers.invariant.same;
      site = same_join c.args.saved.now.hub.1 c.numbers.saved.hub.1 c.let_one_go.new.saved.hub.1 c.numbers.invariant.site
          c.let_one_go.ensures.site;
      saved = λ config begin is. c.let_one_go.ensures.saved config begin (c.numbers.invariant.saved config begin is);
      ready = λ is. c.let_one_go.ensures.ready (c.numbers.invariant.ready is);
      journal = c.let_one_go.ensures.journal ∙ c.numbers.invariant.journal;
      unsaved = c.let_one_go.ensures.unsaved ∙ c.numbers.invariant.unsaved;
    }

pub returns-clause-turns : goal.returns-clause-turns
returns-clause-turns g c =
    let came = g.N.Network.came in let gone = g.N.Network.gone in
    subst (λ (ready : List ℕ). Turns (g.R.Renderer.page c.args.saved.now.hub.0) c.args.saved.now.hub.1 c.numbers.saved.hub.1 ready
    (came c.args.net.now) (came c.numbers.net) (gone c.args.net.now) (gone c.numbers.net) c.args.peers.now c.numbers.peers)
    (ap (λ n. take n c.args.gone.now) (omega (arith, c.numbers-test.false, c.numbers.auto.id-index-end)) ∙ take-length c.args.gone.now)
    c.numbers.invariant.turns

pub returns-clause-gone : goal.returns-clause-gone
returns-clause-gone g c =
    λ k among.
    c.numbers.invariant.out k
    (subst (λ (xs : List ℕ). Contains xs k)
    (sym (ap (λ n. take n c.args.gone.now) (omega (arith, c.numbers-test.false, c.numbers.auto.id-index-end))
    ∙ take-length c.args.gone.now))
    among)
