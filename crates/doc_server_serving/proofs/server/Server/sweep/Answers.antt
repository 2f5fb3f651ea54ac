use Rattle.std.proofs.Common.{◌++◌, ◌∙◌, ℕ, List, ap, subst, sym}
use Rattle.std.specs.Prelude.{Contains}
use Rattle.std.specs.FinMap as map
use Rattle.doc_server_serving.specs.declared.next_turn.NextTurn.{NextTurn}
use Rattle.doc_server_turns.proofs.Feeding.{all_fed}
use Rattle.doc_server_turns.proofs.Parting.{minded_swept, or_later}
use Rattle.doc_server_serving.proofs.server.Server.sweep.Goals as goal

pub returns-clause-fed : goal.returns-clause-fed
returns-clause-fed c = λ made.
    all_fed c.args.self.now.peers c.sweep.new.self c.sweep.ensures.swept
    (λ k among.
    c.sweep.ensures.fed k
    (subst (λ (xs : List ℕ). Contains xs k)
    (sym (c.as_slice.ensures.value ∙ c.in_ok-collect_all.ensures
    ∙ ap (λ (xs : List ℕ). xs ++ map.keys c.args.self.now.peers) c.clear.ensures.items))
    among))

pub returns-clause-minds : goal.returns-clause-minds
returns-clause-minds c = λ minded k part.
    ap (λ (n : NextTurn). n.goes_on) c.sweep-2.ensures
    ∙ or_later c.args.next.now.goes_on c.goes_on.result (c.goes_on.ensures
    ∙ minded_swept c.args.self.now.peers c.sweep.new.self _ c.sweep.ensures.swept
    (c.as_slice-2.ensures.value ∙ c.in_ok-collect_all.ensures
    ∙ ap (λ (xs : List ℕ). xs ++ map.keys c.args.self.now.peers) c.clear.ensures.items) k part)
