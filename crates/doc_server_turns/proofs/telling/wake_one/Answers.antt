use Rattle.std.proofs.Common.{refl, subst, ℕ}
use Rattle.std.specs.Prelude.{Some}
use Rattle.doc_server_network.specs.Networks.{TellsLoss, TellsOf}
use Rattle.doc_server_turns.proofs.Minding.{rouses_nobody, rouses_woke}
use Rattle.doc_server_turns.proofs.Tables.{gives_woke, woken_told}
use Rattle.doc_server_turns.proofs.telling.wake_one.Goals as goal

pub returns-in-Some-Connection-clause-gives : goal.returns-in-Some-Connection-clause-gives
returns-in-Some-Connection-clause-gives g c =
    let ended = g.N.Network.has_ended c.told.new.self in
    let lost = subst (λ x. (k : ℕ) → TellsLoss (Some x) k → ended k) c.in-Some-Connection.field-0-is c.in-Some-Connection.ensures.lost in
    gives_woke (g.N.Network.gone c.args.net.now) (g.N.Network.gone c.told.new.self) ended c.args.peers.now c.wake.new.self
    c.in-Some-Connection.id c.in-Some-Connection.is_gone c.wake.ensures c.in-Some-Connection.ensures.gone
    (λ is_gone. lost c.in-Some-Connection.id (refl, is_gone))

pub returns-in-Some-Connection-clause-woken : goal.returns-in-Some-Connection-clause-woken
returns-in-Some-Connection-clause-woken g c =
    let old = g.N.Network.wakes c.args.net.now in let new = g.N.Network.wakes c.told.new.self in
    woken_told old new c.args.peers.now c.wake.new.self c.in-Some-Connection.id c.in-Some-Connection.is_gone c.wake.ensures
    (subst (λ x. (k : ℕ) → (TellsOf (Some x) k → ⊥) → old k → new k) c.in-Some-Connection.field-0-is c.in-Some-Connection.ensures.wakes)

pub returns-in-None-clause-rouses : goal.returns-in-None-clause-rouses
returns-in-None-clause-rouses g c = rouses_nobody c.args.peers.now

pub returns-in-Some-Connection-clause-rouses : goal.returns-in-Some-Connection-clause-rouses
returns-in-Some-Connection-clause-rouses g c =
    rouses_woke c.args.peers.now c.wake.new.self c.in-Some-Connection.id c.in-Some-Connection.is_gone c.wake.ensures

pub returns-in-Some-Door-clause-rouses : goal.returns-in-Some-Door-clause-rouses
returns-in-Some-Door-clause-rouses g c = rouses_nobody c.args.peers.now

pub returns-in-Some-InputEnds-clause-rouses : goal.returns-in-Some-InputEnds-clause-rouses
returns-in-Some-InputEnds-clause-rouses g c = rouses_nobody c.args.peers.now

pub returns-in-Some-Input-clause-rouses : goal.returns-in-Some-Input-clause-rouses
returns-in-Some-Input-clause-rouses g c = rouses_nobody c.args.peers.now
