use Rattle.std.proofs.Common.{refl, sym, ◌∙◌}
use Rattle.doc_server_turns.proofs.TakeSteps.{answers_alone, not_taken, quiet_takes, then_answers}
use Rattle.doc_server_turns.proofs.Wiring.{not_both}
use Rattle.doc_server_network.proofs.Leading.{same_is_unedited, unedited_behind}
use Rattle.doc_server_turns.specs.Scopes.{is_earlier}
use Rattle.doc_server_turns.proofs.client.Client.take_in.Goals as goal

pub returns-then-is_idle-clause-serves : goal.returns-then-is_idle-clause-serves
returns-then-is_idle-clause-serves g c =
    not_taken (g.R.Renderer.page c.args.saved.now.hub.0) c.args.saved.now.hub.1 c.args.id (g.N.Network.came c.args.net.now c.args.id)
    (g.N.Network.has_ended c.args.net.now c.args.id) c.args.self.now c.args.share.now (is_earlier c.args.scope)
    (c.is_idle.ensures.idle c.if-is_idle.true)

pub returns-then-not-reads-clause-serves : goal.returns-then-not-reads-clause-serves
returns-then-not-reads-clause-serves g c =
    answers_alone (g.R.Renderer.page c.args.saved.now.hub.0) c.args.saved.now.hub.1 c.answer.new.saved.hub.1 c.args.id
    (g.N.Network.came c.args.net.now c.args.id) (g.N.Network.has_ended c.args.net.now c.args.id) c.args.self.now c.answer.new.self
    c.args.share.now c.answer.new.share (is_earlier c.args.scope) (c.is_idle.ensures.open c.if-is_idle.false)
    (c.is_idle.ensures.awake c.if-is_idle.false)
    (c.is_idle.ensures.stands c.if-is_idle.false) (λ reads. not_both c.reads.result (c.reads.ensures reads) c.if-not-reads.true)
    c.answer.ensures.answers

pub returns-then-is_earlier-clause-serves : goal.returns-then-is_earlier-clause-serves
returns-then-is_earlier-clause-serves g c =
    quiet_takes (g.R.Renderer.page c.args.saved.now.hub.0) c.args.saved.now.hub.1 c.read.new.saved.hub.1 c.args.id
    (g.N.Network.came c.args.net.now c.args.id) (g.N.Network.came c.read.new.net c.args.id)
    (g.N.Network.has_ended c.read.new.net c.args.id) c.args.self.now c.read.new.self c.args.share.now
    (is_earlier c.args.scope) (c.is_idle.ensures.awake c.if-is_idle.false) (c.is_idle.ensures.stands c.if-is_idle.false) c.read.ensures.pending
    c.read.ensures.serves

pub returns-then-not-is_open-clause-serves : goal.returns-then-not-is_open-clause-serves
returns-then-not-is_open-clause-serves g c =
    quiet_takes (g.R.Renderer.page c.args.saved.now.hub.0) c.args.saved.now.hub.1 c.read.new.saved.hub.1 c.args.id
    (g.N.Network.came c.args.net.now c.args.id) (g.N.Network.came c.read.new.net c.args.id)
    (g.N.Network.has_ended c.read.new.net c.args.id) c.args.self.now c.read.new.self c.args.share.now
    (is_earlier c.args.scope) (c.is_idle.ensures.awake c.if-is_idle.false) (c.is_idle.ensures.stands c.if-is_idle.false) c.read.ensures.pending
    c.read.ensures.serves

pub returns-clause-serves : goal.returns-clause-serves
returns-clause-serves g c =
    then_answers (g.R.Renderer.page c.args.saved.now.hub.0) (g.R.Renderer.page c.read.new.saved.hub.0) c.args.saved.now.hub.1
    c.read.new.saved.hub.1 c.answer-2.new.saved.hub.1 c.args.id (g.N.Network.came c.args.net.now c.args.id)
    (g.N.Network.came c.read.new.net c.args.id) (g.N.Network.has_ended c.read.new.net c.args.id) c.args.self.now c.read.new.self
    c.answer-2.new.self c.args.share.now c.answer-2.new.share (is_earlier c.args.scope) (sym c.is_earlier.ensures ∙ c.if-is_earlier.false) c.read.ensures.same
    (sym c.is_open.ensures.open ∙ c.if-not-is_open.false)
    (c.is_idle.ensures.awake c.if-is_idle.false) (c.is_idle.ensures.stands c.if-is_idle.false)
    c.read.ensures.serves c.answer-2.ensures.answers

pub returns-then-is_idle-clause-unedited : goal.returns-then-is_idle-clause-unedited
returns-then-is_idle-clause-unedited g c = λ is. same_is_unedited c.args.saved.now c.args.saved.now refl

pub returns-then-is_earlier-clause-unedited : goal.returns-then-is_earlier-clause-unedited
returns-then-is_earlier-clause-unedited g c = λ is. c.read.ensures.unedited

pub returns-then-not-is_open-clause-unedited : goal.returns-then-not-is_open-clause-unedited
returns-then-not-is_open-clause-unedited g c = λ is. c.read.ensures.unedited

pub returns-clause-unedited : goal.returns-clause-unedited
returns-clause-unedited g c = λ is.
    unedited_behind c.args.saved.now c.read.new.saved c.answer-2.new.saved c.read.ensures.unedited (c.answer-2.ensures.unedited is)
