use Rattle.std.proofs.Common.{ap, subst}
use Rattle.std.specs.Prelude.{Option}
use Rattle.doc_server_journal.specs.declared.journal.Journal.{Journal}
use Rattle.doc_server_network.specs.Saved.{WereWritten}
use Rattle.doc_server_turns.proofs.Ending.{ends_turned, sent_turned}
use Rattle.doc_server_turns.proofs.Minding.{waits_heard, waits_join, waits_spared}
use Rattle.doc_server_turns.proofs.Parting.{stay_join}
use Rattle.doc_server_turns.proofs.Tables.{gives_fronts}
use Rattle.doc_server_turns.proofs.TurnSteps.{begun_sharing, ended_sharing, on_err}
use Rattle.doc_server_turns.specs.Scopes.{is_earlier}
use Rattle.doc_server_turns.proofs.Sites.{all_saved_too}
use Rattle.doc_server_turns.proofs.Unedited.{unedited_settled}
use Rattle.doc_server_turns.proofs.turn.turn.Goals as goal

pub returns-in_err-settle-clause-turns : goal.returns-in_err-settle-clause-turns
returns-in_err-settle-clause-turns g c =
    let came = g.N.Network.came in let gone = g.N.Network.gone in
    begun_sharing (g.R.Renderer.page c.args.saved.now.hub.0) c.args.saved.now.hub.1 c.take_in_all.new.saved.hub.1 c.settle.new.self.hub.1
    c.args.ready.now (came c.args.net.now) (came c.send_settled.new.net) (came c.take_in_all.new.net) (gone c.args.net.now)
    (gone c.send_settled.new.net) (gone c.take_in_all.new.net) (g.N.Network.has_ended c.send_settled.new.net)
    (g.N.Network.has_ended c.take_in_all.new.net) c.args.peers.now c.send_settled.new.peers c.take_in_all.new.self c.args.share.now
    c.take_in_all.new.share (is_earlier c.args.scope) (ap (λ h. h.1) c.settle.ensures.hub) c.send_settled.ensures.gives c.send_settled.ensures.spares c.send_settled.ensures.came
    c.take_in_all.ensures.serves c.take_in_all.ensures.gone

pub returns-in_err-settle-clause-waits : goal.returns-in_err-settle-clause-waits
returns-in_err-settle-clause-waits g c =
    on_err _ c.from_residual.result
    (gives_fronts (g.N.Network.gone c.args.net.now) (g.N.Network.gone c.send_settled.new.net) (g.N.Network.gone c.take_in_all.new.net)
    (g.N.Network.has_ended c.send_settled.new.net) c.args.peers.now c.send_settled.new.peers c.send_settled.ensures.gives
    c.take_in_all.ensures.gone)

pub returns-clause-turns : goal.returns-clause-turns
returns-clause-turns g c =
    let came = g.N.Network.came in let gone = g.N.Network.gone in
    let begun = begun_sharing (g.R.Renderer.page c.args.saved.now.hub.0) c.args.saved.now.hub.1 c.take_in_all.new.saved.hub.1
    c.settle.new.self.hub.1 c.args.ready.now (came c.args.net.now) (came c.send_settled.new.net) (came c.take_in_all.new.net)
    (gone c.args.net.now) (gone c.send_settled.new.net) (gone c.take_in_all.new.net) (g.N.Network.has_ended c.send_settled.new.net)
    (g.N.Network.has_ended c.take_in_all.new.net) c.args.peers.now c.send_settled.new.peers c.take_in_all.new.self c.args.share.now
    c.take_in_all.new.share (is_earlier c.args.scope) (ap (λ h. h.1) c.settle.ensures.hub) c.send_settled.ensures.gives c.send_settled.ensures.spares c.send_settled.ensures.came
    c.take_in_all.ensures.serves c.take_in_all.ensures.gone in
    ended_sharing (g.R.Renderer.page c.args.saved.now.hub.0) c.args.saved.now.hub.1 c.settle.new.self.hub.1 c.args.ready.now
    (came c.args.net.now) (came c.take_in_all.new.net) (came c.send_settled-2.new.net) (came c.finish_all.new.net)
    (gone c.args.net.now) (gone c.take_in_all.new.net) (gone c.send_settled-2.new.net) (gone c.finish_all.new.net)
    (g.N.Network.has_ended c.send_settled-2.new.net) c.args.peers.now c.take_in_all.new.self c.send_settled-2.new.peers
    c.finish_all.new.self c.args.share.now c.take_in_all.new.share (is_earlier c.args.scope) begun c.send_settled-2.ensures.gives c.send_settled-2.ensures.came
    c.finish_all.ensures.lingers c.send_settled-2.ensures.spares c.finish_all.ensures.spares c.finish_all.ensures.gone

pub returns-clause-sent : goal.returns-clause-sent
returns-clause-sent g c =
    sent_turned c.args.ready.now (g.N.Network.came c.send_settled-2.new.net) (g.N.Network.came c.finish_all.new.net)
    c.send_settled-2.new.peers c.finish_all.new.self c.send_settled-2.ensures.sent c.finish_all.ensures.lingers c.finish_all.ensures.spares

pub returns-clause-ends : goal.returns-clause-ends
returns-clause-ends g c =
    ends_turned c.args.ready.now (g.N.Network.came c.send_settled-2.new.net) (g.N.Network.came c.finish_all.new.net)
    c.send_settled-2.new.peers c.finish_all.new.self c.finish_all.ensures.ends c.finish_all.ensures.lingers c.finish_all.ensures.spares

pub returns-in_err-settle-clause-waits_on : goal.returns-in_err-settle-clause-waits_on
returns-in_err-settle-clause-waits_on g c =
    waits_join c.args.peers.now c.send_settled.new.peers c.take_in_all.new.self
    (waits_spared c.args.peers.now c.send_settled.new.peers c.send_settled.ensures.spares)
    (waits_heard c.args.ready.now c.take_in_all.ensures.serves.0.run c.send_settled.new.peers c.take_in_all.new.self
    c.take_in_all.ensures.serves.2)

pub returns-clause-waits_on : goal.returns-clause-waits_on
returns-clause-waits_on g c =
    waits_join c.args.peers.now c.take_in_all.new.self c.finish_all.new.self
    (waits_join c.args.peers.now c.send_settled.new.peers c.take_in_all.new.self
    (waits_spared c.args.peers.now c.send_settled.new.peers c.send_settled.ensures.spares)
    (waits_heard c.args.ready.now c.take_in_all.ensures.serves.0.run c.send_settled.new.peers c.take_in_all.new.self
    c.take_in_all.ensures.serves.2))
    (waits_join c.take_in_all.new.self c.send_settled-2.new.peers c.finish_all.new.self
    (waits_spared c.take_in_all.new.self c.send_settled-2.new.peers c.send_settled-2.ensures.spares)
    (waits_spared c.send_settled-2.new.peers c.finish_all.new.self c.finish_all.ensures.spares))

pub returns-clause-woken : goal.returns-clause-woken
returns-clause-woken g c =
    λ w.
    c.finish_all.ensures.woken
    (c.send_settled-2.ensures.woken (c.take_in_all.ensures.woken (c.send_settled.ensures.woken w)))

pub returns-in_err-settle-clause-others : goal.returns-in_err-settle-clause-others
returns-in_err-settle-clause-others g c =
    stay_join c.args.ready.now c.args.peers.now c.send_settled.new.peers c.take_in_all.new.self c.send_settled.ensures.others
    c.take_in_all.ensures.others

pub returns-clause-others : goal.returns-clause-others
returns-clause-others g c =
    stay_join c.args.ready.now c.args.peers.now c.take_in_all.new.self c.finish_all.new.self
    (stay_join c.args.ready.now c.args.peers.now c.send_settled.new.peers c.take_in_all.new.self c.send_settled.ensures.others
    c.take_in_all.ensures.others)
    (stay_join c.args.ready.now c.take_in_all.new.self c.send_settled-2.new.peers c.finish_all.new.self c.send_settled-2.ensures.others
    c.finish_all.ensures.others)

pub returns-clause-time : goal.returns-clause-time
returns-clause-time g c =
    let lines = c.in_ok-settle.ensures.time.0 in (
      lines,
      subst (λ (j : Option (Journal g.row.D.Denot)). WereWritten c.args.seconds lines j c.settle.new.self.journal)
          c.take_in_all.ensures.journal c.in_ok-settle.ensures.time.2,
    )

pub returns-in_err-settle-clause-unedited : goal.returns-in_err-settle-clause-unedited
returns-in_err-settle-clause-unedited g c = λ is.
    let is_not = c.take_in_all.ensures.unedited is in
    unedited_settled c.args.saved.now c.take_in_all.new.saved c.settle.new.self is_not c.settle.ensures.rests
    (all_saved_too g.D.Device.seen g.D.Device.may_leave g.D.Device.failed g.D.Device.stale c.args.saved.now c.take_in_all.new.saved
    is_not.journal is_not.unsaved c.requires.all)

pub returns-clause-unedited : goal.returns-clause-unedited
returns-clause-unedited g c = λ is.
    let is_not = c.take_in_all.ensures.unedited is in
    unedited_settled c.args.saved.now c.take_in_all.new.saved c.settle.new.self is_not c.settle.ensures.rests
    (all_saved_too g.D.Device.seen g.D.Device.may_leave g.D.Device.failed g.D.Device.stale c.args.saved.now c.take_in_all.new.saved
    is_not.journal is_not.unsaved c.requires.all)
