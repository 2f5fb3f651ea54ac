use Rattle.std.proofs.lemmas.Result.{err_from_is_err_and}
use Rattle.doc_server.proofs.Replies.{reply_sent, last_sent, none_left, closed_before, reply_cut, last_cut}
use Rattle.doc_server.proofs.demo.write_reply.Goals as goal

pub returns-in_ok-send-in-Sent-clause-sent : goal.returns-in_ok-send-in-Sent-clause-sent
returns-in_ok-send-in-Sent-clause-sent g c =
    reply_sent (g.R.Renderer.page c.args.hub.now.0) c.args.hub.now.1 c.step.new.hub.1 c.args.id.0 _ _ c.in_ok-reply.field-0 c.in-Sent.reply
    c.get.result.now
    c.in-Sent.is c.in_ok-reply.ensures.world c.get.ensures c.in_ok-send-in-Sent.ensures.sent

pub returns-in_ok-send-in-Last-clause-sent : goal.returns-in_ok-send-in-Last-clause-sent
returns-in_ok-send-in-Last-clause-sent g c =
    last_sent (g.R.Renderer.page c.args.hub.now.0) c.args.hub.now.1 c.step.new.hub.1 c.args.id.0 _ _ c.in_ok-reply.field-0 c.in-Last.reply
    c.get-in-Last.result.now
    c.in-Last.is c.in_ok-reply.ensures.world c.get-in-Last.ensures c.in_ok-send-in-Last.ensures.sent

pub returns-in-More-clause-sent : goal.returns-in-More-clause-sent
returns-in-More-clause-sent g c =
    none_left (g.R.Renderer.page c.args.hub.now.0) c.args.hub.now.1 c.step.new.hub.1 c.args.id.0
    (g.O.Output.written c.args.output.now) c.in_ok-reply.field-0 c.in-More.is c.in_ok-reply.ensures.world

pub returns-in-Closed-clause-sent : goal.returns-in-Closed-clause-sent
returns-in-Closed-clause-sent g c =
    closed_before (g.R.Renderer.page c.args.hub.now.0) c.args.hub.now.1 c.step.new.hub.1 c.args.id.0
    (g.O.Output.written c.args.output.now) c.in_ok-reply.field-0 c.in-Closed.is c.in_ok-reply.ensures.world

pub returns-in_err-send-in-Sent-clause-fault : goal.returns-in_err-send-in-Sent-clause-fault
returns-in_err-send-in-Sent-clause-fault g c =
    let p = err_from_is_err_and c.from_residual-in_err-send-in-Sent.result c.from_residual-in_err-send-in-Sent.ensures.1 in
    rw (p.1, p.2) (reply_cut (g.R.Renderer.page c.args.hub.now.0) c.args.hub.now.1 c.step.new.hub.1 c.args.id.0 _ _ c.in_ok-reply.field-0
    c.in-Sent.reply c.get.result.now
    c.in_err-send-in-Sent.field-0.0 c.in-Sent.is c.in_ok-reply.ensures.world c.get.ensures c.in_err-send-in-Sent.ensures.cut
    c.in_err-send-in-Sent.ensures.fault)

pub returns-in_err-send-in-Last-clause-fault : goal.returns-in_err-send-in-Last-clause-fault
returns-in_err-send-in-Last-clause-fault g c =
    let p = err_from_is_err_and c.from_residual-in_err-send-in-Last.result c.from_residual-in_err-send-in-Last.ensures.1 in
    rw (p.1, p.2) (last_cut (g.R.Renderer.page c.args.hub.now.0) c.args.hub.now.1 c.step.new.hub.1 c.args.id.0 _ _ c.in_ok-reply.field-0
    c.in-Last.reply c.get-in-Last.result.now
    c.in_err-send-in-Last.field-0.0 c.in-Last.is c.in_ok-reply.ensures.world c.get-in-Last.ensures c.in_err-send-in-Last.ensures.cut
    c.in_err-send-in-Last.ensures.fault)
