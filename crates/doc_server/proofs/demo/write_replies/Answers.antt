use Rattle.std.proofs.Common.{◌≡◌, refl, ◌∙◌}
use Rattle.std.proofs.lemmas.Result.{err_from_is_err_and}
use Rattle.doc_server.specs.DemoSteps.{StopsReplies}
use Rattle.doc_server_streams.specs.declared.fault.Fault.TheVariants as faults
use Rattle.doc_server.proofs.Replies.{none_yet, reply_more, reply_leaves, reply_none, replies_stopped, flush_stopped}
use Rattle.doc_server_streams.proofs.Results.{ok_always, then_err}
use Rattle.doc_server.proofs.demo.write_replies.Goals as goal

pub replies-init : goal.replies-init
replies-init g c = record {
  sent = none_yet (g.R.Renderer.page c.args.hub.now.0) c.args.hub.now.1 c.args.id.0 (g.O.Output.written c.args.output.now);
  writes = refl;
  made = c.requires.made;
  same = refl;
}

pub replies-smaller : goal.replies-smaller
replies-smaller g c =
    (reply_leaves (g.R.Renderer.page c.replies.hub.0) c.replies.hub.1 c.write_reply.new.hub.1 c.args.id.0 _ _ c.in_ok-write_reply.field-0
    c.if-branch.true c.in_ok-write_reply.ensures.sent).0

pub replies-preserved : goal.replies-preserved
replies-preserved g c = record {
  sent = reply_more (g.R.Renderer.page c.args.hub.now.0) (g.R.Renderer.page c.replies.hub.0) c.args.hub.now.1 c.replies.hub.1
      c.write_reply.new.hub.1 c.args.id.0 _ _ _ c.in_ok-write_reply.field-0 c.if-branch.true c.replies.invariant.same
      c.replies.invariant.sent c.in_ok-write_reply.ensures.sent;
  writes = c.in_ok-write_reply.ensures.writes ∙ c.replies.invariant.writes;
  made = (reply_leaves (g.R.Renderer.page c.replies.hub.0) c.replies.hub.1 c.write_reply.new.hub.1 c.args.id.0 _ _
      c.in_ok-write_reply.field-0 c.if-branch.true c.in_ok-write_reply.ensures.sent).1;
  same = c.in_ok-write_reply.ensures.same ∙ c.replies.invariant.same;
}

pub returns-clause-sent : goal.returns-clause-sent
returns-clause-sent g c =
    ok_always c.flush.result (reply_none (g.R.Renderer.page c.args.hub.now.0) (g.R.Renderer.page c.replies.hub.0) c.args.hub.now.1
    c.replies.hub.1 c.write_reply.new.hub.1 c.args.id.0 _ _ _ _ c.in_ok-write_reply.field-0 c.if-branch.false c.replies.invariant.same
    c.replies.invariant.sent c.in_ok-write_reply.ensures.sent c.flush.ensures.same)

pub returns-in_err-write_reply-clause-fault : goal.returns-in_err-write_reply-clause-fault
returns-in_err-write_reply-clause-fault g c =
    let p = err_from_is_err_and c.from_residual.result c.from_residual.ensures.1 in
    rw (p.1, p.2) (replies_stopped (g.R.Renderer.page c.args.hub.now.0) (g.R.Renderer.page c.replies.hub.0) c.args.hub.now.1
    c.replies.hub.1 c.write_reply.new.hub.1 c.args.id.0 _ _ _ c.in_err-write_reply.field-0.0
    c.replies.invariant.same c.replies.invariant.sent c.in_err-write_reply.ensures.fault)

pub returns-clause-fault : goal.returns-clause-fault
returns-clause-fault g c =
    then_err (λ fault. fault ≡ faults.CannotWrite)
    (StopsReplies (g.R.Renderer.page c.args.hub.now.0) c.args.hub.now.1 c.args.id.0 (g.O.Output.written c.args.output.now)
    (g.O.Output.written c.flush.new.output))
    c.flush.result
    (λ fault is. flush_stopped (g.R.Renderer.page c.args.hub.now.0) (g.R.Renderer.page c.replies.hub.0) c.args.hub.now.1 c.replies.hub.1
    c.write_reply.new.hub.1 c.args.id.0 _ _ _ _ c.in_ok-write_reply.field-0 fault
    c.if-branch.false is c.replies.invariant.sent c.in_ok-write_reply.ensures.sent c.flush.ensures.same)
    c.flush.ensures.fault
