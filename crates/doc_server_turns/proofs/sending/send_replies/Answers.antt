use Rattle.std.proofs.Common.{◌∙◌, subst, drop, length, ◌≤◌}
use Rattle.doc_server_turns.specs.Replies.{left_of}
use Rattle.doc_server_turns.specs.Wirings.{HandsOver}
use Rattle.doc_server_turns.proofs.HandingOver.{hands_join, part_gone, first_gone, starts_none}
use Rattle.doc_server_turns.proofs.sending.send_replies.Goals as goal

pub returns-in_err-send_reply-clause-gives : goal.returns-in_err-send_reply-clause-gives
returns-in_err-send_reply-clause-gives g c =
    let id = c.args.id in let mid = g.N.Network.gone c.replies.net id in let new = g.N.Network.gone c.send_reply.new.net id in
    hands_join (g.N.Network.gone c.args.net.now id) mid new (left_of c.args.sent.now c.args.replies.now.items)
    (left_of c.replies.sent c.replies.replies.items) (left_of c.send_reply.new.sent c.replies.replies.items) c.replies.invariant.gives
    (part_gone mid new c.replies.replies.items c.in-Some.reply.now c.replies.sent c.send_reply.new.sent c.in-Some.ensures.item.3.0
    c.in-Some.ensures.lookup
    (subst (λ l. HandsOver mid new (drop c.replies.sent l) (drop c.send_reply.new.sent l)) c.get.ensures
    c.in_err-send_reply.ensures.gives))

pub returns-then-not-branch-clause-gives : goal.returns-then-not-branch-clause-gives
returns-then-not-branch-clause-gives g c =
    let id = c.args.id in let mid = g.N.Network.gone c.replies.net id in let new = g.N.Network.gone c.send_reply.new.net id in
    hands_join (g.N.Network.gone c.args.net.now id) mid new (left_of c.args.sent.now c.args.replies.now.items)
    (left_of c.replies.sent c.replies.replies.items) (left_of c.send_reply.new.sent c.replies.replies.items) c.replies.invariant.gives
    (part_gone mid new c.replies.replies.items c.in-Some.reply.now c.replies.sent c.send_reply.new.sent c.in-Some.ensures.item.3.0
    c.in-Some.ensures.lookup
    (subst (λ l. HandsOver mid new (drop c.replies.sent l) (drop c.send_reply.new.sent l)) c.get.ensures
    c.in_ok-send_reply.ensures.gives))

pub replies-preserved : goal.replies-preserved
replies-preserved g c =
    let id = c.args.id in let mid = g.N.Network.gone c.replies.net id in let new = g.N.Network.gone c.send_reply.new.net id in record {
      gives = hands_join (g.N.Network.gone c.args.net.now id) mid new (left_of c.args.sent.now c.args.replies.now.items)
          (left_of c.replies.sent c.replies.replies.items) (left_of 0 c.pop_front.new.self.items) c.replies.invariant.gives
          (first_gone mid new c.replies.replies.items c.pop_front.new.self.items c.in-Some.reply.now c.replies.sent c.send_reply.new.sent
          c.in-Some.ensures.item.3.0 c.in-Some.ensures.lookup c.pop_front.ensures.rest
          (subst (λ l. length l ≤ c.send_reply.new.sent) c.get.ensures (c.in_ok-send_reply.ensures.whole c.if-not-branch.false))
          (subst (λ l. HandsOver mid new (drop c.replies.sent l) (drop c.send_reply.new.sent l)) c.get.ensures
          c.in_ok-send_reply.ensures.gives));
      starts = starts_none c.pop_front.new.self.items;
      others = λ k off. c.in_ok-send_reply.ensures.others k off ∙ c.replies.invariant.others k off;
      came = λ k. c.in_ok-send_reply.ensures.came k ∙ c.replies.invariant.came k;
      wakes = λ k off w. c.in_ok-send_reply.ensures.wakes k off (c.replies.invariant.wakes k off w);
      ended = λ k e. c.in_ok-send_reply.ensures.ended k (c.replies.invariant.ended k e);
      free = λ k f. c.in_ok-send_reply.ensures.free k (c.replies.invariant.free k f);
      calls = λ k f. c.in_ok-send_reply.ensures.calls k (c.replies.invariant.calls k f);
    }
