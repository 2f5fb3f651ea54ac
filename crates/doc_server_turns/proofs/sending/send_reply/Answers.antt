use Rattle.std.proofs.Common.{◌+◌, ◌-◌, ◌∙◌, length, take, drop, refl}
use Rattle.doc_server_network.proofs.Passing.{moved_alone}
use Rattle.doc_server_turns.proofs.HandingOver.{hands_join, one_write}
use Rattle.doc_server_turns.proofs.sending.send_reply.Goals as goal

pub writes-preserved : goal.writes-preserved
writes-preserved g c =
    let old = g.N.Network.gone c.args.net.now in let mid = g.N.Network.gone c.writes.net in
    let new = g.N.Network.gone c.write.new.self in
    let rest = take (length c.args.bytes.now - c.writes.sent) (drop c.writes.sent c.args.bytes.now) in record {
      gives = hands_join (old c.args.id) (mid c.args.id) (new c.args.id) (drop c.args.sent.now c.args.bytes.now)
          (drop c.writes.sent c.args.bytes.now) (drop (c.writes.sent + c.in_ok-count.count) c.args.bytes.now) c.writes.invariant.gives
          (one_write mid new c.args.id c.args.bytes.now rest c.writes.sent c.in_ok-count.count refl c.in_ok-count.ensures.gone);
      others = λ k off. moved_alone mid new c.args.id (take c.in_ok-count.count rest) c.in_ok-count.ensures.gone k off
          ∙ c.writes.invariant.others k off;
      came = λ k. c.in_ok-count.ensures.came k ∙ c.writes.invariant.came k;
      wakes = λ k off w. c.in_ok-count.ensures.wakes k off (c.writes.invariant.wakes k off w);
      ended = λ k e. c.in_ok-count.ensures.ended k (c.writes.invariant.ended k e);
      free = λ k f. c.in_ok-count.ensures.free k (c.writes.invariant.free k f);
      calls = λ k f. c.in_ok-count.ensures.calls k (c.writes.invariant.calls k f);
    }
