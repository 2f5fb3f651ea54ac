use Rattle.std.proofs.Common.{◌≡◌, ap, ◌∙◌, ◌+◌, length, take, arith, rules}
use Rattle.std.proofs.Math.Seq.{take-length}
use Rattle.doc_server_rounds.specs.Rounds.{failures_in}
use Rattle.doc_server_rounds.proofs.Counts.{one_counted}
use Rattle.doc_server_rounds.proofs.round.count_failures.Goals as goal

pub links-preserved : goal.links-preserved
links-preserved g c =
    let pushed = rw c.unwrap.ensures at c.push.ensures in
    record {
      counted = one_counted c.args.links.now c.links.link-index c.link-item.result c.links-test.true c.link-item.is c.links.counts.items
          c.push.new.self.items c.failures.result (c.failures.ensures ∙ c.stream.ensures.failed) c.links.invariant.counted pushed.items;
      long = pushed.len ∙ ap (λ n. n + 1) c.links.invariant.long;
      room = search rules;
    }

pub returns : goal.returns
returns g c =
    let end : c.links.link-index ≡ length c.args.links.now = omega (arith, c.links-test.false, c.links.auto.link-index-end) in
    c.links.invariant.counted ∙ ap (λ n. failures_in (take n c.args.links.now)) end ∙ ap failures_in (take-length c.args.links.now)
