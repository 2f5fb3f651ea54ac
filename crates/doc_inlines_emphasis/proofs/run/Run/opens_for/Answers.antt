use Rattle.std.proofs.Common.{arith, ◌%◌, ◌<◌}
use Rattle.std.proofs.Math.Nat.{mod-lt}
use Rattle.doc_inlines_emphasis.proofs.RunLaws.{matches_told}
use Rattle.doc_inlines_emphasis.proofs.run.Run.opens_for.Goals as goal

pub overflow_add-sum : goal.overflow_add-sum
overflow_add-sum c =
    let a : c.args.self.length % 3 < 3 = mod-lt c.args.self.length (omega arith) in
    let b : c.args.closer.length % 3 < 3 = mod-lt c.args.closer.length (omega arith) in
    omega arith

pub returns : goal.returns
returns c =
    matches_told c.args.self c.args.closer _ _ _ c.first_kind.ensures c.first_kind-2.ensures c.is_tilde.ensures
