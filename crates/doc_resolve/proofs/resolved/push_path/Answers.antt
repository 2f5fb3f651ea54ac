use Rattle.std.proofs.Common.{string_bytes}
use Rattle.doc_resolve.proofs.JoinSteps.{joined-none, joined-some}
use Rattle.doc_resolve.proofs.resolved.push_path.Goals as goal

pub returns-in_default : goal.returns-in_default
returns-in_default c = joined-none c.args.path.now (string_bytes c.args.out.now) c.in_default.ensures.cases

pub returns : goal.returns
returns c =
    joined-some c.args.path.now c.in-Some.first.now c.in-Some.others.now (string_bytes c.args.out.now) (string_bytes c.push_str.new.self)
    (string_bytes c.push_others.new.out) c.in-Some.ensures.cases.0 c.in_ok-push_str.ensures.bytes c.in_ok-push_others.ensures
