use Rattle.std.proofs.Common.{codes, string_bytes}
use Rattle.doc_server_token.proofs.RowSteps.{five_written}
use Rattle.doc_server_token.proofs.row.push_some_groups.Goals as goal

pub returns : goal.returns
returns c =
    five_written (string_bytes c.args.out.now) (codes "groups = [\"") c.args.first.now (codes "\"") _ (codes "]\n") _ _ _ _ _
    c.in_ok-push_str.ensures.bytes c.in_ok-push_str-2.ensures.bytes c.in_ok-push_str-3.ensures.bytes c.in_ok-push_others.ensures
    c.in_ok-push_str-4.ensures.bytes
