use Rattle.std.proofs.Common.{string_bytes}
use Rattle.doc_server_log.specs.RequestLines.{shown_method, shown_target}
use Rattle.doc_server_log.proofs.EscapingSteps.{request_written}
use Rattle.doc_server_log.proofs.PlainSteps.{method_plain}
use Rattle.doc_server_log.proofs.json_line.push_request.Goals as goal

pub returns : goal.returns
returns c =
    request_written (string_bytes c.args.out.now) _ _ _ _ _ (shown_method c.args.entry.now.method.now)
    (shown_target c.args.entry.now.target.now) (method_plain c.args.entry.now.method.now) c.in_ok-push_str.ensures.bytes
    c.in_ok-push_method.ensures c.in_ok-push_str-2.ensures.bytes c.in_ok-push_escaped_target.ensures c.in_ok-push_str-3.ensures.bytes
