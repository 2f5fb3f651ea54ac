use Rattle.std.proofs.Common.{string_bytes}
use Rattle.doc_server_log.specs.JsonLines.{asking_members, reply_members, request_members, time_value}
use Rattle.doc_server_log.proofs.EscapingSteps.{line_written}
use Rattle.doc_server_log.proofs.LineSteps.{is_a_line}
use Rattle.doc_server_log.proofs.json_line.push_json.Goals as goal

pub returns-clause-written : goal.returns-clause-written
returns-clause-written c =
    line_written (string_bytes c.args.out.now) _ _ _ _ _ _ (time_value c.args.entry.now.time) (asking_members c.args.entry.now)
    (request_members c.args.entry.now) (reply_members c.args.entry.now) c.in_ok-push_str.ensures.bytes c.in_ok-push_time.ensures
    c.in_ok-push_asking.ensures.written c.in_ok-push_request.ensures c.in_ok-push_reply.ensures c.in_ok-push_str-2.ensures.bytes

pub returns-clause-one_line : goal.returns-clause-one_line
returns-clause-one_line c = is_a_line c.args.entry.now c.in_ok-push_asking.ensures.named
