use Rattle.std.proofs.Common.{ℕ, ◌++◌, string_bytes, ap, sym, ◌∙◌}
use Rattle.std.specs.Prelude.{Option}
use Rattle.doc_server_log.specs.JsonLines.{time_value}
use Rattle.doc_server_log.specs.Moments.{rfc3339}
use Rattle.doc_server_log.proofs.EscapingSteps.{string_written}
use Rattle.doc_server_log.proofs.PlainSteps.{moment_plain}
use Rattle.doc_server_log.proofs.json_line.push_time.Goals as goal

pub returns : goal.returns
returns c =
    string_written (string_bytes c.args.out.now) _ _ _ (rfc3339 c.in-Some.time) (moment_plain c.in-Some.time)
    c.in_ok-push_str-2.ensures.bytes c.in_ok-push.ensures c.in_ok-push_str-3.ensures.bytes
    ∙ ap (λ (time : Option ℕ). string_bytes c.args.out.now ++ time_value time) (sym c.in-Some.is)
