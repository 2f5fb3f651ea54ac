use Rattle.std.proofs.Common.{◌++◌, string_bytes, ap, sym, ◌∙◌}
use Rattle.std.proofs.lemmas.Result.{on_ok_weaker}
use Rattle.doc_server_log.specs.RequestLines.{is_rooted}
use Rattle.doc_server_log.proofs.EscapingSteps.{other_target, rooted_target}
use Rattle.doc_server_log.proofs.json_line.push_escaped_target.Goals as goal

pub returns-then-is_rooted : goal.returns-then-is_rooted
returns-then-is_rooted c =
    on_ok_weaker c.push_escaped_path.result (λ is. is ∙ ap (λ text. string_bytes c.args.out.now ++ text)
    (rooted_target c.args.target.now c.as_bytes.result.now _ (c.as_bytes.ensures.value ∙ c.before_query-path.ensures)
    (c.is_rooted.ensures ∙ ap is_rooted (sym c.as_bytes.ensures.value)) c.if-is_rooted.true)) c.push_escaped_path.ensures

pub returns : goal.returns
returns c =
    c.in_ok-push_str.ensures.bytes ∙ ap (λ text. string_bytes c.args.out.now ++ text)
    (other_target c.args.target.now _ _ c.before_query-path.ensures c.is_rooted.ensures c.if-is_rooted.false)
