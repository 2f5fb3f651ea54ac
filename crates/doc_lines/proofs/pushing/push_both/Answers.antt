use Rattle.std.proofs.Common.{string_bytes}
use Rattle.std.proofs.lemmas.Str.{IsUtf8-string_bytes}
use Rattle.doc_lines.proofs.Pushes.{chars_pushed_both}
use Rattle.doc_lines.proofs.pushing.push_both.Goals as goal

pub returns-clause-ok : goal.returns-clause-ok
returns-clause-ok c =
    chars_pushed_both (string_bytes c.args.out.now) _ _ _ c.args.first c.args.second (IsUtf8-string_bytes c.reserve.new.self)
    (IsUtf8-string_bytes c.push.new.self) c.ranges.first.0 c.ranges.second.0
    c.in_ok-reserve.ensures.bytes c.in_ok-push.ensures.bytes c.in_ok-push-2.ensures.bytes
