use Rattle.std.proofs.Common.{rules, string_bytes}
use Rattle.std.proofs.lemmas.Str.{IsUtf8-string_bytes, chars-append}
use Rattle.doc_lines.proofs.pushing.push_text.Goals as goal

pub returns-clause-ok : goal.returns-clause-ok
returns-clause-ok c =
    let pushed : _ = chars-append (string_bytes c.args.out.now) c.args.text.now (IsUtf8-string_bytes c.args.out.now) in
    search rules
