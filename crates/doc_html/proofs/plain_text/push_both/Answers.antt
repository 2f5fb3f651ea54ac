use Rattle.std.proofs.Common.{string_bytes}
use Rattle.std.proofs.lemmas.Str.{IsUtf8-string_bytes}
use Rattle.doc_html.proofs.PlainTextSteps.{both_pushed}
use Rattle.doc_html.proofs.plain_text.push_both.Goals as goal

pub returns : goal.returns
returns c =
    both_pushed (string_bytes c.args.out.now) (string_bytes c.push_characters.new.out) _ (IsUtf8-string_bytes c.args.out.now)
    (IsUtf8-string_bytes c.push_characters.new.out) c.in_ok-push_characters.ensures.ok
