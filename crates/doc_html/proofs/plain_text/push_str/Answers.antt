use Rattle.std.proofs.Common.{string_bytes}
use Rattle.doc_html.proofs.PlainTextSteps.{text_pushed}
use Rattle.doc_html.proofs.plain_text.push_str.Goals as goal

pub returns : goal.returns
returns c = text_pushed (string_bytes c.args.out.now) _ c.args.text.now c.utf8.text c.in_ok-push_str.ensures.bytes
