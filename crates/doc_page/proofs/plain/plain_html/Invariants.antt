use Rattle.std.proofs.Common.{◌≡◌, take, string_bytes}
use Rattle.doc_page.specs.Plain.{plain_html}
use Rattle.doc_page.proofs.plain.plain_html.Given as goal

-- the paragraphs so far are written
abbrev pub invariant-loop-text : goal.invariant-loop-text
invariant-loop-text l = string_bytes l.html ≡ plain_html (take l.text-index l.texts)
