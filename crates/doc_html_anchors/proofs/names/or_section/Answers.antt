use Rattle.std.proofs.Common.{rules, ◌∙◌, string_bytes}
use Rattle.std.proofs.lemmas.Str.{IsUtf8-string_bytes}
use Rattle.doc_html_anchors.proofs.NameLaws.{section, stays, written}
use Rattle.doc_html_anchors.proofs.names.or_section.Goals as goal

pub returns-then-is_empty : goal.returns-then-is_empty
returns-then-is_empty c = written (string_bytes c.in_ok-from_str.field-0) (search rules)
    ∙ section (string_bytes c.args.name) _ (search rules) c.if-is_empty.true

pub returns : goal.returns
returns c = stays (string_bytes c.args.name) _ (IsUtf8-string_bytes c.args.name) (search rules) c.if-is_empty.false
