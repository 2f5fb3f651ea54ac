use Rattle.std.proofs.Common.{codes}
use Rattle.doc_page_parts.specs.Escaping.{escaped}
use Rattle.doc_people_editing.proofs.WriteSteps.{threefold}
use Rattle.doc_people_editing.proofs.form.push_text_field.Goals as goal

pub returns : goal.returns
returns c =
    threefold (codes "<p><label for=\"text\">Text</label></p>\n<textarea id=\"text\" rows=\"24\" cols=\"80\">\n")
    (escaped c.args.text.now) (codes "</textarea>\n") _ _ _ _
    c.in_ok-push_str.ensures.bytes c.in_ok-push_escaped.ensures.ok c.in_ok-push_str-2.ensures.bytes
