use Rattle.std.proofs.Common.{codes}
use Rattle.doc_page_parts.specs.Escaping.{escaped}
use Rattle.doc_people_editing.proofs.WriteSteps.{threefold}
use Rattle.doc_people_editing.proofs.form.push_groups_field.Goals as goal

pub returns : goal.returns
returns c =
    threefold (codes "<p><label>Groups <input id=\"groups\" value=\"") (escaped c.args.groups.now)
    (codes "\" size=\"40\"></label> names with commas between; with none, owners alone see the page</p>\n") _ _ _ _
    c.in_ok-push_str.ensures.bytes c.in_ok-push_escaped.ensures.ok c.in_ok-push_str-2.ensures.bytes
