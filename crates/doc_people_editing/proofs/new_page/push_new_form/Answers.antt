use Rattle.std.proofs.Common.{codes}
use Rattle.doc_page_parts.specs.Escaping.{escaped}
use Rattle.doc_people_editing.specs.declared.new_page.TheConstants.{FORM_END}
use Rattle.doc_people_editing.proofs.WriteSteps.{threefold}
use Rattle.doc_people_editing.proofs.new_page.push_new_form.Goals as goal

pub returns : goal.returns
returns c =
    threefold (codes "<form id=\"new\" autocomplete=\"off\"><p><label>Path <input id=\"path\" value=\"") (escaped c.args.folder.now)
    FORM_END.now _ _ _ _
    c.in_ok-push_str.ensures.bytes c.in_ok-push_escaped.ensures.ok c.in_ok-push_str-2.ensures.bytes
