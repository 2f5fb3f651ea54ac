use Rattle.std.proofs.Common.{codes}
use Rattle.doc_people.specs.Folders.{page_href}
use Rattle.doc_people.specs.Lines.{link}
use Rattle.doc_people_editing.proofs.WriteSteps.{threefold}
use Rattle.doc_people_editing.proofs.form.push_edit_buttons.Goals as goal

pub returns : goal.returns
returns c =
    threefold
    (codes "<p><button disabled>Save</button> <button id=\"show\" type=\"button\" disabled>Preview</button> ")
    (link (page_href c.args.path.now) (codes "The page")) (codes "</p>\n<p id=\"said\" role=\"status\"></p>\n") _ _ _ _
    c.in_ok-push_str.ensures.bytes c.in_ok-push_page_link.ensures c.in_ok-push_str-2.ensures.bytes
