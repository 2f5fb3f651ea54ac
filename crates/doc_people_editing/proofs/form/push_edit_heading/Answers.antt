use Rattle.std.proofs.Common.{codes}
use Rattle.doc_page_parts.specs.Escaping.{escaped}
use Rattle.doc_people.specs.Lines.{link}
use Rattle.doc_people_editing.specs.EditPage.{source_href}
use Rattle.doc_people_editing.proofs.WriteSteps.{fivefold}
use Rattle.doc_people_editing.proofs.form.push_edit_heading.Goals as goal

pub returns : goal.returns
returns c =
    fivefold (codes "<h1>") (escaped c.args.path.now)
    (codes "</h1>\n<noscript><p>Saving takes the script of this page. Without it, ")
    (link (source_href c.args.path.now) (codes "the source"))
    (codes " is read and written by programs.</p></noscript>\n") _ _ _ _ _ _
    c.in_ok-push_str.ensures.bytes c.in_ok-push_escaped.ensures.ok c.in_ok-push_str-2.ensures.bytes c.in_ok-push_source_link.ensures
    c.in_ok-push_str-3.ensures.bytes
