use Rattle.std.proofs.Common.{◌++◌, ap, codes, string_bytes, ◌∙◌}
use Rattle.doc_people.specs.Folders.{edit_href, folder_of}
use Rattle.doc_people.specs.Lines.{link}
use Rattle.doc_people.specs.Shell.{edit_link}
use Rattle.doc_people_lines.proofs.WriteSteps.{fourfold}
use Rattle.doc_people_shell.proofs.tools.push_tools_at.Goals as goal

pub returns : goal.returns
returns c =
    fourfold (codes "<p class=\"tools\">\n") (edit_link c.args.place.now)
    (link (edit_href (folder_of c.args.place.now)) (codes "New page")) (codes "\n</p>\n") _ _ _ _ _
    c.in_ok-push_str.ensures.bytes
    c.in_ok-push_page_tool.ensures
    (c.in_ok-push_edit_link.ensures
    ∙ ap (λ f. string_bytes c.push_page_tool.new.out ++ link (edit_href f) (codes "New page")) c.folder_of.ensures)
    c.in_ok-push_str-2.ensures.bytes
