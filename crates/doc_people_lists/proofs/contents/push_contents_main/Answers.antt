use Rattle.std.proofs.Common.{◌++◌, ap, codes, string_bytes, take, ◌∙◌}
use Rattle.std.specs.Prelude.{slice_get}
use Rattle.doc_page_parts.specs.Escaping.{escaped}
use Rattle.doc_people.specs.Folders.{contents_href}
use Rattle.doc_people.specs.Lists.{contents_line, list_or_note, note_from, pager}
use Rattle.doc_people_lines.proofs.WriteSteps.{third_written}
use Rattle.doc_people_lists.proofs.contents.push_contents_main.Goals as goal

pub returns : goal.returns
returns g c =
    let render = g.V.Viewed.render c.args.view.now in
    let view = g.V.Viewed.view c.args.view.now in
    third_written c.push_contents_pager.result (codes "<h1>" ++ escaped c.args.title.now ++ codes "</h1>\n")
    (list_or_note (contents_line render view) (note_from c.args.from.now (codes "There is no page that you may read.")) (take 200 c.args.keys.now))
    (pager (contents_href c.args.folder.now) c.args.from.now (slice_get c.args.keys.now 200)) _ _ _ _
    c.in_ok-push_heading.ensures
    (c.in_ok-push_keys.ensures ∙ ap (λ ks. string_bytes c.push_heading.new.out ++ list_or_note (contents_line render view)
    (note_from c.args.from.now (codes "There is no page that you may read.")) ks) c.shown_keys.ensures)
    (rw c.next_key.ensures at c.push_contents_pager.ensures)
