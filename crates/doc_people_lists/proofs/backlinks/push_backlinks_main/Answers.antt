use Rattle.std.proofs.Common.{◌++◌, ap, codes, string_bytes, take, ◌∙◌}
use Rattle.std.specs.Prelude.{option_map, slice_get}
use Rattle.doc_people.specs.Folders.{label, page_href}
use Rattle.doc_people.specs.Lines.{link}
use Rattle.doc_people.specs.Lists.{backlink_line, list_or_note, note_from, pager}
use Rattle.doc_people.specs.Pages.{backlinks_href}
use Rattle.doc_people_lines.proofs.WriteSteps.{third_written}
use Rattle.doc_people_lists.proofs.backlinks.push_backlinks_main.Goals as goal

pub returns : goal.returns
returns g c =
    let render = g.V.Viewed.render c.args.view.now in
    let view = g.V.Viewed.view c.args.view.now in
    third_written c.push_backlinks_pager.result
    (codes "<h1>Pages that link to " ++ link (page_href c.args.path.now) (label render view c.args.path.now) ++ codes "</h1>\n")
    (list_or_note (backlink_line render view) (note_from c.args.from.now (codes "No other page links here.")) (take 200 c.args.sources.now))
    (pager (backlinks_href c.args.path.now) c.args.from.now (option_map (λ source. source.0) (slice_get c.args.sources.now 200))) _ _ _ _
    c.in_ok-push_heading.ensures
    (c.in_ok-push_sources.ensures ∙ ap (λ xs. string_bytes c.push_heading.new.out ++ list_or_note (backlink_line render view)
    (note_from c.args.from.now (codes "No other page links here.")) xs) c.shown_sources.ensures)
    (rw c.next_source.ensures at c.push_backlinks_pager.ensures)
