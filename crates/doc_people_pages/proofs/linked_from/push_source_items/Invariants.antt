use Rattle.std.proofs.Common.{◌≡◌, ◌++◌, take, string_bytes}
use Rattle.std.specs.List.{flat_map}
use Rattle.doc_people.specs.Pages.{source_item}
use Rattle.doc_people_pages.proofs.linked_from.push_source_items.Given as goal

-- the pages so far are written
abbrev pub invariant-loop-source : goal.invariant-loop-source
invariant-loop-source g l = string_bytes l.out ≡ string_bytes l.fn.out
    ++ flat_map (source_item (g.V.Viewed.render l.view) (g.V.Viewed.view l.view)) (take l.source-index l.sources)
