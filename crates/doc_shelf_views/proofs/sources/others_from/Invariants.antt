use Rattle.std.specs.Prelude.{Some, map as mapped, string_bytes}
use Rattle.doc_rows.specs.Looks.{from_text}
use Rattle.doc_rows_folders.proofs.ListLaws.{IsFound}
use Rattle.doc_rows_links.specs.LinkRows.{IsLinkRows, Linking}
use Rattle.doc_shelf_views.proofs.sources.others_from.Given as goal
use Rattle.doc_shelf_views.specs.Sources.{others_writing}
use Rattle.doc_store_readers.specs.Sites.{Site, view_of}

-- those that are found, and those that are left
abbrev pub invariant-loop-turn : goal.invariant-loop-turn
invariant-loop-turn l = (linking : Linking) (site : Site) → IsLinkRows linking site.pages l.link_rows
    → IsFound l.most l._turn l.found.items (from_text (string_bytes l.start)
    (others_writing linking (view_of site (Some l.reader)) (mapped (λ name. name.now) l.target.names.now) l.target.path.now))
    (from_text l.from (others_writing linking (view_of site (Some l.reader)) (mapped (λ name. name.now) l.target.names.now)
    l.target.path.now))
