use Rattle.std.proofs.Common.{◌≡◌, take, string_bytes}
use Rattle.std.specs.Prelude.{Some, map as mapped, option_copied}
use Rattle.doc_rows.specs.Looks.{first_from}
use Rattle.doc_rows_links.specs.LinkRows.{IsLinkRows, Linking}
use Rattle.doc_shelf_views.proofs.sources.first_writing.Given as goal
use Rattle.doc_shelf_views.specs.Sources.{paths_writing_one}
use Rattle.doc_store_readers.specs.Sites.{Site, view_of}

-- that of the names so far
abbrev pub invariant-loop-name : goal.invariant-loop-name
invariant-loop-name l = (linking : Linking) (site : Site) → IsLinkRows linking site.pages l.link_rows
    → option_copied l.best ≡ first_from (string_bytes l.start)
    (paths_writing_one linking (view_of site (Some l.reader)) (mapped (λ name. name.now) (take l.name-index l.names)))
