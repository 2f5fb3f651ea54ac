use Rattle.std.specs.Prelude.{Some, string_bytes}
use Rattle.doc_people.specs.Folders.{keys}
use Rattle.doc_rows.specs.Looks.{from_text}
use Rattle.doc_rows.specs.Rows.{IsRows}
use Rattle.doc_rows_folders.proofs.ListLaws.{IsFound}
use Rattle.doc_rows_folders.proofs.keys.keys_from.Given as goal
use Rattle.doc_store_readers.specs.Sites.{Site, view_of}

-- those that are found, and those that are left
abbrev pub invariant-loop-turn : goal.invariant-loop-turn
invariant-loop-turn l = (site : Site) → IsRows site.pages l.rows
    → IsFound l.most l._turn l.found.items (from_text (string_bytes l.start) (keys (view_of site (Some l.reader)) l.folder))
    (from_text l.from (keys (view_of site (Some l.reader)) l.folder))
