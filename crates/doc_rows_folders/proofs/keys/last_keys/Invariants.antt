use Rattle.std.specs.Prelude.{Some, string_bytes}
use Rattle.doc_people.specs.Folders.{keys}
use Rattle.doc_rows.specs.Looks.{before_text}
use Rattle.doc_rows.specs.Rows.{IsRows}
use Rattle.doc_rows_folders.proofs.ListLaws.{IsFoundBack}
use Rattle.doc_rows_folders.proofs.keys.last_keys.Given as goal
use Rattle.doc_store_readers.specs.Sites.{Site, view_of}

-- those that are found, and those that are left
abbrev pub invariant-loop-turn : goal.invariant-loop-turn
invariant-loop-turn l = (site : Site) → IsRows site.pages l.rows
    → IsFoundBack l.most l._turn l.found.items (before_text (string_bytes l.end) (keys (view_of site (Some l.reader)) l.folder))
    (before_text l.before (keys (view_of site (Some l.reader)) l.folder))
