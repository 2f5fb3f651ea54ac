use Rattle.std.proofs.Common.{◌≡◌, drop}
use Rattle.doc_server_restore.specs.Restores.{unstamped}
use Rattle.doc_server_files.specs.Compacting.{stored_pages}
use Rattle.doc_server_files.proofs.site_store.put_pages.Given as goal

-- the pages so far are put, and those behind them are left, with the texts of their files
abbrev pub invariant-pages : goal.invariant-pages
invariant-pages l = record {
  stored : stored_pages (unstamped l.fn.store) l.pages l.texts
      ≡ stored_pages (unstamped l.store) (drop l.page-index l.pages) l.left;
}
