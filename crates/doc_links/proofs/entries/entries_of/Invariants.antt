use Rattle.std.proofs.Common.{◌≡◌, map, take}
use Rattle.doc_links_pages.specs.Links.{entry_of}
use Rattle.doc_links_seen.specs.SeenPages.{seen_page}
use Rattle.doc_links.proofs.entries.entries_of.Given as goal

-- the pages so far
abbrev pub invariant-loop-page : goal.invariant-loop-page
invariant-loop-page l = l.all.items ≡ map entry_of (map seen_page (take l.page-index l.pages))
