-- Pages that are seen, as what is known of each.
use Rattle.std.specs.Prelude.{ℕ, List, map as mapped}
use Rattle.doc_links_pages.specs.declared.page_links.PageLinks.{PageLinks}
use Rattle.doc_links_seen.specs.declared.seen.SeenPage.{SeenPage}

abbrev pub seen_page : SeenPage → List ℕ × PageLinks
seen_page page = (page.path.now, page.known.now)

abbrev pub seen_pages : List SeenPage → List (List ℕ × PageLinks)
seen_pages pages = mapped seen_page pages
