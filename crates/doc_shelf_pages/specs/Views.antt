-- The lists that a reader is answered, of the reader's view alone: contents, backlinks, what a search finds, and broken links; as lists
-- and as the text that is sent. All of this is this project's choice.
use Rattle.std.specs.Prelude.{ℕ, List, map as mapped}
use Rattle.std.specs.List.{flat_map}
use Rattle.doc_index_tables.specs.Maps.{TextMap}
use Rattle.doc_links_pages.specs.Links.{backlinks, contents}
use Rattle.doc_links_pages.specs.PageLinks.{page_links}
use Rattle.doc_links_pages.specs.declared.answers.Broken.{Broken}
use Rattle.doc_links_pages.specs.declared.answers.Entry.{Entry}
use Rattle.doc_links_pages.specs.declared.page_links.PageLinks.{PageLinks}
use Rattle.doc_media.specs.Media.{Beside}
use Rattle.doc_media_links.specs.Images.{told_of}
use Rattle.doc_listings.specs.Listings.{backlinks_text, contents_text, hits_text, report_text}
use Rattle.doc_page_parts.specs.declared.rendered.Rendered.{Rendered}
use Rattle.doc_store_readers.specs.Sites.{View, goal_in}
use Rattle.doc_words_search.specs.Searches.{search}
use Rattle.doc_words_search.specs.Words.{word_counts}
use Rattle.doc_words_search.specs.declared.hit.Hit.{Hit}

-- what a renderer makes of each text
abbrev pub Renders : Type 0
Renders = List ℕ → Rendered

-- ---- the pages of a view, in the order of their paths

-- each with what the renderer makes of its text
abbrev pub rendered_pages : Renders → View → List (List ℕ × Rendered)
rendered_pages render view = mapped (λ page. (page.0, render page.1.text)) view.pages

-- what a page at a path links to, and its headings
abbrev pub links_in : List ℕ → Rendered → PageLinks
links_in path page = page_links path page.pieces page.headings

-- each with what it links to and its headings
abbrev pub linked_pages : Renders → View → List (List ℕ × PageLinks)
linked_pages render view = mapped (λ page. (page.0, links_in page.0 page.1)) (rendered_pages render view)

-- each with the counts of its words
abbrev pub counted_pages : Renders → View → List (List ℕ × TextMap ℕ)
counted_pages render view = mapped (λ page. (page.0, word_counts page.1)) (rendered_pages render view)

-- ---- lists

-- each page with its headings
abbrev pub contents_in : Renders → View → List Entry
contents_in render view = contents (linked_pages render view)

-- each page with links to the page at this path, by it or by an alias, and how many
abbrev pub backlinks_in : Renders → View → List ℕ → List (List ℕ × ℕ)
backlinks_in render view path = backlinks (goal_in view) (linked_pages render view) path

-- the best pages that have each of these words, with their scores
abbrev pub hits_in : Renders → View → List (List ℕ) → List Hit
hits_in render view words = search (counted_pages render view) words

-- page by page the links that are broken where these media are seen, and behind them the images that show nothing
abbrev pub broken_in : Renders → View → Beside → List Broken
broken_in render view media = flat_map (told_of (goal_in view) (linked_pages render view) media) (rendered_pages render view)

-- ---- bodies: the lists as text

abbrev pub contents_body : Renders → View → List ℕ
contents_body render view = contents_text (contents_in render view)

abbrev pub backlinks_body : Renders → View → List ℕ → List ℕ
backlinks_body render view path = backlinks_text (backlinks_in render view path)

abbrev pub search_body : Renders → View → List (List ℕ) → List ℕ
search_body render view words = hits_text (hits_in render view words)

abbrev pub report_body : Renders → View → Beside → List ℕ
report_body render view media = report_text (broken_in render view media)
