-- The lists that a server answers, as text. Each line ends with a line feed. All of this is this project's choice.
use Rattle.std.specs.Prelude.{ℕ, List, ◌++◌, codes, decimal, None}
use Rattle.std.specs.List.{flat_map}
use Rattle.doc_page_parts.specs.Escaping.{escaped}
use Rattle.doc_page_parts.specs.declared.rendered.Heading.{Heading}
use Rattle.doc_page_encoding.specs.Encoding.{encoded}
use Rattle.doc_resolve.specs.Hrefs.{page_href}
use Rattle.doc_links_pages.specs.declared.answers.Broken.{Broken}
use Rattle.doc_links_pages.specs.declared.answers.Entry.{Entry}
use Rattle.doc_links_pages.specs.declared.answers.Reason.{Reason}
use Rattle.doc_links_pages.specs.declared.answers.Reason.TheVariants as reasons
use Rattle.doc_words_search.specs.declared.hit.Hit.{Hit}

-- ---- contents, in HTML

-- what follows the address of a link in its line
abbrev pub link_text : List ℕ → List ℕ
link_text text = codes "\">" ++ escaped text ++ codes "</a></li>\n"

-- what stands before the text of the link to a page
abbrev pub page_start : List ℕ → List ℕ
page_start address = codes "<li><a href=\"" ++ address

-- a page, by the address that links to it have
abbrev pub page_line : List ℕ → List ℕ → List ℕ
page_line address path = page_start address ++ link_text path

-- what stands before the address of a heading
abbrev pub heading_start : ℕ → List ℕ
heading_start level = codes "<li class=\"h" ++ decimal level ++ codes "\"><a href=\""

-- the address of a heading, by its page's
abbrev pub heading_address : List ℕ → List ℕ → List ℕ
heading_address address anchor = address ++ codes "#" ++ encoded anchor

unfoldable pub heading_line : List ℕ → Heading → List ℕ
heading_line address heading =
    heading_start heading.level ++ heading_address address heading.anchor ++ link_text heading.text

-- a page, and then its headings
unfoldable pub entry_lines : Entry → List ℕ
entry_lines page =
    page_line (page_href page.path None) page.path ++ flat_map (heading_line (page_href page.path None)) page.headings

-- contents of pages, of each of which these are the lines
abbrev pub contents_of_lines : List (List ℕ) → List ℕ
contents_of_lines pages =
    codes "<!DOCTYPE html>\n<title>Contents</title>\n<ul>\n" ++ flat_map (λ lines. lines) pages ++ codes "</ul>\n"

-- contents of pages with their headings
abbrev pub contents_text : List Entry → List ℕ
contents_text pages =
    codes "<!DOCTYPE html>\n<title>Contents</title>\n<ul>\n" ++ flat_map entry_lines pages ++ codes "</ul>\n"

-- ---- backlinks

-- a page, and how many links it has
abbrev pub backlink_line : List ℕ × ℕ → List ℕ
backlink_line source = source.0 ++ codes "\t" ++ decimal source.1 ++ codes "\n"

unfoldable pub backlinks_text : List (List ℕ × ℕ) → List ℕ
backlinks_text sources = flat_map backlink_line sources

-- ---- a search

abbrev pub hit_line : Hit → List ℕ
hit_line hit = decimal hit.score ++ codes "\t" ++ hit.path ++ codes "\n"

unfoldable pub hits_text : List Hit → List ℕ
hits_text hits = flat_map hit_line hits

-- ---- broken links

abbrev pub reason_name : Reason → List ℕ
reason_name reasons.Page = codes "page"
reason_name reasons.Anchor = codes "anchor"
reason_name reasons.Path = codes "path"
reason_name reasons.Image = codes "image"

-- the page of a broken link, and its number there
abbrev pub place_of : Broken → List ℕ
place_of link = link.source ++ codes "\t" ++ decimal link.place ++ codes "\t"

-- the reason, and what it leads to
abbrev pub why : Broken → List ℕ
why link = reason_name link.reason ++ codes "\t" ++ link.target ++ codes "\n"

abbrev pub broken_line : Broken → List ℕ
broken_line link = place_of link ++ why link

unfoldable pub report_text : List Broken → List ℕ
report_text links = flat_map broken_line links
