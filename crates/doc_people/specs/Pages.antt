-- The page for people that shows a page of the site. All of this is this project's choice.
use Rattle.std.specs.Prelude.{ℕ, List, [], ◌∷◌, ◌++◌, length, take, filter, Bool, not, ◌&&◌, ◌==◌, nat_le, nat_lt}
use Rattle.std.specs.Prelude.{codes, decimal, Option, Some, None, if◌then◌else◌}
use Rattle.std.specs.List.{flat_map, list_any}
use Rattle.doc_page_parts.specs.Escaping.{escaped}
use Rattle.doc_page_parts.specs.Pages.{filled, is_empty}
use Rattle.doc_page_parts.specs.declared.rendered.Heading.{Heading}
use Rattle.doc_page_parts.specs.declared.rendered.Rendered.{Rendered}
use Rattle.doc_page_encoding.specs.Encoding.{encoded, encoded_path}
use Rattle.doc_media.specs.Media.{Beside}
use Rattle.doc_media_links.specs.MediaLinks.{shown_beside}
use Rattle.doc_store_readers.specs.Sites.{View, goal_in}
use Rattle.doc_people.specs.Folders.{first_text, label, page_href, short, title_by}
use Rattle.doc_people.specs.Inert.{inert}
use Rattle.doc_people.specs.Limits.{aside_limit, heading_limit, level_limit}
use Rattle.doc_people.specs.Lines.{item, link, listed}
use Rattle.doc_people.specs.Shell.{shell}
use Rattle.doc_people.specs.Sources.{sources_of}
use Rattle.doc_people.specs.Views.{Renders}
use Rattle.doc_people.specs.declared.settings.Browse.{Browse}
use Rattle.doc_people.specs.declared.settings.Offers.{Offers}

-- ---- the main part

-- a heading has a text
abbrev pub has_text : Heading → Bool
has_text heading = not (is_empty heading.text)

-- a heading of level 1 that has a text
abbrev pub is_main : Heading → Bool
is_main heading = heading.level == 1 && has_text heading

-- where no heading is of level 1: the text of the first heading for those who hear the page, or else the path for all
abbrev pub heading_by : List ℕ → Option (List ℕ) → List ℕ
heading_by path None = codes "<h1>" ++ escaped path ++ codes "</h1>\n"
heading_by path (Some text) = codes "<h1 class=\"sr\">" ++ escaped text ++ codes "</h1>\n"

-- the heading of level 1 that the page itself hasn't
abbrev pub heading_line : List ℕ → List Heading → List ℕ
heading_line path headings = if list_any is_main headings then [] else heading_by path (first_text headings)

-- the page's own HTML, with its links as the reader sees them, to pages and to media
abbrev pub body : View → Beside → List ℕ → Rendered → List ℕ
body view media path page = inert (filled (shown_beside (goal_in view) media path) page)

-- the page, between its tags
abbrev pub article : View → Beside → List ℕ → Rendered → List ℕ
article view media path page =
    codes "<article>\n" ++ heading_line path page.headings ++ body view media path page ++ codes "</article>\n"

-- ---- what stands beside: the headings of the page

-- headings without the first one, where that is of level 1 and so the page's title
abbrev pub behind_title : List Heading → List Heading
behind_title [] = []
behind_title (heading ∷ rest) = if heading.level == 1 then rest else heading ∷ rest

-- the headings that are listed: with a text, without the title, and not too deep
abbrev pub listed_headings : List Heading → List Heading
listed_headings headings =
    take heading_limit (filter (λ heading. nat_le heading.level level_limit) (behind_title (filter has_text headings)))

-- a heading that is listed
abbrev pub heading_item : Heading → List ℕ
heading_item heading =
    codes "<li class=\"h" ++ decimal heading.level ++ codes "\">"
    ++ link (codes "#" ++ encoded heading.anchor) (short heading.text) ++ codes "</li>\n"

-- nothing where none is listed
abbrev pub on_this_page : List Heading → List ℕ
on_this_page [] = []
on_this_page (heading ∷ rest) = codes "<h2>On this page</h2>\n" ++ listed (flat_map heading_item (heading ∷ rest))

-- ---- and the pages that link to it

-- the address of the list of all pages that link to one
abbrev pub backlinks_href : List ℕ → List ℕ
backlinks_href path = codes "/backlinks/" ++ encoded_path path

-- a page that links to the one
abbrev pub source_item : Renders → View → List ℕ × ℕ → List ℕ
source_item render view source = item (link (page_href source.0) (label render view source.0))

-- where there are more than are shown: all
abbrev pub all_sources_line : List ℕ → List (List ℕ × ℕ) → List ℕ
all_sources_line path sources =
    if nat_lt aside_limit (length sources) then codes "<p>" ++ link (backlinks_href path) (codes "All that link here") ++ codes "</p>\n"
    else []

-- nothing where there is none
abbrev pub linked_from : Renders → View → List ℕ → List (List ℕ × ℕ) → List ℕ
linked_from render view path [] = []
linked_from render view path (source ∷ rest) =
    codes "<h2>Linked from</h2>\n" ++ listed (flat_map (source_item render view) (take aside_limit (source ∷ rest)))
    ++ all_sources_line path (source ∷ rest)

-- what stands beside the page: nothing where both parts are empty
abbrev pub beside : Renders → View → List ℕ → Rendered → List ℕ
beside render view path page =
    on_this_page (listed_headings page.headings) ++ linked_from render view path (sources_of render view path)

-- ---- the page

-- the page at this path, of which the renderer makes this
unfoldable pub page_body : Renders → Browse → Offers → View → Beside → List ℕ → Rendered → List ℕ
page_body render settings offers view media path page =
    shell render settings offers view (short (title_by path (first_text page.headings))) (Some path)
    (article view media path page) (beside render view path page)
