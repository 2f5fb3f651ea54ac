-- The pages for people that list what a reader sees: the contents of a folder, and the pages that link to one. A list is shown from a text
-- on, which the request names. All of this is this project's choice.
use Rattle.std.specs.Prelude.{ℕ, List, [], ◌∷◌, ◌++◌, take, filter, Bool, not, ◌&&◌, ◌==◌, is_some, codes, decimal, Option, Some, None, option_map, slice_get}
use Rattle.std.specs.Prelude.{if◌then◌else◌}
use Rattle.std.specs.List.{flat_map}
use Rattle.doc_page_parts.specs.Escaping.{escaped}
use Rattle.doc_page_parts.specs.Pages.{is_empty}
use Rattle.doc_page_encoding.specs.Encoding.{encoded}
use Rattle.doc_store_readers.specs.Sites.{View}
use Rattle.doc_people.specs.Folders.{contents_href, folder_label, folder_of, is_folder, keys, label, page_href}
use Rattle.doc_people.specs.Limits.{list_limit}
use Rattle.doc_people.specs.Lines.{folder_item, item, link}
use Rattle.doc_people.specs.Navigation.{is_before}
use Rattle.doc_people.specs.Pages.{backlinks_href}
use Rattle.doc_people.specs.Shell.{shell}
use Rattle.doc_people.specs.Sources.{sources_of}
use Rattle.doc_people.specs.Views.{Renders}
use Rattle.doc_people.specs.declared.settings.Browse.{Browse}
use Rattle.doc_people.specs.declared.settings.Offers.{Offers}

-- ---- lines, and the parts of a list

-- a path or a folder behind the link to it
abbrev pub path_span : List ℕ → List ℕ
path_span path = codes " <span class=\"path\">" ++ escaped path ++ codes "</span>"

-- a link to a page, and its path
abbrev pub page_and_path : Renders → View → List ℕ → List ℕ
page_and_path render view path = link (page_href path) (label render view path) ++ path_span path

-- a page, its path, and what is said of it
abbrev pub page_line : Renders → View → List ℕ → List ℕ → List ℕ
page_line render view path behind = item (page_and_path render view path ++ behind)

-- those that don't come before a text, by the text that each is found under
abbrev pub from_on : {X : Type 0} → (X → List ℕ) → List ℕ → List X → List X
from_on text from entries = filter (λ entry. not (is_before (text entry) from)) entries

-- the lines of entries as a list, or in its place that there are none
abbrev pub list_or_note : {X : Type 0} → (X → List ℕ) → List ℕ → List X → List ℕ
list_or_note line note [] = note
list_or_note line note (entry ∷ rest) = codes "<ul class=\"list\">\n" ++ flat_map line (entry ∷ rest) ++ codes "</ul>\n"

-- what is said of a list that has nothing from a text on, by what is said of one that has nothing at all
abbrev pub note_from : List ℕ → List ℕ → List ℕ
note_from [] note = codes "<p>" ++ note ++ codes "</p>\n"
note_from (b ∷ from) note = codes "<p>Nothing follows.</p>\n"

-- where the list doesn't begin at its start
abbrev pub start_link : List ℕ → List ℕ → List ℕ
start_link address [] = []
start_link address (b ∷ from) = codes "<a href=\"" ++ address ++ codes "\">From the start</a>\n"

-- where the list goes on
abbrev pub more_link : List ℕ → Option (List ℕ) → List ℕ
more_link address None = []
more_link address (Some next) = codes "<a href=\"" ++ address ++ codes "?from=" ++ encoded next ++ codes "\" rel=\"next\">More</a>\n"

-- nothing stands before the part of a list that begins at `from`, and nothing behind it
abbrev pub is_whole : List ℕ → Option (List ℕ) → Bool
is_whole from next = is_empty from && not (is_some next)

-- the links to the other parts of the list at an address: the part that begins at `from` is shown, and `next` is the text behind it
abbrev pub pager : List ℕ → List ℕ → Option (List ℕ) → List ℕ
pager address from next =
    if is_whole from next then []
    else codes "<nav class=\"pager\" aria-label=\"Parts of this list\">\n" ++ start_link address from ++ more_link address next
    ++ codes "</nav>\n"

-- ---- the contents of a folder

-- the title of the contents of a folder
abbrev pub contents_title : Renders → View → List ℕ → List ℕ
contents_title render view [] = codes "Contents"
contents_title render view (b ∷ folder) = folder_label render view (b ∷ folder)

-- a page or a folder
abbrev pub contents_line : Renders → View → List ℕ → List ℕ
contents_line render view key =
    if is_folder key then folder_item (link (contents_href key) (folder_label render view key) ++ path_span key)
    else page_line render view key []

-- what stands in the folder from a text on
abbrev pub contents_from : View → List ℕ → List ℕ → List (List ℕ)
contents_from view folder from = from_on (λ key. key) from (keys view folder)

-- the main part, of what stands in the folder from a text on
abbrev pub contents_main : Renders → View → List ℕ → List ℕ → List (List ℕ) → List ℕ
contents_main render view folder from keys =
    codes "<h1>" ++ escaped (contents_title render view folder) ++ codes "</h1>\n"
    ++ list_or_note (contents_line render view) (note_from from (codes "There is no page that you may read.")) (take list_limit keys)
    ++ pager (contents_href folder) from (slice_get keys list_limit)

-- the contents of a folder from a text on
unfoldable pub contents_body : Renders → Browse → Offers → View → List ℕ → List ℕ → List ℕ
contents_body render settings offers view folder from =
    shell render settings offers view (contents_title render view folder) (Some folder)
    (contents_main render view folder from (contents_from view folder from)) []

-- ---- the pages that link to one

-- how many links there are
abbrev pub link_count : ℕ → List ℕ
link_count n = codes " " ++ decimal n ++ (if n == 1 then codes " link" else codes " links")

-- a page that links to the one, with the number of its links
abbrev pub backlink_line : Renders → View → List ℕ × ℕ → List ℕ
backlink_line render view source = page_line render view source.0 (link_count source.1)

-- the sources from a text on
abbrev pub sources_from : Renders → View → List ℕ → List ℕ → List (List ℕ × ℕ)
sources_from render view path from = from_on (λ source. source.0) from (sources_of render view path)

-- the main part, of the pages that link to the one from a text on
abbrev pub backlinks_main : Renders → View → List ℕ → List ℕ → List (List ℕ × ℕ) → List ℕ
backlinks_main render view path from sources =
    codes "<h1>Pages that link to " ++ link (page_href path) (label render view path) ++ codes "</h1>\n"
    ++ list_or_note (backlink_line render view) (note_from from (codes "No other page links here.")) (take list_limit sources)
    ++ pager (backlinks_href path) from (option_map (λ source. source.0) (slice_get sources list_limit))

-- the pages that link to the page at this path, from a text on
unfoldable pub backlinks_body : Renders → Browse → Offers → View → List ℕ → List ℕ → List ℕ
backlinks_body render settings offers view path from =
    shell render settings offers view (codes "Pages that link to " ++ label render view path) (Some (folder_of path))
    (backlinks_main render view path from (sources_from render view path from)) []
