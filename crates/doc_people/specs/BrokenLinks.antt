-- The page for people that lists broken links, source by source. All of this is this project's choice.
use Rattle.std.specs.Prelude.{ℕ, ◌-◌, List, [], ◌∷◌, ◌++◌, length, take, Bool, true, false, nat_lt, bytes_eq, codes, decimal, None}
use Rattle.std.specs.Prelude.{◌==◌, ◌&&◌, option_map, slice_get, unwrap_or, if◌then◌else◌}
use Rattle.std.specs.List.{after_first, before_first, flat_map}
use Rattle.doc_links_pages.specs.declared.answers.Broken.{Broken}
use Rattle.doc_links_pages.specs.declared.answers.Reason.{Reason}
use Rattle.doc_links_pages.specs.declared.answers.Reason.TheVariants as reasons
use Rattle.doc_media.specs.Media.{Beside}
use Rattle.doc_page_parts.specs.Escaping.{escaped}
use Rattle.doc_page_parts.specs.Paths.{is_path}
use Rattle.doc_resolve.specs.Links.{decoded_text}
use Rattle.doc_store_readers.specs.Sites.{View, goal_in}
use Rattle.doc_people.specs.Folders.{edit_href, page_href, short}
use Rattle.doc_people.specs.KeptPaths.{may_begin}
use Rattle.doc_people.specs.Limits.{link_limit, source_limit}
use Rattle.doc_people.specs.Lines.{link}
use Rattle.doc_people.specs.Lists.{from_on, note_from, page_and_path, pager}
use Rattle.doc_people.specs.Shell.{shell}
use Rattle.doc_people.specs.Sources.{broken_links}
use Rattle.doc_people.specs.Views.{Renders}
use Rattle.doc_people.specs.declared.settings.Browse.{Browse}
use Rattle.doc_people.specs.declared.settings.Offers.{Offers}

-- ---- a broken link

-- the byte before an anchor
abbrev pub is_hash : ℕ → Bool
is_hash b = b == 35

-- the path that a link writes
abbrev pub written_path : List ℕ → List ℕ
written_path target = before_first is_hash target

-- and the anchor behind its `#`, decoded
abbrev pub written_anchor : List ℕ → List ℕ
written_anchor target = decoded_text (after_first is_hash target)

-- the page that a path leads to; a text that is no path leads to none
abbrev pub goal_href : View → List ℕ → List ℕ
goal_href view path = page_href (if is_path path then unwrap_or (goal_in view path) path else path)

-- U+2013, where a link writes no path
abbrev pub dash : List ℕ
dash = 0xE2 ∷ 0x80 ∷ 0x93 ∷ []

-- a heading that isn't there, and a link to the page that it isn't in
abbrev pub missing_heading : View → List ℕ → List ℕ → List ℕ
missing_heading view path anchor =
    codes "<a href=\"" ++ goal_href view path ++ codes "\"><code>" ++ escaped path ++ codes "#" ++ escaped (short anchor)
    ++ codes "</code></a>"

-- where a page may be begun: what begins the one that isn't there
abbrev pub begin_link : Bool → List ℕ → List ℕ
begin_link false path = []
begin_link true path = codes " " ++ link (edit_href path) (codes "New page")

-- a page that isn't there, which may be begun where tools are offered, unless its path is kept for media
abbrev pub missing_page : Offers → View → Beside → List ℕ → List ℕ
missing_page offers view media path =
    codes "<code>" ++ escaped path ++ codes "</code>" ++ begin_link (offers.tools && may_begin view media path) path

-- the path that an image writes, or that it writes none
abbrev pub image_cell : List ℕ → List ℕ
image_cell target = if bytes_eq target (codes "-") then dash else codes "<code>" ++ escaped target ++ codes "</code>"

-- what the link leads to, by the reason that it is broken for
abbrev pub goal_cell : Offers → View → Beside → Reason → List ℕ → List ℕ
goal_cell offers view media reasons.Page target = missing_page offers view media target
goal_cell offers view media reasons.Anchor target = missing_heading view (written_path target) (written_anchor target)
goal_cell offers view media reasons.Path target = dash
goal_cell offers view media reasons.Image target = image_cell target

-- why the link is broken
abbrev pub reason_text : Reason → List ℕ
reason_text reasons.Page = codes "no such page"
reason_text reasons.Anchor = codes "no such heading"
reason_text reasons.Path = codes "no path of a page"
reason_text reasons.Image = codes "no such picture"

-- a broken link: its place on its page, what it leads to, and why it is broken
abbrev pub broken_row : Offers → View → Beside → Broken → List ℕ
broken_row offers view media link =
    codes "<tr><td>" ++ decimal link.place ++ codes "</td><td>" ++ goal_cell offers view media link.reason link.target
    ++ codes "</td><td>" ++ reason_text link.reason ++ codes "</td></tr>\n"

-- ---- a page with broken links

-- a page and its broken links
abbrev pub Group : Type 0
Group = List ℕ × List Broken

-- a link before those of pages that stand behind it: among the first one's, where it is a link of that page
abbrev pub onto_group : Broken → List Group → List Group
onto_group link [] = (link.source, link ∷ []) ∷ []
onto_group link (group ∷ groups) =
    if bytes_eq group.0 link.source then (group.0, link ∷ group.1) ∷ groups else (link.source, link ∷ []) ∷ group ∷ groups

-- the broken links page by page, in the order that they stand in
abbrev pub by_source : List Broken → List Group
by_source [] = []
by_source (link ∷ links) = onto_group link (by_source links)

-- how many there are behind those that are shown
abbrev pub more_row : List Broken → List ℕ
more_row links =
    if nat_lt link_limit (length links)
    then codes "<tr><td colspan=\"3\">and " ++ decimal (length links - link_limit) ++ codes " more</td></tr>\n" else []

-- the page that has the links
abbrev pub source_row : Renders → View → List ℕ → List ℕ
source_row render view source =
    codes "<tr><th colspan=\"3\" scope=\"rowgroup\">" ++ page_and_path render view source ++ codes "</th></tr>\n"

-- a page and its broken links
abbrev pub broken_group : Renders → Offers → View → Beside → Group → List ℕ
broken_group render offers view media group =
    codes "<tbody>\n" ++ source_row render view group.0 ++ flat_map (broken_row offers view media) (take link_limit group.1) ++ more_row group.1
    ++ codes "</tbody>\n"

-- ---- the list

-- what stands before the first page
abbrev pub broken_head : List ℕ
broken_head =
    codes "<table class=\"broken\">\n<thead>\n<tr><th scope=\"col\">Link</th><th scope=\"col\">Leads to</th>"
    ++ codes "<th scope=\"col\">What is wrong</th></tr>\n</thead>\n"

-- the table of these pages, or in its place that there are none
abbrev pub table_or_note : Renders → Offers → View → Beside → List ℕ → List Group → List ℕ
table_or_note render offers view media note [] = note
table_or_note render offers view media note (group ∷ groups) =
    broken_head ++ flat_map (broken_group render offers view media) (group ∷ groups) ++ codes "</table>\n"

-- the main part, of the pages with broken links from a text on
abbrev pub broken_main : Renders → Offers → View → Beside → List ℕ → List Group → List ℕ
broken_main render offers view media from groups =
    codes "<h1>Broken links</h1>\n<p>A page that you may not read counts as none.</p>\n"
    ++ table_or_note render offers view media (note_from from (codes "No link is broken on the pages that you may read."))
    (take source_limit groups)
    ++ pager (codes "/broken") from (option_map (λ group. group.0) (slice_get groups source_limit))

-- the links of the pages from a text on
abbrev pub broken_from : List ℕ → List Broken → List Broken
broken_from from links = from_on (λ link. link.source) from links

-- the broken links of a view beside these media, from a source on
unfoldable pub broken_body : Renders → Browse → Offers → View → Beside → List ℕ → List ℕ
broken_body render settings offers view media from =
    shell render settings offers view (codes "Broken links") None
    (broken_main render offers view media from (by_source (broken_from from (broken_links render view media)))) []
