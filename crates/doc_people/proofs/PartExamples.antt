-- Examples: parts of pages and lists where they differ from those of the whole pages.
use Rattle.std.proofs.Common.{◌≡◌, ℕ, List, [], ◌∷◌, ◌++◌, length, map as mapped, refl}
use Rattle.std.specs.Prelude.{Some, None, codes, decimal}
use Rattle.std.specs.List.{flat_map, range_with_len}
use Rattle.doc_media.specs.Media.{Beside}
use Rattle.doc_page_parts.specs.declared.rendered.Heading.{Heading}
use Rattle.doc_page_parts.specs.declared.rendered.Piece.{Piece}
use Rattle.doc_page_parts.specs.declared.rendered.Piece.TheVariants.{Link}
use Rattle.doc_store_readers.specs.Sites.{View}
use Rattle.doc_people.specs.BrokenLinks.{broken_from, broken_main, by_source}
use Rattle.doc_people.specs.KeptPaths.{begun_at}
use Rattle.doc_people.specs.Lists.{backlinks_main, contents_from, contents_main, pager, sources_from}
use Rattle.doc_people.specs.Pages.{article, heading_line, linked_from, listed_headings, on_this_page, source_item}
use Rattle.doc_people.specs.Sources.{broken_links, sources_of}
use Rattle.doc_people.specs.Statuses.{notice}
use Rattle.doc_people.specs.Views.{Renders}
use Rattle.doc_people.proofs.Computing.{media_words, page_words}
use Rattle.doc_people.proofs.Sites.{no_offers, with_tools, demo, for_ann, for_owner, titled, view_of_paths}

-- ---- headings

abbrev heading : ℕ → List ℕ → Heading
heading level text = record { level = level; anchor = text; text = text }

-- the page's own heading of level 1, one for those who hear the page, and its path
heading_lines :
    (heading_line (codes "a&b.md") (heading 2 (codes "B") ∷ heading 1 (codes "A & B") ∷ []) ≡ [])
    × (heading_line (codes "a&b.md") (heading 1 [] ∷ heading 2 (codes "A & B") ∷ []) ≡ codes "<h1 class=\"sr\">A &amp; B</h1>\n")
    × (heading_line (codes "a&b.md") (heading 1 [] ∷ []) ≡ codes "<h1>a&amp;b.md</h1>\n")
unfolding page_words
heading_lines = (refl, refl, refl)

-- the first one is left out where it is of level 1, and no other
listed :
    (listed_headings (heading 1 [] ∷ heading 1 (codes "A") ∷ heading 1 (codes "B") ∷ heading 4 (codes "C") ∷ heading 3 (codes "D") ∷ [])
    ≡ heading 1 (codes "B") ∷ heading 3 (codes "D") ∷ [])
    × (listed_headings (heading 2 (codes "A") ∷ heading 1 (codes "B") ∷ []) ≡ heading 2 (codes "A") ∷ heading 1 (codes "B") ∷ [])
    × (listed_headings (heading 1 (codes "A") ∷ []) ≡ [])
    × (length (listed_headings (mapped (λ n. heading 2 (n ∷ [])) (range_with_len 1 120))) ≡ 100)
unfolding page_words
listed = (refl, refl, refl, refl)

headings_beside : on_this_page (heading 2 (codes "a b") ∷ heading 3 (codes "<") ∷ [])
    ≡ codes "<h2>On this page</h2>\n<ul>\n<li class=\"h2\"><a href=\"#a%20b\">a b</a></li>\n"
    ++ codes "<li class=\"h3\"><a href=\"#%3C\">&lt;</a></li>\n</ul>\n"
unfolding page_words
headings_beside = refl

-- ---- pages that link to one

-- 20 are listed
abbrev sources : ℕ → List (List ℕ × ℕ)
sources n = mapped (λ b. (b ∷ [], 1)) (range_with_len 65 n)

sources_beside :
    (linked_from titled (view_of_paths []) (codes "e/a b.md") (sources 20)
    ≡ codes "<h2>Linked from</h2>\n<ul>\n" ++ flat_map (source_item titled (view_of_paths [])) (sources 20) ++ codes "</ul>\n")
    × (linked_from titled (view_of_paths []) (codes "e/a b.md") (sources 21)
    ≡ codes "<h2>Linked from</h2>\n<ul>\n" ++ flat_map (source_item titled (view_of_paths [])) (sources 20) ++ codes "</ul>\n"
    ++ codes "<p><a href=\"/backlinks/e/a%20b.md\">All that link here</a></p>\n")
    × (linked_from titled (view_of_paths []) (codes "e/a b.md") [] ≡ [])
unfolding page_words
sources_beside = (refl, refl, refl)

-- links are counted, and a page that links to itself isn't listed
backlinks_of_a_page : backlinks_main demo for_owner (codes "b.md") [] (sources_of demo for_owner (codes "b.md"))
    ≡ codes "<h1>Pages that link to <a href=\"/page/b.md\">b.md</a></h1>\n<ul class=\"list\">\n"
    ++ codes "<li><a href=\"/page/c.md\">c.md</a> <span class=\"path\">c.md</span> 2 links</li>\n</ul>\n"
unfolding page_words
backlinks_of_a_page = refl

one_link : backlinks_main demo for_owner (codes "c.md") [] (sources_of demo for_owner (codes "c.md"))
    ≡ codes "<h1>Pages that link to <a href=\"/page/c.md\">c.md</a></h1>\n<ul class=\"list\">\n"
    ++ codes "<li><a href=\"/page/b.md\">b.md</a> <span class=\"path\">b.md</span> 1 link</li>\n</ul>\n"
unfolding page_words
one_link = refl

no_more_backlinks : backlinks_main demo for_owner (codes "c.md") (codes "c") (sources_from demo for_owner (codes "c.md") (codes "c"))
    ≡ codes "<h1>Pages that link to <a href=\"/page/c.md\">c.md</a></h1>\n<p>Nothing follows.</p>\n"
    ++ codes "<nav class=\"pager\" aria-label=\"Parts of this list\">\n<a href=\"/backlinks/c.md\">From the start</a>\n</nav>\n"
unfolding page_words
no_more_backlinks = refl

-- ---- parts of lists

pagers :
    (pager (codes "/contents") [] None ≡ [])
    × (pager (codes "/contents") [] (Some (codes "e/c d.md"))
    ≡ codes "<nav class=\"pager\" aria-label=\"Parts of this list\">\n"
    ++ codes "<a href=\"/contents?from=e%2Fc%20d.md\" rel=\"next\">More</a>\n</nav>\n")
    × (pager (codes "/contents") (codes "<b") (Some (codes "c"))
    ≡ codes "<nav class=\"pager\" aria-label=\"Parts of this list\">\n<a href=\"/contents\">From the start</a>\n"
    ++ codes "<a href=\"/contents?from=c\" rel=\"next\">More</a>\n</nav>\n")
unfolding page_words
pagers = (refl, refl, refl)

contents_from_b : contents_main demo for_ann [] (codes "b") (contents_from for_ann [] (codes "b"))
    ≡ codes "<h1>Contents</h1>\n<ul class=\"list\">\n<li><a href=\"/page/b.md\">b.md</a> <span class=\"path\">b.md</span></li>\n</ul>\n"
    ++ codes "<nav class=\"pager\" aria-label=\"Parts of this list\">\n<a href=\"/contents\">From the start</a>\n</nav>\n"
unfolding page_words
contents_from_b = refl

contents_of_nothing : contents_main demo (view_of_paths []) [] [] (contents_from (view_of_paths []) [] [])
    ≡ codes "<h1>Contents</h1>\n<p>There is no page that you may read.</p>\n"
unfolding page_words
contents_of_nothing = refl

-- a folder has the title of the page that stands for it, and leads to its own contents
contents_with_folders : contents_main titled (view_of_paths (codes "e/f/index.md" ∷ codes "e/g.md" ∷ [])) (codes "e/") []
    (contents_from (view_of_paths (codes "e/f/index.md" ∷ codes "e/g.md" ∷ [])) (codes "e/") [])
    ≡ codes "<h1>e</h1>\n<ul class=\"list\">\n"
    ++ codes "<li class=\"dir\"><a href=\"/contents/e/f/\">F &amp; co</a> <span class=\"path\">e/f/</span></li>\n"
    ++ codes "<li><a href=\"/page/e/g.md\">g.md</a> <span class=\"path\">e/g.md</span></li>\n</ul>\n"
unfolding page_words
contents_with_folders = refl

-- 200 entries, and the way to the one behind them
abbrev numbers : ℕ → ℕ → List (List ℕ)
numbers first n = mapped decimal (range_with_len first n)

abbrev many : View
many = view_of_paths (numbers 1000 202)

abbrev number_line : List ℕ → List ℕ
number_line number =
    codes "<li><a href=\"/page/" ++ number ++ codes "\">" ++ number ++ codes "</a> <span class=\"path\">" ++ number
    ++ codes "</span></li>\n"

long_contents : contents_main titled many [] (codes "1001") (contents_from many [] (codes "1001"))
    ≡ codes "<h1>Contents</h1>\n<ul class=\"list\">\n" ++ flat_map number_line (numbers 1001 200) ++ codes "</ul>\n"
    ++ codes "<nav class=\"pager\" aria-label=\"Parts of this list\">\n<a href=\"/contents\">From the start</a>\n"
    ++ codes "<a href=\"/contents?from=1201\" rel=\"next\">More</a>\n</nav>\n"
unfolding page_words
long_contents = refl

-- ---- broken links

abbrev to : List ℕ → Piece
to dest = Link (record { dest = dest; title = None })

-- links to a heading that isn't there, to one that is, to no path, and out of the site
abbrev linking : Renders
linking text = record {
  pieces = to (codes "b.md#caf%C3%A9 <") ∷ to (codes "b.md#Top") ∷ to (codes "a%2Fb.md") ∷ to (codes "https://h/x") ∷ [];
  headings = heading 1 (codes "Top") ∷ [];
  texts = [];
  images = [];
}

abbrev linked_pages : View
linked_pages = view_of_paths (codes "b.md" ∷ [])

reasons : broken_main linking no_offers linked_pages None [] (by_source (broken_from [] (broken_links linking linked_pages None)))
    ≡ codes "<h1>Broken links</h1>\n<p>A page that you may not read counts as none.</p>\n<table class=\"broken\">\n<thead>\n"
    ++ codes "<tr><th scope=\"col\">Link</th><th scope=\"col\">Leads to</th><th scope=\"col\">What is wrong</th></tr>\n</thead>\n"
    ++ codes "<tbody>\n<tr><th colspan=\"3\" scope=\"rowgroup\"><a href=\"/page/b.md\">Top</a> <span class=\"path\">b.md</span></th></tr>\n"
    ++ codes "<tr><td>1</td><td><a href=\"/page/b.md\"><code>b.md#caf" ++ (0xC3 ∷ 0xA9 ∷ [])
    ++ codes " &lt;</code></a></td><td>no such heading</td></tr>\n<tr><td>3</td><td>" ++ (0xE2 ∷ 0x80 ∷ 0x93 ∷ [])
    ++ codes "</td><td>no path of a page</td></tr>\n</tbody>\n</table>\n"
unfolding page_words
reasons = refl

no_broken_links : broken_main demo no_offers (view_of_paths []) None [] (by_source (broken_from [] (broken_links demo (view_of_paths []) None)))
    ≡ codes "<h1>Broken links</h1>\n<p>A page that you may not read counts as none.</p>\n"
    ++ codes "<p>No link is broken on the pages that you may read.</p>\n"
unfolding page_words
no_broken_links = refl

-- ---- media

-- links to a medium that is seen, to one that isn't, and to a page that isn't there
abbrev with_media : Renders
with_media text = record {
  pieces = to (codes "pic.png#x=2") ∷ to (codes "z.ZIP") ∷ to (codes "no.md") ∷ [];
  headings = heading 1 (codes "Top") ∷ [];
  texts = [];
  images = [];
}

abbrev pictures : Beside
pictures = Some ((codes "pic.png", record { groups = []; text = [] }) ∷ [])

-- a page begins at no path that is kept for media
no_page_begins_at_a_medium :
    broken_main with_media with_tools linked_pages pictures []
    (by_source (broken_from [] (broken_links with_media linked_pages pictures)))
    ≡ codes "<h1>Broken links</h1>\n<p>A page that you may not read counts as none.</p>\n<table class=\"broken\">\n<thead>\n"
    ++ codes "<tr><th scope=\"col\">Link</th><th scope=\"col\">Leads to</th><th scope=\"col\">What is wrong</th></tr>\n</thead>\n"
    ++ codes "<tbody>\n<tr><th colspan=\"3\" scope=\"rowgroup\"><a href=\"/page/b.md\">Top</a> <span class=\"path\">b.md</span></th></tr>\n"
    ++ codes "<tr><td>2</td><td><code>z.ZIP</code></td><td>no such page</td></tr>\n"
    ++ codes "<tr><td>3</td><td><code>no.md</code> <a href=\"/edit/no.md\">New page</a></td><td>no such page</td></tr>\n"
    ++ codes "</tbody>\n</table>\n"
unfolding media_words
no_page_begins_at_a_medium = refl

-- where there are none, each is a page's path
pages_begin_where_no_media_are :
    broken_main with_media with_tools linked_pages None []
    (by_source (broken_from (codes "b") (broken_links with_media linked_pages None)))
    ≡ codes "<h1>Broken links</h1>\n<p>A page that you may not read counts as none.</p>\n<table class=\"broken\">\n<thead>\n"
    ++ codes "<tr><th scope=\"col\">Link</th><th scope=\"col\">Leads to</th><th scope=\"col\">What is wrong</th></tr>\n</thead>\n"
    ++ codes "<tbody>\n<tr><th colspan=\"3\" scope=\"rowgroup\"><a href=\"/page/b.md\">Top</a> <span class=\"path\">b.md</span></th></tr>\n"
    ++ codes "<tr><td>1</td><td><code>pic.png</code> <a href=\"/edit/pic.png\">New page</a></td><td>no such page</td></tr>\n"
    ++ codes "<tr><td>2</td><td><code>z.ZIP</code> <a href=\"/edit/z.ZIP\">New page</a></td><td>no such page</td></tr>\n"
    ++ codes "<tr><td>3</td><td><code>no.md</code> <a href=\"/edit/no.md\">New page</a></td><td>no such page</td></tr>\n"
    ++ codes "</tbody>\n</table>\n"
unfolding media_words
pages_begin_where_no_media_are = refl

-- beside a link, the pictures of a page in a folder: one that is seen, one that isn't, one that writes no path, one out of the site, and one
-- whose path is a page's
abbrev with_images : Renders
with_images text = record {
  pieces = to (codes "no.md") ∷ [];
  headings = [];
  texts = [];
  images = codes "../pic.png" ∷ codes "z.png" ∷ codes "a%2Fb.png" ∷ codes "https://h/z.png" ∷ codes "b.md" ∷ [];
}

abbrev page_in_folder : View
page_in_folder = view_of_paths (codes "guide/b.md" ∷ [])

-- behind the links of a page stand its pictures that show nothing, counted by themselves; no page begins there
pictures_that_show_nothing :
    broken_main with_images with_tools page_in_folder pictures []
    (by_source (broken_from [] (broken_links with_images page_in_folder pictures)))
    ≡ codes "<h1>Broken links</h1>\n<p>A page that you may not read counts as none.</p>\n<table class=\"broken\">\n<thead>\n"
    ++ codes "<tr><th scope=\"col\">Link</th><th scope=\"col\">Leads to</th><th scope=\"col\">What is wrong</th></tr>\n</thead>\n"
    ++ codes "<tbody>\n<tr><th colspan=\"3\" scope=\"rowgroup\"><a href=\"/page/guide/b.md\">b.md</a>"
    ++ codes " <span class=\"path\">guide/b.md</span></th></tr>\n"
    ++ codes "<tr><td>1</td><td><code>guide/no.md</code> <a href=\"/edit/guide/no.md\">New page</a></td><td>no such page</td></tr>\n"
    ++ codes "<tr><td>2</td><td><code>guide/z.png</code></td><td>no such picture</td></tr>\n"
    ++ codes "<tr><td>3</td><td>" ++ (0xE2 ∷ 0x80 ∷ 0x93 ∷ []) ++ codes "</td><td>no such picture</td></tr>\n"
    ++ codes "<tr><td>5</td><td><code>guide/b.md</code></td><td>no such picture</td></tr>\n" ++ codes "</tbody>\n</table>\n"
unfolding media_words
pictures_that_show_nothing = refl

-- where there are no media at all, none is looked at
pictures_where_no_media_are :
    broken_main with_images no_offers page_in_folder None []
    (by_source (broken_from [] (broken_links with_images page_in_folder None)))
    ≡ codes "<h1>Broken links</h1>\n<p>A page that you may not read counts as none.</p>\n<table class=\"broken\">\n<thead>\n"
    ++ codes "<tr><th scope=\"col\">Link</th><th scope=\"col\">Leads to</th><th scope=\"col\">What is wrong</th></tr>\n</thead>\n"
    ++ codes "<tbody>\n<tr><th colspan=\"3\" scope=\"rowgroup\"><a href=\"/page/guide/b.md\">b.md</a>"
    ++ codes " <span class=\"path\">guide/b.md</span></th></tr>\n"
    ++ codes "<tr><td>1</td><td><code>guide/no.md</code></td><td>no such page</td></tr>\n</tbody>\n</table>\n"
unfolding media_words
pictures_where_no_media_are = refl

-- a page begins at a path whose name is no medium's, and at each where there are no media at all
pages_begin_at :
    (begun_at page_in_folder pictures (codes "guide/new.svg") ≡ None)
    × (begun_at page_in_folder pictures (codes "guide/new.md") ≡ Some (codes "guide/new.md"))
    × (begun_at page_in_folder None (codes "guide/new.svg") ≡ Some (codes "guide/new.svg"))
unfolding media_words
pages_begin_at = (refl, refl, refl)

-- a page shows a link to a medium that is seen, as it is written, and none to one that isn't
links_to_media : article linked_pages pictures (codes "b.md") (with_media [])
    ≡ codes "<article>\n<a href=\"/page/pic.png#x=2\"><a class=\"missing\"><a class=\"missing\"></article>\n"
unfolding media_words
links_to_media = refl

-- ---- statuses

not_allowed : notice 403 [] ≡ codes "<h1>Not allowed</h1>\n<p>Only those who write these pages may do this.</p>\n"
unfolding page_words
not_allowed = refl

no_room : notice 507 []
    ≡ codes "<h1>No room</h1>\n<p>The page wasn't kept: its text is too long, or there are as many pages as can be.</p>\n"
unfolding page_words
no_room = refl
