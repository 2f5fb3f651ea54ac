-- The lists on worked examples: contents, backlinks and broken links of sites with hidden pages and with aliases.
use Rattle.std.proofs.Common.{◌≡◌, ℕ, List, [], ◌∷◌, ◌++◌, true, false, codes, refl, ap, ◌∙◌}
use Rattle.std.proofs.Math.Utf8.{encode}
use Rattle.std.specs.Prelude.{Option, Some, None, bytes_eq, if◌then◌else◌}
use Rattle.std.specs.Fmt.{digits}
use Rattle.std.specs.FinMap as map
use Rattle.std.specs.Str.{chars, is_utf8}
use Rattle.percent_encoding.specs.Percent.{percent_decode, percent_encode_byte}
use Rattle.doc_page_parts.specs.Escaping.{escaped}
use Rattle.doc_page_parts.specs.Paths.{is_path}
use Rattle.doc_page_parts.specs.declared.rendered.Piece.{Piece}
use Rattle.doc_page_parts.specs.declared.rendered.Piece.TheVariants.{Html, Link}
use Rattle.doc_page_parts.specs.declared.rendered.Rendered.{Rendered}
use Rattle.doc_page_encoding.specs.Encoding.{encoded, encoded_path}
use Rattle.doc_resolve.specs.DotSegments.{put_all, without_dots}
use Rattle.doc_resolve.specs.Links.{kind_on, kinds}
use Rattle.doc_resolve.specs.References.{reference}
use Rattle.doc_resolve.specs.Resolution.{resolve}
use Rattle.doc_resolve.specs.WrittenPaths.{path_written}
use Rattle.doc_links_pages.specs.Links.{backlinks, contents}
use Rattle.doc_media.specs.Media.{Beside}
use Rattle.doc_media_links.specs.Images.{broken_images}
use Rattle.doc_listings.specs.Listings.{backlinks_text, entry_lines, heading_line, report_text}
use Rattle.doc_store_readers.specs.declared.reader.Reader.{Reader}
use Rattle.doc_store_readers.specs.Pages.{Page}
use Rattle.doc_store_readers.specs.Sites.{view_of}
use Rattle.doc_shelf_pages.specs.Held.{held_of}
use Rattle.doc_shelf_pages.specs.Views.{Renders, backlinks_body, contents_body, report_body}
use Rattle.doc_shelf_pages.proofs.OnLists.{Entries, held_at, site_of, store_of, view_is, view_on}

-- one name to unfold where an example computes
unfoldable computing : Unit {0}
unfolding digits chars is_utf8 encode percent_decode percent_encode_byte encoded encoded_path escaped is_path kind_on kinds path_written
    put_all reference resolve without_dots backlinks broken_images contents backlinks_text entry_lines heading_line report_text
computing = tt

-- ---- readers, and pages for groups

abbrev staff : List (List ℕ)
staff = codes "staff" ∷ []

abbrev ops : List (List ℕ)
ops = codes "ops" ∷ []

abbrev ann : Option Reader
ann = Some (record { owner = false; groups = staff })

abbrev owner : Option Reader
owner = Some (record { owner = true; groups = [] })

abbrev page_for : List (List ℕ) → List ℕ → Page
page_for groups text = record { groups = groups; text = text }

-- ---- a table of what a renderer makes of texts: of links, of headings, and of any other text one paragraph

abbrev to : List ℕ → Piece
to dest = Link (record { dest = dest; title = None })

abbrev two_links : List ℕ → List ℕ → List ℕ → Rendered
two_links first second text = record {
  pieces = Html (codes "<p>") ∷ to first ∷ Html (codes "-</a> ") ∷ to second ∷ Html (codes "-</a></p>\n") ∷ [];
  headings = [];
  texts = text ∷ [];
  images = [];
}

abbrev one_link : List ℕ → List ℕ → Rendered
one_link dest text = record {
  pieces = Html (codes "<p>") ∷ to dest ∷ Html (codes "-</a></p>\n") ∷ [];
  headings = [];
  texts = text ∷ [];
  images = [];
}

abbrev two_headings : Rendered
two_headings = record {
  pieces = Html (codes "<h1 id=\"kiwi--plum\">Kiwi &amp; plum</h1>\n<h2 id=\"kiwi\">Kiwi</h2>\n") ∷ [];
  headings = record { level = 1; anchor = codes "kiwi--plum"; text = codes "Kiwi & plum" }
      ∷ record { level = 2; anchor = codes "kiwi"; text = codes "Kiwi" } ∷ [];
  texts = codes "Kiwi & plum" ∷ codes "Kiwi" ∷ [];
  images = [];
}

-- a page with a link and with images: of two pictures, of one out of the site, of a page, and of no path
abbrev pictured : Rendered
pictured = record {
  pieces = Html (codes "<p>") ∷ to (codes "gone.md") ∷ Html (codes "-</a></p>\n") ∷ [];
  headings = [];
  texts = codes "-" ∷ [];
  images = codes "b.png" ∷ codes "c.png" ∷ codes "https://example.org/d.png" ∷ codes "v.md" ∷ codes "a//b.png" ∷ [];
}

abbrev paragraph : List ℕ → Rendered
paragraph text = record { pieces = Html (codes "<p>" ++ text ++ codes "</p>\n") ∷ []; headings = []; texts = text ∷ []; images = [] }

abbrev by_table : Renders
by_table text =
    if bytes_eq text (codes "[c](c.md) [d](d.md)\n") then two_links (codes "c.md") (codes "d.md") (codes "c d")
    else if bytes_eq text (codes "See [b](b.md), [b](b.md).\n") then two_links (codes "b.md") (codes "b.md") (codes "See b, b.")
    else if bytes_eq text (codes "[t](t.md) [t](t.md)") then two_links (codes "t.md") (codes "t.md") (codes "t t")
    else if bytes_eq text (codes "[t](t.md#q)") then one_link (codes "t.md#q") (codes "t")
    else if bytes_eq text (codes "pictures") then pictured
    else if bytes_eq text (codes "# Kiwi & plum\n\n## Kiwi\n") then two_headings
    else paragraph text

-- ---- backlinks, broken links and contents: v.md is hidden from ann

abbrev three : Entries Page
three =
    (codes "t.md", page_for staff (codes "x")) ∷ (codes "u.md", page_for staff (codes "[t](t.md) [t](t.md)"))
    ∷ (codes "v.md", page_for ops (codes "[t](t.md#q)")) ∷ []

three_for_ann : view_of (site_of three []) ann ≡ view_on three [] ann
three_for_ann = view_is three [] tt tt ann

three_for_an_owner : view_of (site_of three []) owner ≡ view_on three [] owner
three_for_an_owner = view_is three [] tt tt owner

computed_for_ann : backlinks_body by_table (view_on three [] ann) (codes "t.md") ≡ codes "u.md\t2\n"
unfolding computing
computed_for_ann = refl

links_to_t_for_ann : backlinks_body by_table (view_of (site_of three []) ann) (codes "t.md") ≡ codes "u.md\t2\n"
links_to_t_for_ann = ap (λ v. backlinks_body by_table v (codes "t.md")) three_for_ann ∙ computed_for_ann

computed_for_an_owner : backlinks_body by_table (view_on three [] owner) (codes "t.md") ≡ codes "u.md\t2\nv.md\t1\n"
unfolding computing
computed_for_an_owner = refl

links_to_t_for_an_owner : backlinks_body by_table (view_of (site_of three []) owner) (codes "t.md") ≡ codes "u.md\t2\nv.md\t1\n"
links_to_t_for_an_owner = ap (λ v. backlinks_body by_table v (codes "t.md")) three_for_an_owner ∙ computed_for_an_owner

-- of a page that is hidden there are none, as of one that isn't there
links_to_v_for_ann : backlinks_body by_table (view_on three [] ann) (codes "v.md") ≡ []
unfolding computing
links_to_v_for_ann = refl

report_computed_for_ann : report_body by_table (view_on three [] ann) None ≡ []
unfolding computing
report_computed_for_ann = refl

report_for_ann : report_body by_table (view_of (site_of three []) ann) None ≡ []
report_for_ann = ap (λ v. report_body by_table v None) three_for_ann ∙ report_computed_for_ann

report_computed_for_an_owner : report_body by_table (view_on three [] owner) None ≡ codes "v.md\t1\tanchor\tt.md#q\n"
unfolding computing
report_computed_for_an_owner = refl

report_for_an_owner : report_body by_table (view_of (site_of three []) owner) None ≡ codes "v.md\t1\tanchor\tt.md#q\n"
report_for_an_owner = ap (λ v. report_body by_table v None) three_for_an_owner ∙ report_computed_for_an_owner

contents_computed_for_ann : contents_body by_table (view_on three [] ann)
    ≡ codes "<!DOCTYPE html>\n<title>Contents</title>\n<ul>\n<li><a href=\"/page/t.md\">t.md</a></li>\n"
    ++ codes "<li><a href=\"/page/u.md\">u.md</a></li>\n</ul>\n"
unfolding computing
contents_computed_for_ann = refl

contents_for_ann : contents_body by_table (view_of (site_of three []) ann)
    ≡ codes "<!DOCTYPE html>\n<title>Contents</title>\n<ul>\n<li><a href=\"/page/t.md\">t.md</a></li>\n"
    ++ codes "<li><a href=\"/page/u.md\">u.md</a></li>\n</ul>\n"
contents_for_ann = ap (contents_body by_table) three_for_ann ∙ contents_computed_for_ann

-- ---- contents with headings: a page for two groups, and one in a folder

abbrev two : Entries Page
two =
    (codes "a b.md", page_for (codes "ops" ∷ codes "staff" ∷ []) (codes "# Kiwi & plum\n\n## Kiwi\n"))
    ∷ (codes "guide/x&y.md", page_for staff (codes "x")) ∷ []

contents_with_headings : contents_body by_table (view_on two [] ann)
    ≡ codes "<!DOCTYPE html>\n<title>Contents</title>\n<ul>\n<li><a href=\"/page/a%20b.md\">a b.md</a></li>\n"
    ++ codes "<li class=\"h1\"><a href=\"/page/a%20b.md#kiwi--plum\">Kiwi &amp; plum</a></li>\n"
    ++ codes "<li class=\"h2\"><a href=\"/page/a%20b.md#kiwi\">Kiwi</a></li>\n"
    ++ codes "<li><a href=\"/page/guide/x%26y.md\">guide/x&amp;y.md</a></li>\n</ul>\n"
unfolding computing
contents_with_headings = refl

-- the reader of ops sees the first alone, and one of no group sees none
contents_for_ops : contents_body by_table (view_on two [] (Some (record { owner = false; groups = ops })))
    ≡ codes "<!DOCTYPE html>\n<title>Contents</title>\n<ul>\n<li><a href=\"/page/a%20b.md\">a b.md</a></li>\n"
    ++ codes "<li class=\"h1\"><a href=\"/page/a%20b.md#kiwi--plum\">Kiwi &amp; plum</a></li>\n"
    ++ codes "<li class=\"h2\"><a href=\"/page/a%20b.md#kiwi\">Kiwi</a></li>\n</ul>\n"
unfolding computing
contents_for_ops = refl

contents_for_nobody : contents_body by_table (view_on two [] (Some (record { owner = false; groups = [] })))
    ≡ codes "<!DOCTYPE html>\n<title>Contents</title>\n<ul>\n</ul>\n"
unfolding computing
contents_for_nobody = refl

-- ---- aliases: c.md was moved to e/c.md, which is hidden from ann

abbrev moved : Entries Page
moved =
    (codes "a.md", page_for staff (codes "Hello\n")) ∷ (codes "b.md", page_for staff (codes "[c](c.md) [d](d.md)\n"))
    ∷ (codes "e/c.md", page_for ops (codes "See [b](b.md), [b](b.md).\n")) ∷ []

abbrev moved_from : Entries (List ℕ)
moved_from = (codes "c.md", codes "e/c.md") ∷ []

moved_for_an_owner : view_of (site_of moved moved_from) owner ≡ view_on moved moved_from owner
moved_for_an_owner = view_is moved moved_from tt tt owner

moved_for_ann : view_of (site_of moved moved_from) ann ≡ view_on moved moved_from ann
moved_for_ann = view_is moved moved_from tt tt ann

-- a link by an alias leads to the page
alias_counts : backlinks_body by_table (view_on moved moved_from owner) (codes "e/c.md") ≡ codes "b.md\t1\n"
unfolding computing
alias_counts = refl

links_to_the_moved_page : backlinks_body by_table (view_of (site_of moved moved_from) owner) (codes "e/c.md") ≡ codes "b.md\t1\n"
links_to_the_moved_page = ap (λ v. backlinks_body by_table v (codes "e/c.md")) moved_for_an_owner ∙ alias_counts

-- the links of the moved page are those from its new place
moved_links_break : report_body by_table (view_on moved moved_from owner) None
    ≡ codes "b.md\t2\tpage\td.md\ne/c.md\t1\tpage\te/b.md\ne/c.md\t2\tpage\te/b.md\n"
unfolding computing
moved_links_break = refl

report_after_the_move : report_body by_table (view_of (site_of moved moved_from) owner) None
    ≡ codes "b.md\t2\tpage\td.md\ne/c.md\t1\tpage\te/b.md\ne/c.md\t2\tpage\te/b.md\n"
report_after_the_move = ap (λ v. report_body by_table v None) moved_for_an_owner ∙ moved_links_break

-- an alias of a hidden page leads nowhere
hidden_alias : report_body by_table (view_on moved moved_from ann) None ≡ codes "b.md\t1\tpage\tc.md\nb.md\t2\tpage\td.md\n"
unfolding computing
hidden_alias = refl

report_after_the_move_for_ann : report_body by_table (view_of (site_of moved moved_from) ann) None
    ≡ codes "b.md\t1\tpage\tc.md\nb.md\t2\tpage\td.md\n"
report_after_the_move_for_ann = ap (λ v. report_body by_table v None) moved_for_ann ∙ hidden_alias

-- moved back, its links are whole again, and e/c.md is the alias
abbrev back : Entries Page
back =
    (codes "a.md", page_for staff (codes "Hello\n")) ∷ (codes "b.md", page_for staff (codes "[c](c.md) [d](d.md)\n"))
    ∷ (codes "c.md", page_for ops (codes "See [b](b.md), [b](b.md).\n")) ∷ []

abbrev back_from : Entries (List ℕ)
back_from = (codes "e/c.md", codes "c.md") ∷ []

moved_back : report_body by_table (view_on back back_from owner) None ≡ codes "b.md\t2\tpage\td.md\n"
unfolding computing
moved_back = refl

report_after_the_move_back : report_body by_table (view_of (site_of back back_from) owner) None ≡ codes "b.md\t2\tpage\td.md\n"
report_after_the_move_back = ap (λ v. report_body by_table v None) (view_is back back_from tt tt owner) ∙ moved_back

-- ---- images: o.md is for others, and ann sees one picture of two

abbrev gallery : Entries Page
gallery =
    (codes "o.md", page_for ops (codes "pictures")) ∷ (codes "p.md", page_for staff (codes "pictures"))
    ∷ (codes "v.md", page_for staff (codes "[t](t.md#q)")) ∷ []

abbrev one_picture : Beside
one_picture = Some ((codes "b.png", page_for staff (codes "x")) ∷ [])

gallery_for_ann : view_of (site_of gallery []) ann ≡ view_on gallery [] ann
gallery_for_ann = view_is gallery [] tt tt ann

-- page by page the links, and behind them the images by their own places: of the hidden page none
images_computed : report_body by_table (view_on gallery [] ann) one_picture
    ≡ codes "p.md\t1\tpage\tgone.md\np.md\t2\timage\tc.png\np.md\t4\timage\tv.md\np.md\t5\timage\t-\nv.md\t1\tpage\tt.md\n"
unfolding computing
images_computed = refl

images_for_ann : report_body by_table (view_of (site_of gallery []) ann) one_picture
    ≡ codes "p.md\t1\tpage\tgone.md\np.md\t2\timage\tc.png\np.md\t4\timage\tv.md\np.md\t5\timage\t-\nv.md\t1\tpage\tt.md\n"
images_for_ann = ap (λ v. report_body by_table v one_picture) gallery_for_ann ∙ images_computed

-- where there are no media no image is looked at
images_without_media : report_body by_table (view_on gallery [] ann) None ≡ codes "p.md\t1\tpage\tgone.md\nv.md\t1\tpage\tt.md\n"
unfolding computing
images_without_media = refl

-- ---- what is held: the moved page under its new path and its new stamp alone

abbrev stamps : Entries ℕ
stamps = (codes "a.md", 0) ∷ (codes "b.md", 1) ∷ (codes "e/c.md", 3) ∷ []

held_under_the_stamp : map.get (held_of by_table (store_of moved moved_from tt tt by_table stamps tt 4)) (codes "e/c.md", 3)
    ≡ Some (two_links (codes "b.md") (codes "b.md") (codes "See b, b."))
held_under_the_stamp = held_at moved moved_from tt tt by_table stamps tt 4 (codes "e/c.md") 3

not_under_another_stamp : map.get (held_of by_table (store_of moved moved_from tt tt by_table stamps tt 4)) (codes "e/c.md", 2) ≡ None
not_under_another_stamp = held_at moved moved_from tt tt by_table stamps tt 4 (codes "e/c.md") 2

not_under_an_alias : map.get (held_of by_table (store_of moved moved_from tt tt by_table stamps tt 4)) (codes "c.md", 3) ≡ None
not_under_an_alias = held_at moved moved_from tt tt by_table stamps tt 4 (codes "c.md") 3
