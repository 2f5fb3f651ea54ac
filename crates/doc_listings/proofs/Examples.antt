-- Lists, worked.
use Rattle.std.specs.Prelude.{◌≡◌, ℕ, List, [], ◌∷◌, ◌++◌, codes, refl}
use Rattle.std.specs.Fmt.{digits}
use Rattle.percent_encoding.specs.Percent.{percent_encode_byte}
use Rattle.doc_page_parts.specs.Escaping.{escaped}
use Rattle.doc_page_parts.specs.declared.rendered.Heading.{Heading}
use Rattle.doc_page_encoding.specs.Encoding.{encoded, encoded_path}
use Rattle.doc_links_pages.specs.declared.answers.Broken.{Broken}
use Rattle.doc_links_pages.specs.declared.answers.Entry.{Entry}
use Rattle.doc_links_pages.specs.declared.answers.Reason.{Reason}
use Rattle.doc_links_pages.specs.declared.answers.Reason.TheVariants as reasons
use Rattle.doc_words_search.specs.declared.hit.Hit.{Hit}
use Rattle.doc_listings.specs.Listings.{backlinks_text, contents_text, entry_lines, heading_line, hits_text, report_text}

-- ---- contents

abbrev heading : ℕ → List ℕ → List ℕ → Heading
heading level anchor text = record { level = level; anchor = anchor; text = text }

abbrev first : Entry
first = record {
  path = codes "a b.md";
  headings = heading 1 (codes "x--y") (codes "X & \"Y\"") ∷ heading 2 (codes "s/t") (codes "<s/t>") ∷ [];
}

abbrev second : Entry
second = record { path = codes "guide/x&y.md"; headings = heading 6 (codes "section-1") [] ∷ [] }

abbrev lines_of_first : List ℕ
lines_of_first =
    codes "<li><a href=\"/page/a%20b.md\">a b.md</a></li>\n"
    ++ codes "<li class=\"h1\"><a href=\"/page/a%20b.md#x--y\">X &amp; &quot;Y&quot;</a></li>\n"
    ++ codes "<li class=\"h2\"><a href=\"/page/a%20b.md#s%2Ft\">&lt;s/t&gt;</a></li>\n"

abbrev lines_of_second : List ℕ
lines_of_second =
    codes "<li><a href=\"/page/guide/x%26y.md\">guide/x&amp;y.md</a></li>\n"
    ++ codes "<li class=\"h6\"><a href=\"/page/guide/x%26y.md#section-1\"></a></li>\n"

two_pages : contents_text (first ∷ second ∷ [])
    ≡ codes "<!DOCTYPE html>\n<title>Contents</title>\n<ul>\n" ++ lines_of_first ++ lines_of_second ++ codes "</ul>\n"
unfolding entry_lines heading_line digits escaped encoded encoded_path percent_encode_byte
two_pages = refl

no_pages : contents_text [] ≡ codes "<!DOCTYPE html>\n<title>Contents</title>\n<ul>\n</ul>\n"
no_pages = refl

-- ---- backlinks

two_sources : backlinks_text ((codes "u.md", 2) ∷ (codes "v.md", 10) ∷ []) ≡ codes "u.md\t2\nv.md\t10\n"
unfolding backlinks_text digits
two_sources = refl

no_sources : backlinks_text [] ≡ []
unfolding backlinks_text
no_sources = refl

-- ---- a search

abbrev hit : ℕ → List ℕ → Hit
hit score path = record { path = path; score = score }

two_hits : hits_text (hit 2 (codes "s000.md") ∷ hit 1 (codes "s001.md") ∷ []) ≡ codes "2\ts000.md\n1\ts001.md\n"
unfolding hits_text digits
two_hits = refl

no_hits : hits_text [] ≡ []
unfolding hits_text
no_hits = refl

-- ---- broken links

abbrev broken : List ℕ → ℕ → Reason → List ℕ → Broken
broken source place reason target = record { source = source; place = place; reason = reason; target = target }

each_reason : report_text (
    broken (codes "b.md") 2 reasons.Page (codes "d.md")
    ∷ broken (codes "v.md") 1 reasons.Anchor (codes "t.md#q")
    ∷ broken (codes "v.md") 12 reasons.Path (codes "-")
    ∷ broken (codes "v.md") 3 reasons.Image (codes "x.png") ∷ []
    ) ≡ codes "b.md\t2\tpage\td.md\nv.md\t1\tanchor\tt.md#q\nv.md\t12\tpath\t-\nv.md\t3\timage\tx.png\n"
unfolding report_text digits
each_reason = refl

nothing_broken : report_text [] ≡ []
unfolding report_text
nothing_broken = refl
