-- Examples: previews.
use Rattle.std.proofs.Common.{◌≡◌, ℕ, List, [], ◌∷◌, ◌++◌, codes, length, refl}
use Rattle.std.specs.Prelude.{None}
use Rattle.doc_page_parts.specs.Pages.{filled}
use Rattle.doc_page_parts.specs.declared.rendered.Piece.TheVariants.{Html, Link}
use Rattle.doc_page_parts.specs.declared.rendered.Rendered.{Rendered}
use Rattle.doc_resolve.specs.Hrefs.{shown}
use Rattle.doc_store_readers.specs.Sites.{goal_in}
use Rattle.doc_people_editing.specs.Preview.{preview_body}
use Rattle.doc_people_editing.proofs.Computing.{editing_words}
use Rattle.doc_people_editing.proofs.Sites.{defaults, for_owner, front}

-- `[c](c.md) <script>x</script>`, rendered
abbrev with_script : Rendered
with_script = record {
  pieces =
      Html (codes "<p>") ∷ Link (record { dest = codes "c.md"; title = None }) ∷ Html (codes "c</a> <script>x</script></p>\n") ∷ [];
  headings = [];
  texts = codes "c" ∷ [];
  images = [];
}

abbrev its_preview : List ℕ
its_preview = preview_body defaults (codes "a.md") with_script.headings (filled (shown (goal_in for_owner) (codes "a.md")) with_script)

-- as the page of `a.md`, with its link as the owner sees it; the policy keeps the script from running
a_preview :
    its_preview
    ≡
    front (codes "a.md")
    ++ codes "<div class=\"frame bare\">\n<main id=\".main\">\n<article>\n<h1>a.md</h1>\n"
    ++ codes "<p><a href=\"/page/c.md\">c</a> <script>x</script></p>\n</article>\n</main>\n</div>\n</body>\n</html>\n"
unfolding editing_words
a_preview = refl

its_size : length its_preview ≡ 465
unfolding editing_words
its_size = refl

-- a text with a heading has no other, and with a form and an open tag it is made inert
an_inert_preview :
    preview_body defaults (codes "n.md") (record { level = 1; anchor = codes "a--b"; text = codes "A & B" } ∷ [])
    (codes "<h1 id=\"a--b\">A &amp; B</h1>\n<form action='/x")
    ≡
    front (codes "A &amp; B")
    ++ codes "<div class=\"frame bare\">\n<main id=\".main\">\n<article>\n<h1 id=\"a--b\">A &amp; B</h1>\n"
    ++ codes "&lt;form action='/x<!--'\"-->\n</article>\n</main>\n</div>\n</body>\n</html>\n"
unfolding editing_words
an_inert_preview = refl
