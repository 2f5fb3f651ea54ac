-- The template of a page on worked examples.
use Rattle.std.proofs.Common.{◌≡◌, codes, refl, [], ◌∷◌}
use Rattle.doc_page_parts.specs.Escaping.{escaped}
use Rattle.doc_page_parts.specs.Lines.{lines, without_ending, stripped}
use Rattle.doc_page_parts.specs.Pages.{filled}
use Rattle.doc_page_parts.specs.declared.linker.Shown.TheVariants.{Missing}
use Rattle.doc_page.specs.Plain.{paragraphs, plain_html, plain_page}
use Rattle.doc_shelf_pages.specs.Templates.{title_of, body_of}

-- a page's title, and its body
pub first_title : title_of (codes "a.md") (record { level = 1; anchor = codes "section"; text = [] } ∷
    record { level = 2; anchor = codes "b"; text = codes "B" } ∷ []) ≡ codes "B"
first_title = refl

pub title_from_path : title_of (codes "a.md") (record { level = 1; anchor = codes "section"; text = [] } ∷ []) ≡ codes "a.md"
title_from_path = refl

pub body : body_of (codes "a&b.md") (λ dest. Missing) (plain_page (codes "Hello\n"))
    ≡ codes "<!DOCTYPE html>\n<title>a&amp;b.md</title>\n<p>Hello</p>\n"
unfolding lines without_ending stripped paragraphs plain_html escaped filled
body = refl
