-- The template of a page: the document that shows it.
use Rattle.std.specs.Prelude.{ℕ, List, [], ◌∷◌, ◌++◌, codes, if◌then◌else◌}
use Rattle.doc_page_parts.specs.Escaping.{escaped}
use Rattle.doc_page_parts.specs.Pages.{filled, is_empty}
use Rattle.doc_page_parts.specs.declared.linker.Shown.{Shown}
use Rattle.doc_page_parts.specs.declared.rendered.Heading.{Heading}
use Rattle.doc_page_parts.specs.declared.rendered.Rendered.{Rendered}

-- the text of the first heading whose text is not empty, or else the path; this project's choice
abbrev pub title_of : List ℕ → List Heading → List ℕ
title_of path [] = path
title_of path (heading ∷ rest) = if is_empty heading.text then title_of path rest else heading.text

-- the body of the reply that shows the page at this path; this project's choice
abbrev pub body_of : List ℕ → (List ℕ → Shown) → Rendered → List ℕ
body_of path shown page =
    codes "<!DOCTYPE html>\n<title>" ++ escaped (title_of path page.headings) ++ codes "</title>\n"
    ++ filled shown page
