-- What a text would look like as the page of a path. All of this is this project's choice.
use Rattle.std.specs.Prelude.{ℕ, List, ◌++◌, codes}
use Rattle.doc_page_parts.specs.declared.rendered.Heading.{Heading}
use Rattle.doc_people.specs.Folders.{first_text, short, title_by}
use Rattle.doc_people.specs.Inert.{inert}
use Rattle.doc_people.specs.Pages.{heading_line}
use Rattle.doc_people.specs.Shell.{bare}
use Rattle.doc_people.specs.declared.settings.Browse.{Browse}

-- the page between its tags, as people would see it: by its path, its headings, and its HTML with its links as the reader sees them
unfoldable pub preview_main : List ℕ → List Heading → List ℕ → List ℕ
preview_main path headings html =
    codes "<article>\n" ++ heading_line path headings ++ inert html ++ codes "</article>\n"

-- the page that would stand there, without navigation
unfoldable pub preview_body : Browse → List ℕ → List Heading → List ℕ → List ℕ
preview_body settings path headings html =
    bare settings (short (title_by path (first_text headings))) (preview_main path headings html)
