-- Broken links of one page. This is this project's choice.
use Rattle.std.specs.Prelude.{ℕ, List, Bool, bytes_eq}
use Rattle.doc_links_pages.specs.declared.answers.Broken.{Broken}

-- the link is of this page
abbrev pub is_of : List ℕ → Broken → Bool
is_of source link = bytes_eq link.source source
