-- What is written of the pages that are found.
use Rattle.std.specs.Prelude.{ℕ, List, ◌++◌, ◌==◌, codes, if◌then◌else◌}
use Rattle.std.specs.List.{flat_map}
use Rattle.doc_page_parts.specs.Escaping.{escaped}
use Rattle.doc_store_readers.specs.Sites.{View}
use Rattle.doc_words_search.specs.declared.hit.Hit.{Hit}
use Rattle.doc_people.specs.Search.{best_of_them, hit_line, pages_found}
use Rattle.doc_people.specs.Views.{Renders}
use Rattle.doc_people.specs.declared.term.Term.{Term}

-- that there is none
abbrev pub none_found : List ℕ
none_found = codes "<p class=\"found\">No page that you may read has all of these words.</p>\n"

-- what stands behind their number
abbrev pub pages_word : ℕ → List ℕ
pages_word n = if n == 1 then codes " page" else codes " pages"

-- how many there are, and those that are shown
abbrev pub found_list : Renders → View → List Term → ℕ → List Hit → List ℕ
found_list render view terms count best =
    codes "<p class=\"found\">" ++ pages_found count ++ best_of_them count
    ++ codes "</p>\n<ol class=\"hits\">\n" ++ flat_map (hit_line render view terms) best ++ codes "</ol>\n"

-- a word that is marked
abbrev pub marked : List ℕ → List ℕ
marked text = codes "<mark>" ++ escaped text ++ codes "</mark>"
