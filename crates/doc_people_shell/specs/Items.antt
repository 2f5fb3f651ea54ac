-- The entries of the navigation, and what is written where there is something to write.
use Rattle.std.specs.Prelude.{ℕ, List, [], ◌∷◌, ◌++◌, Bool, Option, bytes_eq, codes, if◌then◌else◌}
use Rattle.doc_store_readers.specs.Sites.{View}
use Rattle.doc_people.specs.Folders.{contents_href}
use Rattle.doc_people.specs.Lines.{link, listed}
use Rattle.doc_people.specs.Navigation.{tree_item}
use Rattle.doc_people.specs.Views.{Renders}

-- a page or a folder; nothing for the page that stands for the folder, whose path is `index`
abbrev pub shown_item : Renders → View → Option (List ℕ) → List ℕ → List ℕ → List ℕ
shown_item render view at index key = if bytes_eq key index then [] else tree_item render view at key

-- lines as a list, or nothing where there is none
abbrev pub listed_if : List ℕ → List ℕ
listed_if [] = []
listed_if (b ∷ lines) = listed (b ∷ lines)

-- all that stands in the folder, where not all is shown
abbrev pub all_line_if : Bool → List ℕ → List ℕ
all_line_if cut folder =
    if cut then codes "<p class=\"all\">" ++ link (contents_href folder) (codes "All of this folder") ++ codes "</p>\n" else []
