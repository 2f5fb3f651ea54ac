-- Lines of HTML that the pages for people have in common. All of this is this project's choice.
use Rattle.std.specs.Prelude.{ℕ, List, [], ◌++◌, Bool, true, false, codes}
use Rattle.doc_page_parts.specs.Escaping.{escaped}

-- the attribute of a link to the page that is shown
abbrev pub current_if : Bool → List ℕ
current_if false = []
current_if true = codes " aria-current=\"page\""

-- a link: its address, whether it leads to the page that is shown, and its text
abbrev pub link_or_current : List ℕ → Bool → List ℕ → List ℕ
link_or_current href current text =
    codes "<a href=\"" ++ href ++ codes "\"" ++ current_if current ++ codes ">" ++ escaped text ++ codes "</a>"

-- a link that leads to another page, or to a part of this one
abbrev pub link : List ℕ → List ℕ → List ℕ
link href text = link_or_current href false text

-- an entry of a list
abbrev pub item : List ℕ → List ℕ
item html = codes "<li>" ++ html ++ codes "</li>\n"

-- an entry that is a folder
abbrev pub folder_item : List ℕ → List ℕ
folder_item html = codes "<li class=\"dir\">" ++ html ++ codes "</li>\n"

-- lines as a list
abbrev pub listed : List ℕ → List ℕ
listed lines = codes "<ul>\n" ++ lines ++ codes "</ul>\n"
