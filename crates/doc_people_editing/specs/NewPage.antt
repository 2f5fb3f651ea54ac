-- The page that asks for the path of a new page. All of this is this project's choice.
use Rattle.std.specs.Prelude.{ℕ, List, [], ◌++◌, codes, None}
use Rattle.doc_page_parts.specs.Escaping.{escaped}
use Rattle.doc_store_readers.specs.Sites.{View}
use Rattle.doc_people.specs.Shell.{shell}
use Rattle.doc_people.specs.Views.{Renders}
use Rattle.doc_people.specs.declared.settings.Browse.{Browse}
use Rattle.doc_people.specs.declared.settings.Offers.{Offers}
use Rattle.doc_people_editing.specs.Script.{script_element}

-- the title, and what is told where no script runs
abbrev pub new_heading : List ℕ
new_heading =
    codes "<h1>New page</h1>\n<noscript><p>This takes the script of this page. "
    ++ codes "Without it, write the path behind /edit/ in the address.</p></noscript>\n"

-- the form, which begins with a folder, and what a path is
abbrev pub new_form : List ℕ → List ℕ
new_form folder =
    codes "<form id=\"new\" autocomplete=\"off\"><p><label>Path <input id=\"path\" value=\"" ++ escaped folder
    ++ (codes "\" size=\"40\" required></label> <button disabled>Begin</button></p></form>\n"
    ++ codes "<p>As guide/start.md: up to 16 names with / between, 200 bytes in all.</p>\n")

-- all but the script
abbrev pub new_parts : List ℕ → List ℕ
new_parts folder = new_heading ++ new_form folder

-- the main part, by the folder that the page is to stand in
unfoldable pub new_main : List ℕ → List ℕ
new_main folder = new_parts folder ++ script_element

-- the page
unfoldable pub new_body : Renders → Browse → Offers → View → List ℕ → List ℕ
new_body render settings offers view folder =
    shell render settings offers view (codes "New page") None (new_main folder) []
