-- The page that the text of a page is edited on. Its buttons do nothing until the script runs. All of this is this project's choice.
use Rattle.std.specs.Prelude.{ℕ, List, [], ◌++◌, Bool, true, false, codes, Some, None}
use Rattle.doc_page_parts.specs.Escaping.{escaped}
use Rattle.doc_page_encoding.specs.Encoding.{encoded_path}
use Rattle.doc_store_readers.specs.Sites.{View}
use Rattle.doc_people.specs.Folders.{page_href}
use Rattle.doc_people.specs.Lines.{link}
use Rattle.doc_people.specs.Shell.{shell}
use Rattle.doc_people.specs.Views.{Renders}
use Rattle.doc_people.specs.declared.settings.Browse.{Browse}
use Rattle.doc_people.specs.declared.settings.Offers.{Offers}
use Rattle.doc_people_editing.specs.Script.{script_element}

-- ---- what is edited

-- the address that programs read the text of a page at, and write it
abbrev pub source_href : List ℕ → List ℕ
source_href path = codes "/source/" ++ encoded_path path

-- the path, and what is told where no script runs
abbrev pub edit_heading : List ℕ → List ℕ
edit_heading path =
    codes "<h1>" ++ escaped path
    ++ codes "</h1>\n<noscript><p>Saving takes the script of this page. Without it, " ++ link (source_href path) (codes "the source")
    ++ codes " is read and written by programs.</p></noscript>\n"

-- the text, behind a line end that browsers drop, so that it may begin with one itself (HTML, section 13.2.6.4.7)
abbrev pub text_field : List ℕ → List ℕ
text_field text =
    codes "<p><label for=\"text\">Text</label></p>\n<textarea id=\"text\" rows=\"24\" cols=\"80\">\n" ++ escaped text
    ++ codes "</textarea>\n"

-- who may see the page
abbrev pub groups_field : List ℕ → List ℕ
groups_field groups =
    codes "<p><label>Groups <input id=\"groups\" value=\"" ++ escaped groups
    ++ codes "\" size=\"40\"></label> names with commas between; with none, owners alone see the page</p>\n"

-- what may be done with the text, the way to the page, and where the script tells what came of it
abbrev pub edit_buttons : List ℕ → List ℕ
edit_buttons path =
    codes "<p><button disabled>Save</button> <button id=\"show\" type=\"button\" disabled>Preview</button> "
    ++ link (page_href path) (codes "The page") ++ codes "</p>\n<p id=\"said\" role=\"status\"></p>\n"

-- the form, with the page's address and the tag of the text that is edited
abbrev pub edit_form : List ℕ → List ℕ → List ℕ → List ℕ → List ℕ
edit_form path text groups tag =
    codes "<form id=\"edit\" autocomplete=\"off\" data-path=\"" ++ encoded_path path ++ codes "\" data-tag=\"" ++ escaped tag
    ++ codes "\">\n" ++ text_field text ++ groups_field groups ++ edit_buttons path ++ codes "</form>\n"

-- ---- what stands below

-- the text that another writer has saved, once the script shows it
abbrev pub other_section : List ℕ
other_section =
    codes "<section id=\"other\" hidden>\n<h2>As it stands</h2>\n"
    ++ codes "<textarea id=\"theirs\" rows=\"12\" cols=\"80\" aria-label=\"As it stands\" readonly></textarea>\n"
    ++ codes "<p>Groups: <output id=\"their-groups\"></output></p>\n"
    ++ codes "<p><button id=\"keep\" type=\"button\">Save mine in its place</button> "
    ++ codes "<button id=\"take\" type=\"button\">Take it in place of mine</button></p>\n</section>\n"

-- the preview, once the script shows it, in a frame where no script runs and no form sends anything
abbrev pub preview_frame : List ℕ
preview_frame =
    codes "<iframe id=\"shown\" title=\"Preview\" sandbox=\"allow-same-origin\" width=\"100%\" height=\"400\" hidden></iframe>\n"

-- hidden where no page stands
abbrev pub hidden_unless : Bool → List ℕ
hidden_unless true = []
hidden_unless false = codes " hidden"

-- what may be done with a page that stands: it moves, or it goes
abbrev pub stands_section : List ℕ → Bool → List ℕ
stands_section path stands =
    codes "<section id=\"stands\"" ++ hidden_unless stands
    ++ codes ">\n<form id=\"move\" autocomplete=\"off\"><p><label>New path <input id=\"to\" value=\"" ++ escaped path
    ++ (codes "\" size=\"40\"></label> <button disabled>Move</button></p></form>\n"
    ++ codes "<form id=\"remove\"><p><button disabled>Delete this page</button></p></form>\n</section>\n")

-- ---- the page

-- all but the script
abbrev pub edit_parts : List ℕ → List ℕ → List ℕ → List ℕ → Bool → List ℕ
edit_parts path text groups tag stands =
    edit_heading path ++ edit_form path text groups tag ++ other_section ++ preview_frame ++ stands_section path stands

-- the main part: by the path, the text, its groups with commas between, its tag, and whether a page stands there
unfoldable pub edit_main : List ℕ → List ℕ → List ℕ → List ℕ → Bool → List ℕ
edit_main path text groups tag stands = edit_parts path text groups tag stands ++ script_element

abbrev pub edit_title : List ℕ → List ℕ
edit_title path = codes "Edit " ++ path

-- the page for a path where a page stands
unfoldable pub edit_body : Renders → Browse → Offers → View → List ℕ → List ℕ → List ℕ → List ℕ → List ℕ
edit_body render settings offers view path text groups tag =
    shell render settings offers view (edit_title path) (Some path) (edit_main path text groups tag true) []

-- the page for a path where none stands: it begins with nothing
unfoldable pub begin_body : Renders → Browse → Offers → View → List ℕ → List ℕ
begin_body render settings offers view path =
    shell render settings offers view (edit_title path) None (edit_main path [] [] [] false) []
