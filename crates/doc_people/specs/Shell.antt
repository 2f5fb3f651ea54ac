-- The templates that the pages for people stand in. All of this is this project's choice.
use Rattle.std.specs.Prelude.{ℕ, Bool, true, false, List, [], ◌∷◌, ◌++◌, codes, Option, Some, None, if◌then◌else◌}
use Rattle.doc_page_parts.specs.Escaping.{escaped}
use Rattle.doc_store_readers.specs.Sites.{View}
use Rattle.doc_people.specs.Folders.{edit_href, folder_of, is_folder}
use Rattle.doc_people.specs.Lines.{link}
use Rattle.doc_people.specs.Navigation.{crumbs, tree}
use Rattle.doc_people.specs.Views.{Renders}
use Rattle.doc_people.specs.declared.settings.Browse.{Browse}
use Rattle.doc_people.specs.declared.settings.Offers.{Offers}

-- a space, U+00B7 and a space, between a page's title and the site's
abbrev pub middle_dot : List ℕ
middle_dot = codes " " ++ 0xC2 ∷ 0xB7 ∷ codes " "

-- the address of the style sheet, with its number, which is raised with each change of it
abbrev pub style_sheet_href : List ℕ
style_sheet_href = codes "/style.css?5"

-- what stands before the language
abbrev pub head_start : List ℕ
head_start = codes "<!DOCTYPE html>\n<html lang=\""

-- what stands between the language and the titles
abbrev pub head_metas : List ℕ
head_metas =
    codes "\">\n<head>\n<meta charset=\"utf-8\">\n"
    ++ codes "<meta name=\"viewport\" content=\"width=device-width, initial-scale=1\">\n"
    ++ codes "<meta name=\"color-scheme\" content=\"light dark\">\n<title>"

-- what stands behind the titles
abbrev pub head_links : List ℕ
head_links =
    codes "</title>\n<link rel=\"icon\" href=\"data:,\">\n<link rel=\"stylesheet\" href=\"" ++ style_sheet_href
    ++ codes "\">\n</head>\n<body>\n"

-- the beginning of each page, by its title
unfoldable pub head : Browse → List ℕ → List ℕ
head settings title =
    head_start ++ settings.language ++ head_metas ++ escaped title ++ middle_dot ++ escaped settings.title ++ head_links

-- the main part of a page
abbrev pub main_part : List ℕ → List ℕ
main_part main = codes "<main id=\".main\">\n" ++ main ++ codes "</main>\n"

-- the end of each page
abbrev pub foot_end : List ℕ
foot_end = codes "</body>\n</html>\n"

-- a page that nothing of a view goes into
unfoldable pub bare : Browse → List ℕ → List ℕ → List ℕ
bare settings title main =
    head settings title ++ codes "<div class=\"frame bare\">\n" ++ main_part main ++ codes "</div>\n" ++ foot_end

-- ---- pages with navigation

-- what stands before the site's title in the bar at the top
abbrev pub bar_start : List ℕ
bar_start = codes "<a class=\"skip\" href=\"#.main\">Skip to content</a>\n<header>\n<a class=\"site\" href=\"/\">"

-- the form for searches
abbrev pub search_form : List ℕ
search_form =
    codes "<form role=\"search\" action=\"/search\">\n"
    ++ codes "<input type=\"search\" name=\"q\" aria-label=\"Search\" placeholder=\"Search\">\n"
    ++ codes "<button>Search</button>\n</form>\n"

-- the link to sign in, where it is offered
abbrev pub sign_in_link : Bool → List ℕ
sign_in_link false = []
sign_in_link true = codes "<a href=\"/sign-in\">Sign in</a>\n"

-- the links to lists of the whole site, and to sign in
abbrev pub site_links : Offers → List ℕ
site_links offers =
    codes "<nav aria-label=\"Site\">\n<a href=\"/contents\">Contents</a>\n<a href=\"/broken\">Broken links</a>\n"
    ++ sign_in_link offers.sign_in ++ codes "</nav>\n"

-- the bar at the top
abbrev pub bar : Browse → Offers → List ℕ
bar settings offers =
    bar_start ++ escaped settings.title ++ codes "</a>\n<a class=\"menu\" href=\"#.pages\">Pages</a>\n"
    ++ search_form ++ site_links offers ++ codes "</header>\n"

-- the link that edits a page; a folder has none
abbrev pub edit_link : List ℕ → List ℕ
edit_link place = if is_folder place then [] else link (edit_href place) (codes "Edit") ++ codes "\n"

-- where they are offered: the links that edit the page at the place, and begin one beside it; nothing at none
abbrev pub tools : Bool → Option (List ℕ) → List ℕ
tools false at = []
tools true None = []
tools true (Some place) =
    codes "<p class=\"tools\">\n" ++ edit_link place ++ link (edit_href (folder_of place)) (codes "New page") ++ codes "\n</p>\n"

-- the folders that lead to the place, and the tools, above the page; nothing at none
abbrev pub over : Renders → Offers → View → Option (List ℕ) → List ℕ
over render offers view None = []
over render offers view (Some place) =
    codes "<div class=\"over\">\n<nav class=\"crumbs\" aria-label=\"Folders\">\n<ol>\n" ++ crumbs render view place
    ++ codes "</ol>\n</nav>\n" ++ tools offers.tools (Some place) ++ codes "</div>\n"

-- what stands beside the main part, where there is something
abbrev pub aside_part : List ℕ → List ℕ
aside_part [] = []
aside_part (b ∷ aside) = codes "<aside aria-label=\"About this page\">\n" ++ (b ∷ aside) ++ codes "</aside>\n"

-- the place; nothing at none and at the empty folder
abbrev pub place_line : Option (List ℕ) → List ℕ
place_line None = []
place_line (Some []) = []
place_line (Some (b ∷ place)) = codes "<p><code>" ++ escaped (b ∷ place) ++ codes "</code></p>\n"

-- lines below the page, where there is something
abbrev pub foot_part : List ℕ → List ℕ
foot_part [] = []
foot_part (b ∷ lines) = codes "<footer>\n" ++ (b ∷ lines) ++ codes "</footer>\n"

-- the place and the tools, below the page
abbrev pub foot : Offers → Option (List ℕ) → List ℕ
foot offers at = foot_part (place_line at ++ tools offers.tools at)

-- a page by its title, the place that it stands at, its main part and what stands beside
unfoldable pub shell : Renders → Browse → Offers → View → List ℕ → Option (List ℕ) → List ℕ → List ℕ → List ℕ
shell render settings offers view title at main aside =
    head settings title ++ bar settings offers ++ codes "<div class=\"frame\">\n"
    ++ over render offers view at ++ main_part main ++ aside_part aside ++ tree render view at
    ++ codes "</div>\n" ++ foot offers at ++ foot_end
