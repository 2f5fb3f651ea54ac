-- The site of the examples, and what their bodies begin with.
use Rattle.std.proofs.Common.{ℕ, List, [], ◌∷◌, ◌++◌, codes}
use Rattle.std.specs.Prelude.{None, true, false}
use Rattle.doc_store_readers.specs.Pages.{Page}
use Rattle.doc_store_readers.specs.Sites.{View}
use Rattle.doc_people.specs.Views.{Renders}
use Rattle.doc_people.specs.declared.settings.Browse.{Browse}
use Rattle.doc_people.specs.declared.settings.Offers.{Offers}

-- the settings where none is given
abbrev pub defaults : Browse
defaults = record { title = codes "Handbook"; language = codes "en"; home = codes "index.md"; guest = None; login = false; editing = true }

-- what readers are offered
abbrev pub no_offers : Offers
no_offers = record { sign_in = false; tools = false }

-- and owners, where editing is on
abbrev pub with_tools : Offers
with_tools = record { sign_in = false; tools = true }

-- pages without headings
abbrev pub untitled : Renders
untitled text = record { pieces = []; headings = []; texts = []; images = [] }

abbrev entry : List ℕ → List ℕ × Page
entry path = (path, record { groups = []; text = path })

-- what the owner sees
abbrev pub for_owner : View
for_owner = record { pages = entry (codes "a.md") ∷ entry (codes "b.md") ∷ entry (codes "c.md") ∷ []; aliases = [] }

-- the head of a page with this title
abbrev pub front : List ℕ → List ℕ
front title =
    codes "<!DOCTYPE html>\n<html lang=\"en\">\n<head>\n<meta charset=\"utf-8\">\n"
    ++ codes "<meta name=\"viewport\" content=\"width=device-width, initial-scale=1\">\n"
    ++ codes "<meta name=\"color-scheme\" content=\"light dark\">\n<title>"
    ++ title
    ++ codes " " ++ (0xC2 ∷ 0xB7 ∷ [])
    ++ codes " Handbook</title>\n<link rel=\"icon\" href=\"data:,\">\n<link rel=\"stylesheet\" href=\"/style.css?5\">\n"
    ++ codes "</head>\n<body>\n"

-- and the bar at the top, with the frame that begins behind it
abbrev pub bar : List ℕ
bar =
    codes "<a class=\"skip\" href=\"#.main\">Skip to content</a>\n<header>\n<a class=\"site\" href=\"/\">Handbook</a>\n"
    ++ codes "<a class=\"menu\" href=\"#.pages\">Pages</a>\n<form role=\"search\" action=\"/search\">\n"
    ++ codes "<input type=\"search\" name=\"q\" aria-label=\"Search\" placeholder=\"Search\">\n<button>Search</button>\n"
    ++ codes "</form>\n<nav aria-label=\"Site\">\n<a href=\"/contents\">Contents</a>\n<a href=\"/broken\">Broken links</a>\n"
    ++ codes "</nav>\n</header>\n<div class=\"frame\">\n"
