-- What the bodies of the examples begin with, as it is sent.
use Rattle.std.proofs.Common.{ℕ, List, [], ◌∷◌, ◌++◌, codes}

-- the head of a page with this title
abbrev pub front : List ℕ → List ℕ
front title =
    codes "<!DOCTYPE html>\n<html lang=\"en\">\n<head>\n<meta charset=\"utf-8\">\n"
    ++ codes "<meta name=\"viewport\" content=\"width=device-width, initial-scale=1\">\n"
    ++ codes "<meta name=\"color-scheme\" content=\"light dark\">\n<title>"
    ++ title
    ++ codes " " ++ (0xC2 ∷ 0xB7 ∷ [])
    ++ codes " Handbook</title>\n<link rel=\"icon\" href=\"data:,\">\n<link rel=\"stylesheet\" href=\"/style.css?5\">\n"
    ++ codes "</head>\n<body>\n"

-- and the bar at the top, with the frame that begins behind it
abbrev pub bar : List ℕ
bar =
    codes "<a class=\"skip\" href=\"#.main\">Skip to content</a>\n<header>\n<a class=\"site\" href=\"/\">Handbook</a>\n"
    ++ codes "<a class=\"menu\" href=\"#.pages\">Pages</a>\n<form role=\"search\" action=\"/search\">\n"
    ++ codes "<input type=\"search\" name=\"q\" aria-label=\"Search\" placeholder=\"Search\">\n<button>Search</button>\n"
    ++ codes "</form>\n<nav aria-label=\"Site\">\n<a href=\"/contents\">Contents</a>\n<a href=\"/broken\">Broken links</a>\n"
    ++ codes "</nav>\n</header>\n<div class=\"frame\">\n"
