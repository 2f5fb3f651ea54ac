-- Examples: the links that edit pages, above and below a page.
use Rattle.std.proofs.Common.{◌≡◌, ℕ, List, [], ◌++◌, true, false, codes, refl}
use Rattle.std.specs.Prelude.{Option, Some, None}
use Rattle.doc_people.specs.Shell.{foot, over, tools}
use Rattle.doc_people.proofs.Computing.{shell_words}
use Rattle.doc_people.proofs.Sites.{with_tools, no_offers, titled, view_of_paths}

-- a page is edited, or one is begun beside it; in a folder one is begun
all_tools :
    (tools true (Some (codes "e f/a&b.md"))
    ≡ codes "<p class=\"tools\">\n<a href=\"/edit/e%20f/a%26b.md\">Edit</a>\n<a href=\"/edit/e%20f/\">New page</a>\n</p>\n")
    × (tools true (Some (codes "a.md"))
    ≡ codes "<p class=\"tools\">\n<a href=\"/edit/a.md\">Edit</a>\n<a href=\"/edit/\">New page</a>\n</p>\n")
    × (tools true (Some (codes "e/f/")) ≡ codes "<p class=\"tools\">\n<a href=\"/edit/e/f/\">New page</a>\n</p>\n")
    × (tools true (Some []) ≡ codes "<p class=\"tools\">\n<a href=\"/edit/\">New page</a>\n</p>\n")
    × (tools true None ≡ [])
unfolding shell_words
all_tools = (refl, refl, refl, refl, refl)

no_tools : (at : Option (List ℕ)) → tools false at ≡ []
no_tools at = refl

-- below the page
feet :
    (foot with_tools (Some (codes "e/")) ≡
    codes "<footer>\n<p><code>e/</code></p>\n<p class=\"tools\">\n<a href=\"/edit/e/\">New page</a>\n</p>\n</footer>\n")
    × (foot with_tools (Some []) ≡ codes "<footer>\n<p class=\"tools\">\n<a href=\"/edit/\">New page</a>\n</p>\n</footer>\n")
    × (foot with_tools None ≡ [])
    × (foot no_offers (Some (codes "<a>.md")) ≡ codes "<footer>\n<p><code>&lt;a&gt;.md</code></p>\n</footer>\n")
    × (foot no_offers (Some []) ≡ [])
unfolding shell_words
feet = (refl, refl, refl, refl, refl)

-- and above
heads :
    (over titled with_tools (view_of_paths []) (Some []) ≡
    codes "<div class=\"over\">\n<nav class=\"crumbs\" aria-label=\"Folders\">\n<ol>\n"
    ++ codes "<li><a href=\"/contents\" aria-current=\"page\">Home</a></li>\n</ol>\n</nav>\n"
    ++ codes "<p class=\"tools\">\n<a href=\"/edit/\">New page</a>\n</p>\n</div>\n")
    × (over titled with_tools (view_of_paths []) None ≡ [])
unfolding shell_words
heads = (refl, refl)
