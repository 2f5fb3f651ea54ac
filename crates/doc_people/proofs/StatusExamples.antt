-- Examples: pages that say no more than a status.
use Rattle.std.proofs.Common.{◌≡◌, ℕ, List, ◌++◌, codes, refl}
use Rattle.std.specs.Prelude.{Option, Some, None}
use Rattle.doc_people.specs.Statuses.{moved_body, not_found_body, not_signed_in_body}
use Rattle.doc_people.proofs.Bodies.{bar, front}
use Rattle.doc_people.proofs.Computing.{shell_words}
use Rattle.doc_people.proofs.Sites.{defaults, no_offers, with_tools, demo, for_ann, for_owner_moved}

-- the front: the home page isn't there, so to the contents
moved_to_contents :
    moved_body defaults (codes "/contents")
    ≡
    front (codes "Moved") ++ codes "<div class=\"frame bare\">\n<main id=\".main\">\n<h1>Moved</h1>\n"
    ++ codes "<p>The page stands at another address now:</p>\n<p><a href=\"/contents\">/contents</a></p>\n</main>\n</div>\n"
    ++ codes "</body>\n</html>\n"
unfolding shell_words
moved_to_contents = refl

-- an alias
moved_to_a_page :
    moved_body defaults (codes "/page/e/c.md")
    ≡
    front (codes "Moved") ++ codes "<div class=\"frame bare\">\n<main id=\".main\">\n<h1>Moved</h1>\n"
    ++ codes "<p>The page stands at another address now:</p>\n<p><a href=\"/page/e/c.md\">/page/e/c.md</a></p>\n</main>\n"
    ++ codes "</div>\n</body>\n</html>\n"
unfolding shell_words
moved_to_a_page = refl

-- without a token
not_signed_in :
    not_signed_in_body defaults
    ≡
    front (codes "Not signed in") ++ codes "<div class=\"frame bare\">\n<main id=\".main\">\n<h1>Not signed in</h1>\n"
    ++ codes "<p>These pages are for readers who are signed in. Whoever runs this site can let you in.</p>\n</main>\n</div>\n"
    ++ codes "</body>\n</html>\n"
unfolding shell_words
not_signed_in = refl

-- no page, or a folder that isn't seen
not_found :
    not_found_body demo defaults no_offers for_ann None
    ≡
    front (codes "Not found") ++ bar
    ++ codes "<main id=\".main\">\n<h1>Not found</h1>\n<p>There is no page here that you may read.</p>\n"
    ++ codes "<p><a href=\"/contents\">Contents</a></p>\n</main>\n<nav class=\"tree\" id=\".pages\" aria-label=\"Pages\">\n"
    ++ codes "<p class=\"top\"><a href=\"/contents\">Home</a></p>\n<ul>\n<li><a href=\"/page/a.md\">a.md</a></li>\n"
    ++ codes "<li><a href=\"/page/b.md\">b.md</a></li>\n</ul>\n</nav>\n</div>\n</body>\n</html>\n"
unfolding shell_words
not_found = refl

-- a reader is told nothing of the path
not_found_at_a_path :
    (new : Option (List ℕ)) → not_found_body demo defaults no_offers for_ann new ≡ not_found_body demo defaults no_offers for_ann None
unfolding not_found_body
not_found_at_a_path new = refl

-- no page, to an owner
not_found_by_an_owner :
    not_found_body demo defaults with_tools for_owner_moved (Some (codes "zz.md"))
    ≡
    front (codes "Not found") ++ bar
    ++ codes "<main id=\".main\">\n<h1>Not found</h1>\n<p>There is no page here that you may read.</p>\n"
    ++ codes "<p><a href=\"/contents\">Contents</a></p>\n"
    ++ codes "<p><a href=\"/edit/zz.md\">New page</a> at <code>zz.md</code></p>\n</main>\n"
    ++ codes "<nav class=\"tree\" id=\".pages\" aria-label=\"Pages\">\n"
    ++ codes "<p class=\"top\"><a href=\"/contents\">Home</a></p>\n<ul>\n<li><a href=\"/page/a.md\">a.md</a></li>\n"
    ++ codes "<li><a href=\"/page/b.md\">b.md</a></li>\n<li class=\"dir\"><a href=\"/contents/e/\">e</a></li>\n"
    ++ codes "</ul>\n</nav>\n</div>\n</body>\n</html>\n"
unfolding shell_words
not_found_by_an_owner = refl
