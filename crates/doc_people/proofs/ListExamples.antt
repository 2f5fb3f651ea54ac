-- Examples: contents, backlinks and broken links.
use Rattle.std.proofs.Common.{◌≡◌, [], ◌++◌, codes, refl}
use Rattle.std.specs.Prelude.{None}
use Rattle.doc_people.specs.BrokenLinks.{broken_body}
use Rattle.doc_people.specs.Lists.{backlinks_body, contents_body}
use Rattle.doc_people.proofs.Bodies.{bar, front}
use Rattle.doc_people.proofs.Computing.{page_words}
use Rattle.doc_people.proofs.Sites.{defaults, no_offers, with_tools, demo, for_ann, for_bob_later, for_bob_moved, for_owner_moved}

-- contents
contents_of_all :
    contents_body demo defaults no_offers for_ann [] []
    ≡
    front (codes "Contents") ++ bar ++ codes "<div class=\"over\">\n<nav class=\"crumbs\" aria-label=\"Folders\">\n<ol>\n"
    ++ codes "<li><a href=\"/contents\" aria-current=\"page\">Home</a></li>\n</ol>\n</nav>\n</div>\n<main id=\".main\">\n"
    ++ codes "<h1>Contents</h1>\n<ul class=\"list\">\n"
    ++ codes "<li><a href=\"/page/a.md\">a.md</a> <span class=\"path\">a.md</span></li>\n"
    ++ codes "<li><a href=\"/page/b.md\">b.md</a> <span class=\"path\">b.md</span></li>\n</ul>\n</main>\n"
    ++ codes "<nav class=\"tree\" id=\".pages\" aria-label=\"Pages\">\n<p class=\"top\"><a href=\"/contents\">Home</a></p>\n"
    ++ codes "<ul>\n<li><a href=\"/page/a.md\">a.md</a></li>\n<li><a href=\"/page/b.md\">b.md</a></li>\n</ul>\n</nav>\n"
    ++ codes "</div>\n</body>\n</html>\n"
unfolding page_words
contents_of_all = refl

-- a folder
contents_of_a_folder :
    contents_body demo defaults no_offers for_bob_moved (codes "e/") []
    ≡
    front (codes "e") ++ bar ++ codes "<div class=\"over\">\n<nav class=\"crumbs\" aria-label=\"Folders\">\n<ol>\n"
    ++ codes "<li><a href=\"/contents\">Home</a></li>\n<li><a href=\"/contents/e/\" aria-current=\"page\">e</a></li>\n</ol>\n"
    ++ codes "</nav>\n</div>\n<main id=\".main\">\n<h1>e</h1>\n<ul class=\"list\">\n"
    ++ codes "<li><a href=\"/page/e/c.md\">c.md</a> <span class=\"path\">e/c.md</span></li>\n</ul>\n</main>\n"
    ++ codes "<nav class=\"tree\" id=\".pages\" aria-label=\"Pages\">\n<p class=\"up\"><a href=\"/contents\">Home</a></p>\n"
    ++ codes "<p class=\"top\"><a href=\"/contents/e/\">e</a></p>\n<ul>\n<li><a href=\"/page/e/c.md\">c.md</a></li>\n</ul>\n"
    ++ codes "</nav>\n</div>\n<footer>\n<p><code>e/</code></p>\n</footer>\n</body>\n</html>\n"
unfolding page_words
contents_of_a_folder = refl

-- broken links, by an owner
broken_links :
    broken_body demo defaults with_tools for_owner_moved None []
    ≡
    front (codes "Broken links") ++ bar
    ++ codes "<main id=\".main\">\n<h1>Broken links</h1>\n<p>A page that you may not read counts as none.</p>\n"
    ++ codes "<table class=\"broken\">\n<thead>\n"
    ++ codes "<tr><th scope=\"col\">Link</th><th scope=\"col\">Leads to</th><th scope=\"col\">What is wrong</th></tr>\n"
    ++ codes "</thead>\n<tbody>\n" ++ codes "<tr><th colspan=\"3\" scope=\"rowgroup\"><a href=\"/page/b.md\">b.md</a> <span"
    ++ codes " class=\"path\">b.md</span></th></tr>\n"
    ++ codes "<tr><td>2</td><td><code>d.md</code> <a href=\"/edit/d.md\">New page</a></td><td>no such page</td></tr>\n"
    ++ codes "</tbody>\n<tbody>\n" ++ codes "<tr><th colspan=\"3\" scope=\"rowgroup\"><a href=\"/page/e/c.md\">c.md</a> <span"
    ++ codes " class=\"path\">e/c.md</span></th></tr>\n"
    ++ codes "<tr><td>1</td><td><code>e/b.md</code> <a href=\"/edit/e/b.md\">New page</a></td><td>no such page</td></tr>\n"
    ++ codes "<tr><td>2</td><td><code>e/b.md</code> <a href=\"/edit/e/b.md\">New page</a></td><td>no such page</td></tr>\n"
    ++ codes "</tbody>\n</table>\n</main>\n"
    ++ codes "<nav class=\"tree\" id=\".pages\" aria-label=\"Pages\">\n<p class=\"top\"><a href=\"/contents\">Home</a></p>\n"
    ++ codes "<ul>\n<li><a href=\"/page/a.md\">a.md</a></li>\n<li><a href=\"/page/b.md\">b.md</a></li>\n"
    ++ codes "<li class=\"dir\"><a href=\"/contents/e/\">e</a></li>\n</ul>\n</nav>\n</div>\n</body>\n</html>\n"
unfolding page_words
broken_links = refl

-- where editing is off, no page can be begun there
broken_links_without_tools :
    broken_body demo defaults no_offers for_owner_moved None []
    ≡
    front (codes "Broken links") ++ bar
    ++ codes "<main id=\".main\">\n<h1>Broken links</h1>\n<p>A page that you may not read counts as none.</p>\n"
    ++ codes "<table class=\"broken\">\n<thead>\n"
    ++ codes "<tr><th scope=\"col\">Link</th><th scope=\"col\">Leads to</th><th scope=\"col\">What is wrong</th></tr>\n"
    ++ codes "</thead>\n<tbody>\n" ++ codes "<tr><th colspan=\"3\" scope=\"rowgroup\"><a href=\"/page/b.md\">b.md</a> <span"
    ++ codes " class=\"path\">b.md</span></th></tr>\n<tr><td>2</td><td><code>d.md</code></td><td>no such page</td></tr>\n"
    ++ codes "</tbody>\n<tbody>\n" ++ codes "<tr><th colspan=\"3\" scope=\"rowgroup\"><a href=\"/page/e/c.md\">c.md</a> <span"
    ++ codes " class=\"path\">e/c.md</span></th></tr>\n<tr><td>1</td><td><code>e/b.md</code></td><td>no such page</td></tr>\n"
    ++ codes "<tr><td>2</td><td><code>e/b.md</code></td><td>no such page</td></tr>\n</tbody>\n</table>\n</main>\n"
    ++ codes "<nav class=\"tree\" id=\".pages\" aria-label=\"Pages\">\n<p class=\"top\"><a href=\"/contents\">Home</a></p>\n"
    ++ codes "<ul>\n<li><a href=\"/page/a.md\">a.md</a></li>\n<li><a href=\"/page/b.md\">b.md</a></li>\n"
    ++ codes "<li class=\"dir\"><a href=\"/contents/e/\">e</a></li>\n</ul>\n</nav>\n</div>\n</body>\n</html>\n"
unfolding page_words
broken_links_without_tools = refl

-- pages that link to one
no_backlinks :
    backlinks_body demo defaults no_offers for_bob_later (codes "b.md") []
    ≡
    front (codes "Pages that link to b.md") ++ bar
    ++ codes "<div class=\"over\">\n<nav class=\"crumbs\" aria-label=\"Folders\">\n<ol>\n"
    ++ codes "<li><a href=\"/contents\" aria-current=\"page\">Home</a></li>\n</ol>\n</nav>\n</div>\n<main id=\".main\">\n"
    ++ codes "<h1>Pages that link to <a href=\"/page/b.md\">b.md</a></h1>\n<p>No other page links here.</p>\n</main>\n"
    ++ codes "<nav class=\"tree\" id=\".pages\" aria-label=\"Pages\">\n<p class=\"top\"><a href=\"/contents\">Home</a></p>\n"
    ++ codes "<ul>\n<li><a href=\"/page/b.md\">b.md</a></li>\n<li class=\"dir\"><a href=\"/contents/e/\">e</a></li>\n</ul>\n"
    ++ codes "</nav>\n</div>\n</body>\n</html>\n"
unfolding page_words
no_backlinks = refl
