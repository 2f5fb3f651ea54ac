-- Examples: pages for people that show a page of the site.
use Rattle.std.proofs.Common.{◌≡◌, ◌++◌, codes, refl}
use Rattle.std.specs.Prelude.{None}
use Rattle.doc_people.specs.Pages.{page_body}
use Rattle.doc_people.proofs.Bodies.{bar, front}
use Rattle.doc_people.proofs.Computing.{page_words}
use Rattle.doc_people.proofs.Sites.{defaults, no_offers, with_tools, demo, for_ann, for_ann_later, for_owner, guide, two_links}

-- a page, with links that lead nowhere for its reader
links_that_lead_nowhere :
    page_body demo defaults no_offers for_ann None (codes "b.md") (demo two_links)
    ≡
    front (codes "b.md") ++ bar ++ codes "<div class=\"over\">\n<nav class=\"crumbs\" aria-label=\"Folders\">\n<ol>\n"
    ++ codes "<li><a href=\"/contents\">Home</a></li>\n</ol>\n</nav>\n</div>\n<main id=\".main\">\n<article>\n<h1>b.md</h1>\n"
    ++ codes "<p><a class=\"missing\">c</a> <a class=\"missing\">d</a></p>\n</article>\n</main>\n"
    ++ codes "<nav class=\"tree\" id=\".pages\" aria-label=\"Pages\">\n<p class=\"top\"><a href=\"/contents\">Home</a></p>\n"
    ++ codes "<ul>\n<li><a href=\"/page/a.md\">a.md</a></li>\n<li><a href=\"/page/b.md\" aria-current=\"page\">b.md</a></li>\n"
    ++ codes "</ul>\n</nav>\n</div>\n<footer>\n<p><code>b.md</code></p>\n</footer>\n</body>\n</html>\n"
unfolding page_words
links_that_lead_nowhere = refl

-- the same by an owner, who sees where one leads
a_link_that_leads_to_a_page :
    page_body demo defaults with_tools for_owner None (codes "b.md") (demo two_links)
    ≡
    front (codes "b.md") ++ bar ++ codes "<div class=\"over\">\n<nav class=\"crumbs\" aria-label=\"Folders\">\n<ol>\n"
    ++ codes "<li><a href=\"/contents\">Home</a></li>\n</ol>\n</nav>\n<p class=\"tools\">\n"
    ++ codes "<a href=\"/edit/b.md\">Edit</a>\n<a href=\"/edit/\">New page</a>\n</p>\n</div>\n"
    ++ codes "<main id=\".main\">\n<article>\n<h1>b.md</h1>\n"
    ++ codes "<p><a href=\"/page/c.md\">c</a> <a class=\"missing\">d</a></p>\n</article>\n</main>\n"
    ++ codes "<aside aria-label=\"About this page\">\n<h2>Linked from</h2>\n<ul>\n<li><a href=\"/page/c.md\">c.md</a></li>\n"
    ++ codes "</ul>\n</aside>\n<nav class=\"tree\" id=\".pages\" aria-label=\"Pages\">\n"
    ++ codes "<p class=\"top\"><a href=\"/contents\">Home</a></p>\n<ul>\n<li><a href=\"/page/a.md\">a.md</a></li>\n"
    ++ codes "<li><a href=\"/page/b.md\" aria-current=\"page\">b.md</a></li>\n<li><a href=\"/page/c.md\">c.md</a></li>\n"
    ++ codes "</ul>\n</nav>\n</div>\n<footer>\n<p><code>b.md</code></p>\n<p class=\"tools\">\n"
    ++ codes "<a href=\"/edit/b.md\">Edit</a>\n<a href=\"/edit/\">New page</a>\n</p>\n</footer>\n</body>\n</html>\n"
unfolding page_words
a_link_that_leads_to_a_page = refl

-- where editing is off, nothing of it is shown
an_owners_page_without_tools :
    page_body demo defaults no_offers for_owner None (codes "b.md") (demo two_links)
    ≡
    front (codes "b.md") ++ bar ++ codes "<div class=\"over\">\n<nav class=\"crumbs\" aria-label=\"Folders\">\n<ol>\n"
    ++ codes "<li><a href=\"/contents\">Home</a></li>\n</ol>\n</nav>\n</div>\n<main id=\".main\">\n<article>\n<h1>b.md</h1>\n"
    ++ codes "<p><a href=\"/page/c.md\">c</a> <a class=\"missing\">d</a></p>\n</article>\n</main>\n"
    ++ codes "<aside aria-label=\"About this page\">\n<h2>Linked from</h2>\n<ul>\n<li><a href=\"/page/c.md\">c.md</a></li>\n"
    ++ codes "</ul>\n</aside>\n<nav class=\"tree\" id=\".pages\" aria-label=\"Pages\">\n"
    ++ codes "<p class=\"top\"><a href=\"/contents\">Home</a></p>\n<ul>\n<li><a href=\"/page/a.md\">a.md</a></li>\n"
    ++ codes "<li><a href=\"/page/b.md\" aria-current=\"page\">b.md</a></li>\n<li><a href=\"/page/c.md\">c.md</a></li>\n"
    ++ codes "</ul>\n</nav>\n</div>\n<footer>\n<p><code>b.md</code></p>\n</footer>\n</body>\n</html>\n"
unfolding page_words
an_owners_page_without_tools = refl

-- a page in a folder, with headings, with a link to it, and with HTML of its own
a_page_in_a_folder :
    page_body demo defaults no_offers for_ann_later None (codes "g/guide.md") (demo guide)
    ≡
    front (codes "The guide") ++ bar ++ codes "<div class=\"over\">\n<nav class=\"crumbs\" aria-label=\"Folders\">\n<ol>\n"
    ++ codes "<li><a href=\"/contents\">Home</a></li>\n<li><a href=\"/contents/g/\">g</a></li>\n</ol>\n</nav>\n</div>\n"
    ++ codes "<main id=\".main\">\n<article>\n<h1 id=\"the-guide\">The guide</h1>\n<p>See <a href=\"/page/a.md\">a</a>.</p>\n"
    ++ codes "&lt;form action=\"/x\">\n<h2 id=\"use\">Use</h2>\n<p>On kiwis &amp; plums.</p>\n</article>\n</main>\n"
    ++ codes "<aside aria-label=\"About this page\">\n<h2>On this page</h2>\n<ul>\n"
    ++ codes "<li class=\"h2\"><a href=\"#use\">Use</a></li>\n</ul>\n<h2>Linked from</h2>\n<ul>\n"
    ++ codes "<li><a href=\"/page/a.md\">a.md</a></li>\n</ul>\n</aside>\n"
    ++ codes "<nav class=\"tree\" id=\".pages\" aria-label=\"Pages\">\n<p class=\"up\"><a href=\"/contents\">Home</a></p>\n"
    ++ codes "<p class=\"top\"><a href=\"/contents/g/\">g</a></p>\n<ul>\n"
    ++ codes "<li><a href=\"/page/g/guide.md\" aria-current=\"page\">The guide</a></li>\n</ul>\n</nav>\n</div>\n<footer>\n"
    ++ codes "<p><code>g/guide.md</code></p>\n</footer>\n</body>\n</html>\n"
unfolding page_words
a_page_in_a_folder = refl
