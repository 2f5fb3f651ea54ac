-- Examples: the pages with the script, as they are sent but for it.
use Rattle.std.proofs.Common.{◌≡◌, ◌++◌, codes, true, [], refl}
use Rattle.doc_people_editing.specs.EditPage.{begin_body, edit_body, edit_main}
use Rattle.doc_people_editing.specs.NewPage.{new_body, new_main}
use Rattle.doc_people_editing.specs.Script.{script}
use Rattle.doc_people_editing.proofs.Computing.{editing_words}
use Rattle.doc_people_editing.proofs.Sites.{bar, defaults, for_owner, front, no_offers, untitled, with_tools}

-- a page of the demonstration site, by its text, its group and its tag
the_edit_page :
    edit_body untitled defaults no_offers for_owner (codes "a.md") (codes "Hello\n") (codes "staff")
    (codes "\"e912366ea2503539a892e8280dbd618b1f0f6b0710196100ce24c34900c89ef3\"")
    ≡
    front (codes "Edit a.md") ++ bar
    ++ codes "<div class=\"over\">\n<nav class=\"crumbs\" aria-label=\"Folders\">\n<ol>\n"
    ++ codes "<li><a href=\"/contents\">Home</a></li>\n</ol>\n</nav>\n</div>\n<main id=\".main\">\n<h1>a.md</h1>\n"
    ++ codes "<noscript><p>Saving takes the script of this page. Without it, <a href=\"/source/a.md\">the source</a> is "
    ++ codes "read and written by programs.</p></noscript>\n"
    ++ codes "<form id=\"edit\" autocomplete=\"off\" data-path=\"a.md\" "
    ++ codes "data-tag=\"&quot;e912366ea2503539a892e8280dbd618b1f0f6b0710196100ce24c34900c89ef3&quot;\">\n"
    ++ codes "<p><label for=\"text\">Text</label></p>\n<textarea id=\"text\" rows=\"24\" cols=\"80\">\nHello\n</textarea>\n"
    ++ codes "<p><label>Groups <input id=\"groups\" value=\"staff\" size=\"40\"></label> names with commas between; with "
    ++ codes "none, owners alone see the page</p>\n"
    ++ codes "<p><button disabled>Save</button> <button id=\"show\" type=\"button\" disabled>Preview</button> <a "
    ++ codes "href=\"/page/a.md\">The page</a></p>\n<p id=\"said\" role=\"status\"></p>\n</form>\n"
    ++ codes "<section id=\"other\" hidden>\n<h2>As it stands</h2>\n"
    ++ codes "<textarea id=\"theirs\" rows=\"12\" cols=\"80\" aria-label=\"As it stands\" readonly></textarea>\n"
    ++ codes "<p>Groups: <output id=\"their-groups\"></output></p>\n"
    ++ codes "<p><button id=\"keep\" type=\"button\">Save mine in its place</button> <button id=\"take\" type=\"button\">Take "
    ++ codes "it in place of mine</button></p>\n</section>\n"
    ++ codes "<iframe id=\"shown\" title=\"Preview\" sandbox=\"allow-same-origin\" width=\"100%\" height=\"400\" "
    ++ codes "hidden></iframe>\n<section id=\"stands\">\n"
    ++ codes "<form id=\"move\" autocomplete=\"off\"><p><label>New path <input id=\"to\" value=\"a.md\" size=\"40\"></label> "
    ++ codes "<button disabled>Move</button></p></form>\n"
    ++ codes "<form id=\"remove\"><p><button disabled>Delete this page</button></p></form>\n</section>\n<script>"
    ++ script ++ codes "</script>\n" ++ codes "</main>\n" ++ []
    ++ (codes "<nav class=\"tree\" id=\".pages\" aria-label=\"Pages\">\n<p class=\"top\"><a href=\"/contents\">Home</a></p>\n"
    ++ codes "<ul>\n<li><a href=\"/page/a.md\" aria-current=\"page\">a.md</a></li>\n"
    ++ codes "<li><a href=\"/page/b.md\">b.md</a></li>\n<li><a href=\"/page/c.md\">c.md</a></li>\n</ul>\n</nav>\n")
    ++ codes "</div>\n" ++ codes "<footer>\n<p><code>a.md</code></p>\n</footer>\n" ++ codes "</body>\n</html>\n"
unfolding editing_words
the_edit_page = refl

-- the same, as an owner is shown it
the_edit_page_with_tools :
    edit_body untitled defaults with_tools for_owner (codes "a.md") (codes "Hello\n") (codes "staff")
    (codes "\"e912366ea2503539a892e8280dbd618b1f0f6b0710196100ce24c34900c89ef3\"")
    ≡
    front (codes "Edit a.md") ++ bar
    ++ codes "<div class=\"over\">\n<nav class=\"crumbs\" aria-label=\"Folders\">\n<ol>\n"
    ++ codes "<li><a href=\"/contents\">Home</a></li>\n</ol>\n</nav>\n<p class=\"tools\">\n"
    ++ codes "<a href=\"/edit/a.md\">Edit</a>\n<a href=\"/edit/\">New page</a>\n</p>\n</div>\n"
    ++ codes "<main id=\".main\">\n<h1>a.md</h1>\n"
    ++ codes "<noscript><p>Saving takes the script of this page. Without it, <a href=\"/source/a.md\">the source</a> is "
    ++ codes "read and written by programs.</p></noscript>\n"
    ++ codes "<form id=\"edit\" autocomplete=\"off\" data-path=\"a.md\" "
    ++ codes "data-tag=\"&quot;e912366ea2503539a892e8280dbd618b1f0f6b0710196100ce24c34900c89ef3&quot;\">\n"
    ++ codes "<p><label for=\"text\">Text</label></p>\n<textarea id=\"text\" rows=\"24\" cols=\"80\">\nHello\n</textarea>\n"
    ++ codes "<p><label>Groups <input id=\"groups\" value=\"staff\" size=\"40\"></label> names with commas between; with "
    ++ codes "none, owners alone see the page</p>\n"
    ++ codes "<p><button disabled>Save</button> <button id=\"show\" type=\"button\" disabled>Preview</button> <a "
    ++ codes "href=\"/page/a.md\">The page</a></p>\n<p id=\"said\" role=\"status\"></p>\n</form>\n"
    ++ codes "<section id=\"other\" hidden>\n<h2>As it stands</h2>\n"
    ++ codes "<textarea id=\"theirs\" rows=\"12\" cols=\"80\" aria-label=\"As it stands\" readonly></textarea>\n"
    ++ codes "<p>Groups: <output id=\"their-groups\"></output></p>\n"
    ++ codes "<p><button id=\"keep\" type=\"button\">Save mine in its place</button> <button id=\"take\" type=\"button\">Take "
    ++ codes "it in place of mine</button></p>\n</section>\n"
    ++ codes "<iframe id=\"shown\" title=\"Preview\" sandbox=\"allow-same-origin\" width=\"100%\" height=\"400\" "
    ++ codes "hidden></iframe>\n<section id=\"stands\">\n"
    ++ codes "<form id=\"move\" autocomplete=\"off\"><p><label>New path <input id=\"to\" value=\"a.md\" size=\"40\"></label> "
    ++ codes "<button disabled>Move</button></p></form>\n"
    ++ codes "<form id=\"remove\"><p><button disabled>Delete this page</button></p></form>\n</section>\n<script>"
    ++ script ++ codes "</script>\n" ++ codes "</main>\n" ++ []
    ++ (codes "<nav class=\"tree\" id=\".pages\" aria-label=\"Pages\">\n<p class=\"top\"><a href=\"/contents\">Home</a></p>\n"
    ++ codes "<ul>\n<li><a href=\"/page/a.md\" aria-current=\"page\">a.md</a></li>\n"
    ++ codes "<li><a href=\"/page/b.md\">b.md</a></li>\n<li><a href=\"/page/c.md\">c.md</a></li>\n</ul>\n</nav>\n")
    ++ codes "</div>\n"
    ++ (codes "<footer>\n<p><code>a.md</code></p>\n<p class=\"tools\">\n"
    ++ codes "<a href=\"/edit/a.md\">Edit</a>\n<a href=\"/edit/\">New page</a>\n</p>\n</footer>\n")
    ++ codes "</body>\n</html>\n"
unfolding editing_words
the_edit_page_with_tools = refl

-- a path where no page stands: it is at none, so no tools are shown
a_page_that_begins :
    begin_body untitled defaults with_tools for_owner (codes "e/n.md")
    ≡
    front (codes "Edit e/n.md") ++ bar
    ++ codes "<main id=\".main\">\n<h1>e/n.md</h1>\n"
    ++ codes "<noscript><p>Saving takes the script of this page. Without it, <a href=\"/source/e/n.md\">the source</a> "
    ++ codes "is read and written by programs.</p></noscript>\n"
    ++ codes "<form id=\"edit\" autocomplete=\"off\" data-path=\"e/n.md\" data-tag=\"\">\n"
    ++ codes "<p><label for=\"text\">Text</label></p>\n<textarea id=\"text\" rows=\"24\" cols=\"80\">\n</textarea>\n"
    ++ codes "<p><label>Groups <input id=\"groups\" value=\"\" size=\"40\"></label> names with commas between; with none, "
    ++ codes "owners alone see the page</p>\n"
    ++ codes "<p><button disabled>Save</button> <button id=\"show\" type=\"button\" disabled>Preview</button> <a "
    ++ codes "href=\"/page/e/n.md\">The page</a></p>\n<p id=\"said\" role=\"status\"></p>\n</form>\n"
    ++ codes "<section id=\"other\" hidden>\n<h2>As it stands</h2>\n"
    ++ codes "<textarea id=\"theirs\" rows=\"12\" cols=\"80\" aria-label=\"As it stands\" readonly></textarea>\n"
    ++ codes "<p>Groups: <output id=\"their-groups\"></output></p>\n"
    ++ codes "<p><button id=\"keep\" type=\"button\">Save mine in its place</button> <button id=\"take\" type=\"button\">Take "
    ++ codes "it in place of mine</button></p>\n</section>\n"
    ++ codes "<iframe id=\"shown\" title=\"Preview\" sandbox=\"allow-same-origin\" width=\"100%\" height=\"400\" "
    ++ codes "hidden></iframe>\n<section id=\"stands\" hidden>\n"
    ++ codes "<form id=\"move\" autocomplete=\"off\"><p><label>New path <input id=\"to\" value=\"e/n.md\" size=\"40\"></label> "
    ++ codes "<button disabled>Move</button></p></form>\n"
    ++ codes "<form id=\"remove\"><p><button disabled>Delete this page</button></p></form>\n</section>\n<script>"
    ++ script ++ codes "</script>\n" ++ codes "</main>\n" ++ []
    ++ (codes "<nav class=\"tree\" id=\".pages\" aria-label=\"Pages\">\n<p class=\"top\"><a href=\"/contents\">Home</a></p>\n"
    ++ codes "<ul>\n<li><a href=\"/page/a.md\">a.md</a></li>\n<li><a href=\"/page/b.md\">b.md</a></li>\n"
    ++ codes "<li><a href=\"/page/c.md\">c.md</a></li>\n</ul>\n</nav>\n")
    ++ codes "</div>\n" ++ [] ++ codes "</body>\n</html>\n"
unfolding editing_words
a_page_that_begins = refl

-- no path yet
a_new_page :
    new_body untitled defaults with_tools for_owner []
    ≡
    front (codes "New page") ++ bar
    ++ codes "<main id=\".main\">\n<h1>New page</h1>\n"
    ++ codes "<noscript><p>This takes the script of this page. Without it, write the path behind /edit/ in the "
    ++ codes "address.</p></noscript>\n"
    ++ codes "<form id=\"new\" autocomplete=\"off\"><p><label>Path <input id=\"path\" value=\"\" size=\"40\" required></label> "
    ++ codes "<button disabled>Begin</button></p></form>\n"
    ++ codes "<p>As guide/start.md: up to 16 names with / between, 200 bytes in all.</p>\n<script>"
    ++ script ++ codes "</script>\n" ++ codes "</main>\n" ++ []
    ++ (codes "<nav class=\"tree\" id=\".pages\" aria-label=\"Pages\">\n<p class=\"top\"><a href=\"/contents\">Home</a></p>\n"
    ++ codes "<ul>\n<li><a href=\"/page/a.md\">a.md</a></li>\n<li><a href=\"/page/b.md\">b.md</a></li>\n"
    ++ codes "<li><a href=\"/page/c.md\">c.md</a></li>\n</ul>\n</nav>\n")
    ++ codes "</div>\n" ++ [] ++ codes "</body>\n</html>\n"
unfolding editing_words
a_new_page = refl

-- a folder, whose name would end the field
a_new_page_in_a_folder :
    new_main (codes "g\"/&/")
    ≡
    codes "<h1>New page</h1>\n"
    ++ codes "<noscript><p>This takes the script of this page. Without it, write the path behind /edit/ in the "
    ++ codes "address.</p></noscript>\n"
    ++ codes "<form id=\"new\" autocomplete=\"off\"><p><label>Path <input id=\"path\" value=\"g&quot;/&amp;/\" size=\"40\" "
    ++ codes "required></label> <button disabled>Begin</button></p></form>\n"
    ++ codes "<p>As guide/start.md: up to 16 names with / between, 200 bytes in all.</p>\n<script>"
    ++ script
    ++ codes "</script>\n"
unfolding editing_words
a_new_page_in_a_folder = refl

-- a text that would end the field and begin a script, and that begins with a line end; a path that would end its fields
hostile_texts :
    edit_main (codes "x\"><script> y") (codes "\n</textarea><script>x</script> & \"q\"") (codes "ops,staff") (codes "\"0\"") true
    ≡
    codes "<h1>x&quot;&gt;&lt;script&gt; y</h1>\n"
    ++ codes "<noscript><p>Saving takes the script of this page. Without it, <a "
    ++ codes "href=\"/source/x%22%3E%3Cscript%3E%20y\">the source</a> is read and written by programs.</p></noscript>\n"
    ++ codes "<form id=\"edit\" autocomplete=\"off\" data-path=\"x%22%3E%3Cscript%3E%20y\" data-tag=\"&quot;0&quot;\">\n"
    ++ codes "<p><label for=\"text\">Text</label></p>\n<textarea id=\"text\" rows=\"24\" cols=\"80\">\n\n"
    ++ codes "&lt;/textarea&gt;&lt;script&gt;x&lt;/script&gt; &amp; &quot;q&quot;</textarea>\n"
    ++ codes "<p><label>Groups <input id=\"groups\" value=\"ops,staff\" size=\"40\"></label> names with commas between; with "
    ++ codes "none, owners alone see the page</p>\n"
    ++ codes "<p><button disabled>Save</button> <button id=\"show\" type=\"button\" disabled>Preview</button> <a "
    ++ codes "href=\"/page/x%22%3E%3Cscript%3E%20y\">The page</a></p>\n<p id=\"said\" role=\"status\"></p>\n</form>\n"
    ++ codes "<section id=\"other\" hidden>\n<h2>As it stands</h2>\n"
    ++ codes "<textarea id=\"theirs\" rows=\"12\" cols=\"80\" aria-label=\"As it stands\" readonly></textarea>\n"
    ++ codes "<p>Groups: <output id=\"their-groups\"></output></p>\n"
    ++ codes "<p><button id=\"keep\" type=\"button\">Save mine in its place</button> <button id=\"take\" type=\"button\">Take "
    ++ codes "it in place of mine</button></p>\n</section>\n"
    ++ codes "<iframe id=\"shown\" title=\"Preview\" sandbox=\"allow-same-origin\" width=\"100%\" height=\"400\" "
    ++ codes "hidden></iframe>\n<section id=\"stands\">\n"
    ++ codes "<form id=\"move\" autocomplete=\"off\"><p><label>New path <input id=\"to\" value=\"x&quot;&gt;&lt;script&gt; y\" "
    ++ codes "size=\"40\"></label> <button disabled>Move</button></p></form>\n"
    ++ codes "<form id=\"remove\"><p><button disabled>Delete this page</button></p></form>\n</section>\n<script>"
    ++ script
    ++ codes "</script>\n"
unfolding editing_words
hostile_texts = refl
