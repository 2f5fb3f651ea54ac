-- Examples: strikethrough, task list items and bare links (GitHub Flavored Markdown 0.29, sections 6.5, 5.3 and 6.9). Those beyond the
-- specification's are this project's own.
use Rattle.std.proofs.Common.{◌≡◌, [], ◌∷◌, refl, true}
use Rattle.std.specs.Prelude.{codes}
use Prim.Native.String.{String}
use Rattle.doc_rules.specs.Rules.{built_in_rules}
use Rattle.doc_rules.specs.Html.{rendered_plain}
use Rattle.doc_rules.specs.Pages.{page_of, HtmlPiece}
use Rattle.doc_rules.proofs.Computing.{html_words, page_words}
use Rattle.doc_rules.proofs.Shows.{◌shows◌}

infix 25 ◌strikes◌ ◌tasks◌ ◌links◌ ◌extends◌
-- ---- strikethrough (6.5)

abbrev ◌strikes◌ : String → String → Type 0
input strikes output = rendered_plain (record built_in_rules { strikethrough = true }) (codes input) ≡ codes output

-- the specification's
of_the_specification :
    "~~Hi~~ Hello, ~there~ world!\n" strikes "<p><del>Hi</del> Hello, <del>there</del> world!</p>\n" ×
    "This ~~has a\n\nnew paragraph~~.\n" strikes "<p>This ~~has a</p>\n<p>new paragraph~~.</p>\n"
unfolding html_words
of_the_specification = (refl, refl)

-- a run matches one of its own length; three or more are text
lengths :
    "~~a~~ ~b~ ~~~c~~~ ~d~~\n" strikes "<p><del>a</del> <del>b</del> ~~~c~~~ ~d~~</p>\n" ×
    "~~a ~b~~ c\n" strikes "<p><del>a ~b</del> c</p>\n"
unfolding html_words
lengths = (refl, refl)

-- spans don't cross; the first that can close has its opener. A '~' within a word may open and close, as a '*' may
with_emphasis :
    "*a ~~b* c~~\n" strikes "<p><em>a ~~b</em> c~~</p>\n" ×
    "**a ~b~** c~d~e\n" strikes "<p><strong>a <del>b</del></strong> c<del>d</del>e</p>\n" ×
    "~ a~ ~a ~\n" strikes "<p>~ a~ ~a ~</p>\n"
unfolding html_words
with_emphasis = (refl, refl, refl)

-- ---- tasks (5.3)

abbrev ◌tasks◌ : String → String → Type 0
input tasks output = rendered_plain (record built_in_rules { tasks = true }) (codes input) ≡ codes output

-- a marker needs a space and text behind it
markers :
    "- [ ] a\n- [x] b\n- [x]d\n- [ ]\n" tasks
    "<ul>\n<li><input type=\"checkbox\" disabled=\"\" /> a</li>\n<li><input type=\"checkbox\" checked=\"\" disabled=\"\" /> b</li>\n<li>[x]d</li>\n<li>[ ]</li>\n</ul>\n" ×
    "1. [X] \t*a*\n" tasks "<ol>\n<li><input type=\"checkbox\" checked=\"\" disabled=\"\" /> <em>a</em></li>\n</ol>\n" ×
    "[ ] a\n" tasks "<p>[ ] a</p>\n"
unfolding html_words
markers = (refl, refl, refl)

-- in a loose list the box stands inside the paragraph; the marker counts in the first paragraph alone, when definitions have left, and
-- wins over a reference
first_paragraphs :
    "- [ ] a\n\n  [ ] b\n" tasks "<ul>\n<li>\n<p><input type=\"checkbox\" disabled=\"\" /> a</p>\n<p>[ ] b</p>\n</li>\n</ul>\n" ×
    "- [x]: /u\n  [x] a\n" tasks "<ul>\n<li><input type=\"checkbox\" checked=\"\" disabled=\"\" /> a</li>\n</ul>\n" ×
    "- # a\n  [x] b\n" tasks "<ul>\n<li>\n<h1>a</h1>\n[x] b</li>\n</ul>\n" ×
    "> - - [ ] a\n" tasks
    "<blockquote>\n<ul>\n<li>\n<ul>\n<li><input type=\"checkbox\" disabled=\"\" /> a</li>\n</ul>\n</li>\n</ul>\n</blockquote>\n"
unfolding html_words
first_paragraphs = (refl, refl, refl, refl)

-- a box has no text
no_text :
    page_of (record built_in_rules { tasks = true }) (codes "- [ ] a\n")
    ≡ record {
      pieces = HtmlPiece (codes "<ul>\n<li><input type=\"checkbox\" disabled=\"\" /> a</li>\n</ul>\n") ∷ [];
      headings = [];
      texts = codes "a" ∷ [];
      images = [];
    }
unfolding page_words
no_text = refl

-- ---- bare links (6.9)

abbrev ◌links◌ : String → String → Type 0
input links output = rendered_plain (record built_in_rules { bare_links = true }) (codes input) ≡ codes output

-- the specification's, but for those of mail
addresses :
    "www.commonmark.org\n" links "<p><a href=\"http://www.commonmark.org\">www.commonmark.org</a></p>\n" ×
    "Visit www.commonmark.org/help for more information.\n" links
    "<p>Visit <a href=\"http://www.commonmark.org/help\">www.commonmark.org/help</a> for more information.</p>\n" ×
    "Visit www.commonmark.org.\n\nVisit www.commonmark.org/a.b.\n" links
    "<p>Visit <a href=\"http://www.commonmark.org\">www.commonmark.org</a>.</p>\n<p>Visit <a href=\"http://www.commonmark.org/a.b\">www.commonmark.org/a.b</a>.</p>\n" ×
    "www.google.com/search?q=Markup+(business)\n\nwww.google.com/search?q=Markup+(business)))\n\n(www.google.com/search?q=Markup+(business))\n\n(www.google.com/search?q=Markup+(business)\n" links
    "<p><a href=\"http://www.google.com/search?q=Markup+(business)\">www.google.com/search?q=Markup+(business)</a></p>\n<p><a href=\"http://www.google.com/search?q=Markup+(business)\">www.google.com/search?q=Markup+(business)</a>))</p>\n<p>(<a href=\"http://www.google.com/search?q=Markup+(business)\">www.google.com/search?q=Markup+(business)</a>)</p>\n<p>(<a href=\"http://www.google.com/search?q=Markup+(business)\">www.google.com/search?q=Markup+(business)</a></p>\n" ×
    "www.google.com/search?q=(business))+ok\n" links
    "<p><a href=\"http://www.google.com/search?q=(business))+ok\">www.google.com/search?q=(business))+ok</a></p>\n" ×
    "www.google.com/search?q=commonmark&hl=en\n\nwww.google.com/search?q=commonmark&hl;\n" links
    "<p><a href=\"http://www.google.com/search?q=commonmark&amp;hl=en\">www.google.com/search?q=commonmark&amp;hl=en</a></p>\n<p><a href=\"http://www.google.com/search?q=commonmark\">www.google.com/search?q=commonmark</a>&amp;hl;</p>\n" ×
    "www.commonmark.org/he<lp\n" links
    "<p><a href=\"http://www.commonmark.org/he\">www.commonmark.org/he</a>&lt;lp</p>\n" ×
    "http://commonmark.org\n\n(Visit https://encrypted.google.com/search?q=Markup+(business))\n\nAnonymous FTP is available at ftp://foo.bar.baz.\n" links
    "<p><a href=\"http://commonmark.org\">http://commonmark.org</a></p>\n<p>(Visit <a href=\"https://encrypted.google.com/search?q=Markup+(business)\">https://encrypted.google.com/search?q=Markup+(business)</a>)</p>\n<p>Anonymous FTP is available at <a href=\"ftp://foo.bar.baz\">ftp://foo.bar.baz</a>.</p>\n"
unfolding html_words
addresses = (refl, refl, refl, refl, refl, refl, refl, refl)

-- what goes from the end; the destination of 'www.' gets a scheme
ends :
    "See https://a.b/c_(d)), www.a.b. and ftp://a.\n" links
    "<p>See <a href=\"https://a.b/c_(d)\">https://a.b/c_(d)</a>), <a href=\"http://www.a.b\">www.a.b</a>. and <a href=\"ftp://a\">ftp://a</a>.</p>\n" ×
    "*HTTP://a.b/&amp;x* _https://a.b_ x\n" links
    "<p><em><a href=\"HTTP://a.b/&amp;amp;x\">HTTP://a.b/&amp;amp;x</a></em> <em><a href=\"https://a.b\">https://a.b</a></em> x</p>\n"
unfolding html_words
ends = (refl, refl)

-- none in a link, behind a letter, without a host, or with '_' in the last parts of the host
no_links :
    "[https://a.b](https://a.b) xhttp://a www. http://a_b.c\n" links
    "<p><a href=\"https://a.b\">https://a.b</a> xhttp://a www. http://a_b.c</p>\n" ×
    "`http://a` awww.a www..a http://.a Www.a http:/a\n" links "<p><code>http://a</code> awww.a www..a http://.a Www.a http:/a</p>\n" ×
    "[www.a [b](c) http://d\n" links "<p>[www.a <a href=\"c\">b</a> <a href=\"http://d\">http://d</a></p>\n"
unfolding html_words
no_links = (refl, refl, refl)

-- ---- together

abbrev ◌extends◌ : String → String → Type 0
input extends output = rendered_plain (record built_in_rules { tables = true; strikethrough = true; tasks = true; bare_links = true })
    (codes input) ≡ codes output

-- in cells, and behind boxes
all_of_them :
    "| ~~a~~ |\n|---|\n| http://b |\n" extends
    "<table>\n<thead>\n<tr>\n<th><del>a</del></th>\n</tr>\n</thead>\n<tbody>\n<tr>\n<td><a href=\"http://b\">http://b</a></td>\n</tr>\n</tbody>\n</table>\n" ×
    "- [x] ~a~ www.b\n" extends
    "<ul>\n<li><input type=\"checkbox\" checked=\"\" disabled=\"\" /> <del>a</del> <a href=\"http://www.b\">www.b</a></li>\n</ul>\n" ×
    "- [x] a\n  |-|\n" extends "<ul>\n<li>\n<table>\n<thead>\n<tr>\n<th>[x] a</th>\n</tr>\n</thead>\n</table>\n</li>\n</ul>\n"
unfolding html_words
all_of_them = (refl, refl, refl)

-- without the options none is read
without_options : "~~a~~ http://b\n- [x] c\n" shows "<p>~~a~~ http://b</p>\n<ul>\n<li>[x] c</li>\n</ul>\n"
unfolding html_words
without_options = refl
