-- Examples: link reference definitions (section 4.7).
use Rattle.std.proofs.Common.{refl, []}
use Rattle.std.specs.Prelude.{codes}
use Rattle.doc_rules.proofs.Computing.{html_words}
use Rattle.doc_rules.proofs.Shows.{◌shows◌, ◌gives◌}

definitions :
    "[foo]: /url \"title\"\n\n[foo]\n" shows "<p><a href=\"/url\" title=\"title\">foo</a></p>\n" ×
    "   [foo]: \n      /url  \n           'the title'  \n\n[foo]\n" shows "<p><a href=\"/url\" title=\"the title\">foo</a></p>\n" ×
    "[Foo*bar\\]]:my_(url) 'title (with parens)'\n\n[Foo*bar\\]]\n" shows
    "<p><a href=\"my_(url)\" title=\"title (with parens)\">Foo*bar]</a></p>\n" ×
    "[Foo bar]:\n<my url>\n'title'\n\n[Foo bar]\n" shows "<p><a href=\"my%20url\" title=\"title\">Foo bar</a></p>\n" ×
    "[foo]: /url '\ntitle\nline1\nline2\n'\n\n[foo]\n" shows "<p><a href=\"/url\" title=\"\ntitle\nline1\nline2\n\">foo</a></p>\n" ×
    "[foo]: /url 'title\n\nwith blank line'\n\n[foo]\n" shows "<p>[foo]: /url 'title</p>\n<p>with blank line'</p>\n<p>[foo]</p>\n" ×
    "[foo]:\n/url\n\n[foo]\n" shows "<p><a href=\"/url\">foo</a></p>\n" ×
    "[foo]:\n\n[foo]\n" shows "<p>[foo]:</p>\n<p>[foo]</p>\n" ×
    "[foo]: <>\n\n[foo]\n" shows "<p><a href=\"\">foo</a></p>\n" ×
    "[foo]: <bar>(baz)\n\n[foo]\n" shows "<p>[foo]: <bar>(baz)</p>\n<p>[foo]</p>\n" ×
    "[foo]: /url\\bar\\*baz \"foo\\\"bar\\baz\"\n\n[foo]\n" shows "<p><a href=\"/url%5Cbar*baz\" title=\"foo&quot;bar\\baz\">foo</a></p>\n"
    ×
    "[foo]\n\n[foo]: url\n" shows "<p><a href=\"url\">foo</a></p>\n" ×
    "[FOO]: /url\n\n[Foo]\n" shows "<p><a href=\"/url\">Foo</a></p>\n" ×
    "[ΑΓΩ]: /φου\n\n[αγω]\n" shows "<p><a href=\"/%CF%86%CE%BF%CF%85\">αγω</a></p>\n" ×
    (codes "[foo]: /url\n") gives [] ×
    "[\nfoo\n]: /url\nbar\n" shows "<p>bar</p>\n" ×
    "    [foo]: /url \"title\"\n\n[foo]\n" shows "<pre><code>[foo]: /url &quot;title&quot;\n</code></pre>\n<p>[foo]</p>\n" ×
    "```\n[foo]: /url\n```\n\n[foo]\n" shows "<pre><code>[foo]: /url\n</code></pre>\n<p>[foo]</p>\n" ×
    "# [Foo]\n[foo]: /url\n> bar\n" shows "<h1><a href=\"/url\">Foo</a></h1>\n<blockquote>\n<p>bar</p>\n</blockquote>\n" ×
    "[foo]: /foo-url \"foo\"\n[bar]: /bar-url\n  \"bar\"\n[baz]: /baz-url\n\n[foo],\n[bar],\n[baz]\n" shows
    "<p><a href=\"/foo-url\" title=\"foo\">foo</a>,\n<a href=\"/bar-url\" title=\"bar\">bar</a>,\n<a href=\"/baz-url\">baz</a></p>\n" ×
    "[foo]: /url1\n\n[foo]: /url2\n\n[bar][foo]\n" shows "<p><a href=\"/url1\">bar</a></p>\n" ×
    -- the lines of a paragraph have lost the white space at their fronts
    "[a]: /u\n     [b]: /v\n\n[a] [b]\n" shows "<p><a href=\"/u\">a</a> <a href=\"/v\">b</a></p>\n" ×
    -- a title that fails on a line of its own is text; elsewhere there is no definition
    "[a]: /u\n\"t\" x\n\n[a]\n" shows "<p>&quot;t&quot; x</p>\n<p><a href=\"/u\">a</a></p>\n" ×
    "[a]: /u \"t\nx\" y\n\n[a]\n" shows "<p>[a]: /u &quot;t\nx&quot; y</p>\n<p>[a]</p>\n" ×
    -- this project's choice: an empty title is a title
    "[a]: /u ''\n\n[a]\n" shows "<p><a href=\"/u\" title=\"\">a</a></p>\n"
unfolding html_words
definitions = (
  refl,
  refl,
  refl,
  refl,
  refl,
  refl,
  refl,
  refl,
  refl,
  refl,
  refl,
  refl,
  refl,
  refl,
  refl,
  refl,
  refl,
  refl,
  refl,
  refl,
  refl,
  refl,
  refl,
  refl,
  refl,
)

labels :
    -- full case folding
    "[ẞ]\n\n[SS]: /url\n" shows "<p><a href=\"/url\">ẞ</a></p>\n" ×
    "[Foo\n  bar]: /url\n\n[Baz][Foo bar]\n" shows "<p><a href=\"/url\">Baz</a></p>\n" ×
    "[bar][foo\\!]\n\n[foo!]: /url\n" shows "<p>[bar][foo!]</p>\n" ×
    "[foo][ref[]\n\n[ref[]: /uri\n" shows "<p>[foo][ref[]</p>\n<p>[ref[]: /uri</p>\n" ×
    "[foo][ref[bar]]\n\n[ref[bar]]: /uri\n" shows "<p>[foo][ref[bar]]</p>\n<p>[ref[bar]]: /uri</p>\n" ×
    "[[[foo]]]\n\n[[[foo]]]: /url\n" shows "<p>[[[foo]]]</p>\n<p>[[[foo]]]: /url</p>\n" ×
    "[foo][ref\\[]\n\n[ref\\[]: /uri\n" shows "<p><a href=\"/uri\">foo</a></p>\n" ×
    "[bar\\\\]: /uri\n\n[bar\\\\]\n" shows "<p><a href=\"/uri\">bar\\</a></p>\n" ×
    "[]\n\n[]: /uri\n" shows "<p>[]</p>\n<p>[]: /uri</p>\n" ×
    "[\n ]\n\n[\n ]: /uri\n" shows "<p>[\n]</p>\n<p>[\n]: /uri</p>\n" ×
    -- references aren't read in labels
    "[&amp;]\n\n[&]: /u\n" shows "<p>[&amp;]</p>\n"
unfolding html_words
labels = (refl, refl, refl, refl, refl, refl, refl, refl, refl, refl, refl)
