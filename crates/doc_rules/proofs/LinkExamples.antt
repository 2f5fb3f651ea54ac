-- Examples: links and images (sections 6.3 and 6.4).
use Rattle.std.proofs.Common.{refl, ◌∷◌, ◌++◌}
use Rattle.std.specs.Prelude.{codes}
use Rattle.doc_rules.proofs.Computing.{html_words}
use Rattle.doc_rules.proofs.Shows.{◌shows◌, ◌gives◌}

inline_links :
    "[link](/uri \"title\")\n" shows "<p><a href=\"/uri\" title=\"title\">link</a></p>\n" ×
    "[link](/uri)\n" shows "<p><a href=\"/uri\">link</a></p>\n" ×
    "[](./target.md)\n" shows "<p><a href=\"./target.md\"></a></p>\n" ×
    "[link]()\n" shows "<p><a href=\"\">link</a></p>\n" ×
    "[link](<>)\n" shows "<p><a href=\"\">link</a></p>\n" ×
    "[]()\n" shows "<p><a href=\"\"></a></p>\n" ×
    "[link](/my uri)\n" shows "<p>[link](/my uri)</p>\n" ×
    "[link](foo\nbar)\n" shows "<p>[link](foo\nbar)</p>\n" ×
    "[link](<foo\nbar>)\n" shows "<p>[link](<foo\nbar>)</p>\n" ×
    "[a](<b)c>)\n" shows "<p><a href=\"b)c\">a</a></p>\n" ×
    "[link](<foo\\>)\n" shows "<p>[link](&lt;foo&gt;)</p>\n" ×
    "[a](<b)c\n[a](<b)c>\n[a](<b>c)\n" shows "<p>[a](&lt;b)c\n[a](&lt;b)c&gt;\n[a](<b>c)</p>\n" ×
    "[link](\\(foo\\))\n" shows "<p><a href=\"(foo)\">link</a></p>\n" ×
    "[link](foo(and(bar)))\n" shows "<p><a href=\"foo(and(bar))\">link</a></p>\n" ×
    "[link](foo(and(bar))\n" shows "<p>[link](foo(and(bar))</p>\n" ×
    "[link](foo\\(and\\(bar\\))\n" shows "<p><a href=\"foo(and(bar)\">link</a></p>\n" ×
    "[link](<foo(and(bar)>)\n" shows "<p><a href=\"foo(and(bar)\">link</a></p>\n" ×
    "[link](foo\\)\\:)\n" shows "<p><a href=\"foo):\">link</a></p>\n" ×
    "[link](foo\\bar)\n" shows "<p><a href=\"foo%5Cbar\">link</a></p>\n" ×
    "[link](foo%20b&auml;)\n" shows "<p><a href=\"foo%20b%C3%A4\">link</a></p>\n" ×
    "[link](/url \"title\")\n[link](/url 'title')\n[link](/url (title))\n" shows
    "<p><a href=\"/url\" title=\"title\">link</a>\n<a href=\"/url\" title=\"title\">link</a>\n<a href=\"/url\" title=\"title\">link</a></p>\n" ×
    "[link](/url \"title \\\"&quot;\")\n" shows "<p><a href=\"/url\" title=\"title &quot;&quot;\">link</a></p>\n" ×
    (codes "[link](/url" ++ (0xA0 ∷ codes "\"title\")\n")) gives (codes "<p><a href=\"/url%C2%A0%22title%22\">link</a></p>\n") ×
    "[link](/url \"title \"and\" title\")\n" shows "<p>[link](/url &quot;title &quot;and&quot; title&quot;)</p>\n" ×
    "[link](/url 'title \"and\" title')\n" shows "<p><a href=\"/url\" title=\"title &quot;and&quot; title\">link</a></p>\n" ×
    "[link](   /uri\n  \"title\"  )\n" shows "<p><a href=\"/uri\" title=\"title\">link</a></p>\n" ×
    "[link] (/uri)\n" shows "<p>[link] (/uri)</p>\n"
unfolding html_words
inline_links = (
  refl,
  refl,
  refl,
  refl,
  refl,
  refl,
  refl,
  refl,
  refl,
  refl,
  refl,
  refl,
  refl,
  refl,
  refl,
  refl,
  refl,
  refl,
  refl,
  refl,
  refl,
  refl,
  refl,
  refl,
  refl,
  refl,
  refl,
)

link_texts :
    "[link [foo [bar]]](/uri)\n" shows "<p><a href=\"/uri\">link [foo [bar]]</a></p>\n" ×
    "[link] bar](/uri)\n" shows "<p>[link] bar](/uri)</p>\n" ×
    "[link [bar](/uri)\n" shows "<p>[link <a href=\"/uri\">bar</a></p>\n" ×
    "[link \\[bar](/uri)\n" shows "<p><a href=\"/uri\">link [bar</a></p>\n" ×
    "[link *foo **bar** `#`*](/uri)\n" shows "<p><a href=\"/uri\">link <em>foo <strong>bar</strong> <code>#</code></em></a></p>\n" ×
    "[![moon](moon.jpg)](/uri)\n" shows "<p><a href=\"/uri\"><img src=\"moon.jpg\" alt=\"moon\" /></a></p>\n" ×
    "[foo *[bar [baz](/uri)](/uri)*](/uri)\n" shows "<p>[foo <em>[bar <a href=\"/uri\">baz</a>](/uri)</em>](/uri)</p>\n" ×
    "*[foo*](/uri)\n" shows "<p>*<a href=\"/uri\">foo*</a></p>\n" ×
    "[foo *bar](baz*)\n" shows "<p><a href=\"baz*\">foo *bar</a></p>\n" ×
    "*foo [bar* baz]\n" shows "<p><em>foo [bar</em> baz]</p>\n" ×
    "[foo <bar attr=\"](baz)\">\n" shows "<p>[foo <bar attr=\"](baz)\"></p>\n" ×
    "[foo`](/uri)`\n" shows "<p>[foo<code>](/uri)</code></p>\n" ×
    "[foo<https://example.com/?search=](uri)>\n" shows
    "<p>[foo<a href=\"https://example.com/?search=%5D(uri)\">https://example.com/?search=](uri)</a></p>\n"
unfolding html_words
link_texts = (refl, refl, refl, refl, refl, refl, refl, refl, refl, refl, refl, refl, refl)

reference_links :
    "[foo][bar]\n\n[bar]: /url \"title\"\n" shows "<p><a href=\"/url\" title=\"title\">foo</a></p>\n" ×
    "[link [foo [bar]]][ref]\n\n[ref]: /uri\n" shows "<p><a href=\"/uri\">link [foo [bar]]</a></p>\n" ×
    "[foo [bar](/uri)][ref]\n\n[ref]: /uri\n" shows "<p>[foo <a href=\"/uri\">bar</a>]<a href=\"/uri\">ref</a></p>\n" ×
    "[foo *bar [baz][ref]*][ref]\n\n[ref]: /uri\n" shows "<p>[foo <em>bar <a href=\"/uri\">baz</a></em>]<a href=\"/uri\">ref</a></p>\n" ×
    "[foo][BaR]\n\n[bar]: /url \"title\"\n" shows "<p><a href=\"/url\" title=\"title\">foo</a></p>\n" ×
    "[foo] [bar]\n\n[bar]: /url \"title\"\n" shows "<p>[foo] <a href=\"/url\" title=\"title\">bar</a></p>\n" ×
    "[foo][]\n\n[foo]: /url \"title\"\n" shows "<p><a href=\"/url\" title=\"title\">foo</a></p>\n" ×
    "[*foo* bar][]\n\n[*foo* bar]: /url \"title\"\n" shows "<p><a href=\"/url\" title=\"title\"><em>foo</em> bar</a></p>\n" ×
    "[foo] \n[]\n\n[foo]: /url \"title\"\n" shows "<p><a href=\"/url\" title=\"title\">foo</a>\n[]</p>\n" ×
    "[[*foo* bar]]\n\n[*foo* bar]: /url \"title\"\n" shows "<p>[<a href=\"/url\" title=\"title\"><em>foo</em> bar</a>]</p>\n" ×
    "[[bar [foo]\n\n[foo]: /url\n" shows "<p>[[bar <a href=\"/url\">foo</a></p>\n" ×
    "[foo] bar\n\n[foo]: /url\n" shows "<p><a href=\"/url\">foo</a> bar</p>\n" ×
    "\\[foo]\n\n[foo]: /url \"title\"\n" shows "<p>[foo]</p>\n" ×
    "[foo*]: /url\n\n*[foo*]\n" shows "<p>*<a href=\"/url\">foo*</a></p>\n" ×
    "[foo][bar]\n\n[foo]: /url1\n[bar]: /url2\n" shows "<p><a href=\"/url2\">foo</a></p>\n" ×
    "[foo]()\n\n[foo]: /url1\n" shows "<p><a href=\"\">foo</a></p>\n" ×
    "[foo](not a link)\n\n[foo]: /url1\n" shows "<p><a href=\"/url1\">foo</a>(not a link)</p>\n" ×
    "[foo][bar][baz]\n\n[baz]: /url1\n[bar]: /url2\n" shows "<p><a href=\"/url2\">foo</a><a href=\"/url1\">baz</a></p>\n" ×
    "[foo][bar][baz]\n\n[baz]: /url1\n[foo]: /url2\n" shows "<p>[foo]<a href=\"/url1\">bar</a></p>\n"
unfolding html_words
reference_links = (refl, refl, refl, refl, refl, refl, refl, refl, refl, refl, refl, refl, refl, refl, refl, refl, refl, refl, refl)

images :
    "![foo](/url \"title\")\n" shows "<p><img src=\"/url\" alt=\"foo\" title=\"title\" /></p>\n" ×
    "![foo *bar*]\n\n[foo *bar*]: train.jpg \"train & tracks\"\n" shows
    "<p><img src=\"train.jpg\" alt=\"foo bar\" title=\"train &amp; tracks\" /></p>\n" ×
    "![foo ![bar](/url)](/url2)\n" shows "<p><img src=\"/url2\" alt=\"foo bar\" /></p>\n" ×
    "![foo [bar](/url)](/url2)\n" shows "<p><img src=\"/url2\" alt=\"foo bar\" /></p>\n" ×
    "My ![foo bar](/path/to/train.jpg  \"title\"   )\n" shows
    "<p>My <img src=\"/path/to/train.jpg\" alt=\"foo bar\" title=\"title\" /></p>\n" ×
    "![](/url)\n" shows "<p><img src=\"/url\" alt=\"\" /></p>\n" ×
    "![foo][bar]\n\n[bar]: /url\n" shows "<p><img src=\"/url\" alt=\"foo\" /></p>\n" ×
    "![Foo][]\n\n[foo]: /url \"title\"\n" shows "<p><img src=\"/url\" alt=\"Foo\" title=\"title\" /></p>\n" ×
    "![[foo]]\n\n[[foo]]: /url \"title\"\n" shows "<p>![[foo]]</p>\n<p>[[foo]]: /url &quot;title&quot;</p>\n" ×
    "!\\[foo]\n\n[foo]: /url \"title\"\n" shows "<p>![foo]</p>\n" ×
    "\\![foo]\n\n[foo]: /url \"title\"\n" shows "<p>!<a href=\"/url\" title=\"title\">foo</a></p>\n" ×
    -- this project's choice: raw HTML is nothing in an image's text, a break one space
    "![a <b>`c`*d*\ne&amp;](f)\n" shows "<p><img src=\"f\" alt=\"a cd e&amp;\" /></p>\n"
unfolding html_words
images = (refl, refl, refl, refl, refl, refl, refl, refl, refl, refl, refl, refl)

choices :
    -- an empty title is a title
    "[a](b \"\")\n" shows "<p><a href=\"b\" title=\"\">a</a></p>\n" ×
    "![a](b '')\n" shows "<p><img src=\"b\" alt=\"a\" title=\"\" /></p>\n" ×
    -- what follows the brackets is read as it stands
    "[a](b`)`)\n" shows "<p><a href=\"b%60\">a</a>`)</p>\n" ×
    "[foo][a`]`]\n\n[a`]: /u\n" shows "<p><a href=\"/u\">foo</a>`]</p>\n" ×
    -- an autolink may stand in a link
    "[a <http://b> c](d)\n" shows "<p><a href=\"d\">a <a href=\"http://b\">http://b</a> c</a></p>\n" ×
    -- a label that is blank is none; where a label follows, only that one counts
    "[foo][ ]\n\n[foo]: /u\n" shows "<p><a href=\"/u\">foo</a>[ ]</p>\n" ×
    "[foo][bar]\n\n[foo]: /u\n" shows "<p>[foo][bar]</p>\n" ×
    "[foo][]\n" shows "<p>[foo][]</p>\n" ×
    -- parentheses are balanced, to 32 levels
    "[a](b(c)\n" shows "<p>[a](b(c)</p>\n" ×
    "[a]((((((((((((((((((((((((((((((((()))))))))))))))))))))))))))))))))\n" shows
    "<p><a href=\"(((((((((((((((((((((((((((((((())))))))))))))))))))))))))))))))\">a</a></p>\n" ×
    "[a](((((((((((((((((((((((((((((((((())))))))))))))))))))))))))))))))))\n" shows
    "<p>[a](((((((((((((((((((((((((((((((((())))))))))))))))))))))))))))))))))</p>\n" ×
    -- nothing is stripped between '<' and '>'
    "[a](< b >)\n" shows "<p><a href=\"%20b%20\">a</a></p>\n" ×
    -- a title holds its own delimiters only escaped
    "[a](b \"a\\\\\")\n" shows "<p><a href=\"b\" title=\"a\\\">a</a></p>\n" ×
    "[a](b \"\\\\\"\")\n" shows "<p>[a](b &quot;\\&quot;&quot;)</p>\n" ×
    "[a](b (c(d))\n" shows "<p>[a](b (c(d))</p>\n" ×
    "[a](b (c\\(d))\n" shows "<p><a href=\"b\" title=\"c(d\">a</a></p>\n" ×
    -- a destination may be missing only where the title is too
    "[a]( \"t\")\n" shows "<p><a href=\"%22t%22\">a</a></p>\n" ×
    -- which characters of a destination stay
    "[a](b[]\"^{|}'%41`)\n" shows "<p><a href=\"b%5B%5D%22%5E%7B%7C%7D'%41%60\">a</a></p>\n" ×
    "[a](&amp;/?x=~a-b_c.d+e!f*g,h#i@j;k:$l)\n" shows "<p><a href=\"&amp;/?x=~a-b_c.d+e!f*g,h#i@j;k:$l\">a</a></p>\n"
unfolding html_words
choices = (refl, refl, refl, refl, refl, refl, refl, refl, refl, refl, refl, refl, refl, refl, refl, refl, refl, refl, refl)
