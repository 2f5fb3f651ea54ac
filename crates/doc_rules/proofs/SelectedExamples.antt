-- Examples: a selection over all sections, some of the examples of the specification shortened.
use Rattle.std.proofs.Common.{refl}
use Rattle.doc_rules.proofs.Computing.{html_words}
use Rattle.doc_rules.proofs.Shows.{◌shows◌}

tabs_and_escapes :
    "\tfoo\tbaz\t\tbim\n" shows "<pre><code>foo\tbaz\t\tbim\n</code></pre>\n" ×
    "\\*not* \\\\*em*\n" shows "<p>*not* \\<em>em</em></p>\n" ×
    "&#35; &#1234; &#992;\n" shows "<p># Ӓ Ϡ</p>\n" ×
    "&nbsp &x; &#; &#x;\n&#87654321;\n&#abcdef0;\n" shows "<p>&amp;nbsp &amp;x; &amp;#; &amp;#x;\n&amp;#87654321;\n&amp;#abcdef0;</p>\n" ×
    "&#42;foo&#42;\n" shows "<p>*foo*</p>\n" ×
    "[a](url &quot;tit&quot;)\n" shows "<p>[a](url &quot;tit&quot;)</p>\n"
unfolding html_words
tabs_and_escapes = (refl, refl, refl, refl, refl, refl)

leaf_blocks :
    "Foo\n***\nbar\n" shows "<p>Foo</p>\n<hr />\n<p>bar</p>\n" ×
    "Foo\n---\nbar\n" shows "<h2>Foo</h2>\n<p>bar</p>\n" ×
    "### foo ### b\n" shows "<h3>foo ### b</h3>\n" ×
    "# foo#\n" shows "<h1>foo#</h1>\n" ×
    "## \n#\n### ###\n" shows "<h2></h2>\n<h1></h1>\n<h3></h3>\n" ×
    "> Foo\n---\n" shows "<blockquote>\n<p>Foo</p>\n</blockquote>\n<hr />\n" ×
    "> foo\nbar\n===\n" shows "<blockquote>\n<p>foo\nbar\n===</p>\n</blockquote>\n" ×
    "Foo\n    bar\n" shows "<p>Foo\nbar</p>\n" ×
    "    chunk1\n      \n      chunk2\n" shows "<pre><code>chunk1\n  \n  chunk2\n</code></pre>\n" ×
    "```ruby x\ndef\n~~~\n```\n" shows "<pre><code class=\"language-ruby\">def\n~~~\n</code></pre>\n" ×
    "``` ```\naaa\n" shows "<p><code> </code>\naaa</p>\n" ×
    "<div>\n*foo*\n\n*bar*\n" shows "<div>\n*foo*\n<p><em>bar</em></p>\n" ×
    "<del>*foo*</del>\n" shows "<p><del><em>foo</em></del></p>\n" ×
    "</ins>\n*bar*\n" shows "</ins>\n*bar*\n" ×
    "Foo\n<a href=\"bar\">\nbaz\n" shows "<p>Foo\n<a href=\"bar\">\nbaz</p>\n" ×
    "[foo]: /url \"title\" ok\n" shows "<p>[foo]: /url &quot;title&quot; ok</p>\n" ×
    "[foo]: /url\n\"title\" ok\n" shows "<p>&quot;title&quot; ok</p>\n" ×
    "Foo\n[bar]: /baz\n\n[bar]\n" shows "<p>Foo\n[bar]: /baz</p>\n<p>[bar]</p>\n" ×
    "[foo]\n\n> [foo]: /url\n" shows "<p><a href=\"/url\">foo</a></p>\n<blockquote>\n</blockquote>\n" ×
    "[foo]\n\n[foo]: first\n[foo]: second\n" shows "<p><a href=\"first\">foo</a></p>\n"
unfolding html_words
leaf_blocks = (refl, refl, refl, refl, refl, refl, refl, refl, refl, refl, refl, refl, refl, refl, refl, refl, refl, refl, refl, refl)

containers :
    "-\n\n  foo\n" shows "<ul>\n<li></li>\n</ul>\n<p>foo</p>\n" ×
    "The number is\n14.  The\n" shows "<p>The number is\n14.  The</p>\n" ×
    "1234567890. x\n" shows "<p>1234567890. x</p>\n" ×
    "* a\n  > b\n  >\n* c\n" shows "<ul>\n<li>a\n<blockquote>\n<p>b</p>\n</blockquote>\n</li>\n<li>c</li>\n</ul>\n" ×
    "- a\n - b\n  - c\n   - d\n    - e\n" shows "<ul>\n<li>a</li>\n<li>b</li>\n<li>c</li>\n<li>d\n- e</li>\n</ul>\n"
unfolding html_words
containers = (refl, refl, refl, refl, refl)

code_and_emphasis :
    "`` foo ` bar ``\n" shows "<p><code>foo ` bar</code></p>\n" ×
    "`foo\\`bar`\n" shows "<p><code>foo\\</code>bar`</p>\n" ×
    "a*\"foo\"*\n" shows "<p>a*&quot;foo&quot;*</p>\n" ×
    "foo-_(bar)_\n" shows "<p>foo-<em>(bar)</em></p>\n" ×
    "_foo_bar_baz_\n" shows "<p><em>foo_bar_baz</em></p>\n" ×
    "*foo**bar**baz*\n" shows "<p><em>foo<strong>bar</strong>baz</em></p>\n" ×
    "foo******bar*********baz\n" shows "<p>foo<strong><strong><strong>bar</strong></strong></strong>***baz</p>\n" ×
    "*foo _bar* baz_\n" shows "<p><em>foo _bar</em> baz_</p>\n"
unfolding html_words
code_and_emphasis = (refl, refl, refl, refl, refl, refl, refl, refl)

links_and_images :
    "*[bar*](/url)\n" shows "<p>*<a href=\"/url\">bar*</a></p>\n" ×
    "[link](</my uri>)\n" shows "<p><a href=\"/my%20uri\">link</a></p>\n" ×
    "[link](\"title\")\n" shows "<p><a href=\"%22title%22\">link</a></p>\n" ×
    "[foo [bar](/uri)](/uri)\n" shows "<p>[foo <a href=\"/uri\">bar</a>](/uri)</p>\n" ×
    "![[[foo](uri1)](uri2)](uri3)\n" shows "<p><img src=\"uri3\" alt=\"[foo](uri2)\" /></p>\n" ×
    "[foo][bar][baz]\n\n[baz]: /url\n" shows "<p>[foo]<a href=\"/url\">bar</a></p>\n" ×
    "![foo *bar*](t.jpg \"t & t\")\n" shows "<p><img src=\"t.jpg\" alt=\"foo bar\" title=\"t &amp; t\" /></p>\n"
unfolding html_words
links_and_images = (refl, refl, refl, refl, refl, refl, refl)

autolinks_raw_html_and_breaks :
    "<foo@bar.example.com>\n" shows "<p><a href=\"mailto:foo@bar.example.com\">foo@bar.example.com</a></p>\n" ×
    "<m:abc>\n" shows "<p>&lt;m:abc&gt;</p>\n" ×
    "foo <!--> foo -->\n" shows "<p>foo <!--> foo --&gt;</p>\n" ×
    "foo  \n     bar\n" shows "<p>foo<br />\nbar</p>\n" ×
    "foo\\\nbar\n" shows "<p>foo<br />\nbar</p>\n" ×
    "foo\\\n" shows "<p>foo\\</p>\n" ×
    "foo \n baz\n" shows "<p>foo\nbaz</p>\n"
unfolding html_words
autolinks_raw_html_and_breaks = (refl, refl, refl, refl, refl, refl, refl)
