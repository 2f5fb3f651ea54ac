-- Examples: backslash escapes and character references (sections 2.4 and 2.5).
use Rattle.std.proofs.Common.{refl, ◌∷◌, ◌++◌}
use Rattle.std.specs.Prelude.{codes}
use Rattle.doc_rules.proofs.Computing.{html_words}
use Rattle.doc_rules.proofs.Shows.{◌shows◌, ◌gives◌}

escapes :
    "\\!\\\"\\#\\$\\%\\&\\'\\(\\)\\*\\+\\,\\-\\.\\/\\:\\;\\<\\=\\>\\?\\@\\[\\\\\\]\\^\\_\\`\\{\\|\\}\\~\n" shows
    "<p>!&quot;#$%&amp;'()*+,-./:;&lt;=&gt;?@[\\]^_`{|}~</p>\n" ×
    "\\\t\\A\\a\\ \\3\\φ\\«\n" shows "<p>\\\t\\A\\a\\ \\3\\φ\\«</p>\n" ×
    "\\*not emphasized*\n\\<br/> not a tag\n\\[not a link](/foo)\n\\`not code`\n1\\. not a list\n\\* not a list\n\\# not a heading\n\\[foo]: /url \"not a reference\"\n\\&ouml; not a character entity\n" shows "<p>*not emphasized*\n&lt;br/&gt; not a tag\n[not a link](/foo)\n`not code`\n1. not a list\n* not a list\n# not a heading\n[foo]: /url &quot;not a reference&quot;\n&amp;ouml; not a character entity</p>\n" ×
    "\\\\*emphasis*\n" shows "<p>\\<em>emphasis</em></p>\n" ×
    -- none is read in code, autolinks and raw HTML
    "`` \\[\\` ``\n" shows "<p><code>\\[\\`</code></p>\n" ×
    "    \\[\\]\n" shows "<pre><code>\\[\\]\n</code></pre>\n" ×
    "~~~\n\\[\\]\n~~~\n" shows "<pre><code>\\[\\]\n</code></pre>\n" ×
    "<https://example.com?find=\\*>\n" shows "<p><a href=\"https://example.com?find=%5C*\">https://example.com?find=\\*</a></p>\n" ×
    "<a href=\"/bar\\/)\">\n" shows "<a href=\"/bar\\/)\">\n" ×
    -- they are read in destinations, titles and info strings
    "[foo](/bar\\* \"ti\\*tle\")\n" shows "<p><a href=\"/bar*\" title=\"ti*tle\">foo</a></p>\n" ×
    "[foo]\n\n[foo]: /bar\\* \"ti\\*tle\"\n" shows "<p><a href=\"/bar*\" title=\"ti*tle\">foo</a></p>\n" ×
    "``` foo\\+bar\nfoo\n```\n" shows "<pre><code class=\"language-foo+bar\">foo\n</code></pre>\n"
unfolding html_words
escapes = (refl, refl, refl, refl, refl, refl, refl, refl, refl, refl, refl, refl)

references :
    (codes "&nbsp; &amp; &copy; &AElig; &Dcaron;\n&frac34; &HilbertSpace; &DifferentialD;\n&ClockwiseContourIntegral; &ngE;\n") gives
    (codes "<p>" ++ (0xA0 ∷ codes " &amp; © Æ Ď\n¾ ℋ ⅆ\n∲ ≧̸</p>\n")) ×
    "&#35; &#1234; &#992; &#0;\n" shows "<p># Ӓ Ϡ �</p>\n" ×
    "&#X22; &#XD06; &#xcab;\n" shows "<p>&quot; ആ ಫ</p>\n" ×
    "&nbsp &x; &#; &#x;\n&#87654321;\n&#abcdef0;\n&ThisIsNotDefined; &hi?;\n" shows
    "<p>&amp;nbsp &amp;x; &amp;#; &amp;#x;\n&amp;#87654321;\n&amp;#abcdef0;\n&amp;ThisIsNotDefined; &amp;hi?;</p>\n" ×
    "&copy\n" shows "<p>&amp;copy</p>\n" ×
    "&MadeUpEntity;\n" shows "<p>&amp;MadeUpEntity;</p>\n" ×
    "&#0; &copy &ngE; &MadeUpEntity;\n" shows "<p>� &amp;copy ≧̸ &amp;MadeUpEntity;</p>\n" ×
    -- what is no scalar value is U+FFFD; eight digits, or seven of base 16, are text
    "&#xD800; &#xDFFF; &#x110000; &#9999999;\n" shows "<p>� � � �</p>\n" ×
    "&#99999999; &#x1000000;\n" shows "<p>&amp;#99999999; &amp;#x1000000;</p>\n" ×
    (codes "&#x10FFFF;&#0000065;&#x000041;\n") gives (codes "<p>" ++ (0x10FFFF ∷ codes "AA</p>\n")) ×
    -- none is read in code and raw HTML, nor in autolinks (the latter is this project's choice)
    "`f&ouml;&ouml;`\n" shows "<p><code>f&amp;ouml;&amp;ouml;</code></p>\n" ×
    "    f&ouml;f&ouml;\n" shows "<pre><code>f&amp;ouml;f&amp;ouml;\n</code></pre>\n" ×
    "<a href=\"&ouml;&ouml;.html\">\n" shows "<a href=\"&ouml;&ouml;.html\">\n" ×
    "<http://a?&auml;>\n" shows "<p><a href=\"http://a?&amp;auml;\">http://a?&amp;auml;</a></p>\n" ×
    -- they are read in destinations, titles and info strings
    "[foo](/f&ouml;&ouml; \"f&ouml;&ouml;\")\n" shows "<p><a href=\"/f%C3%B6%C3%B6\" title=\"föö\">foo</a></p>\n" ×
    "[foo]\n\n[foo]: /f&ouml;&ouml; \"f&ouml;&ouml;\"\n" shows "<p><a href=\"/f%C3%B6%C3%B6\" title=\"föö\">foo</a></p>\n" ×
    "``` f&ouml;&ouml;\nfoo\n```\n" shows "<pre><code class=\"language-föö\">foo\n</code></pre>\n" ×
    -- what they stand for marks no structure
    "&#42; foo\n\n* foo\n" shows "<p>* foo</p>\n<ul>\n<li>foo</li>\n</ul>\n" ×
    "foo&#10;&#10;bar\n" shows "<p>foo\n\nbar</p>\n" ×
    "&#9;foo\n" shows "<p>\tfoo</p>\n"
unfolding html_words
references = (refl, refl, refl, refl, refl, refl, refl, refl, refl, refl, refl, refl, refl, refl, refl, refl, refl, refl, refl, refl)
