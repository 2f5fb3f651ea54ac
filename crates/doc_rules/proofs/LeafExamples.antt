-- Examples: thematic breaks, headings, code, paragraphs and blank lines (sections 4.1 to 4.5, 4.8 and 4.9).
use Rattle.std.proofs.Common.{refl}
use Rattle.doc_rules.proofs.Computing.{html_words}
use Rattle.doc_rules.proofs.Shows.{◌shows◌}

thematic_breaks :
    "***\n---\n___\n" shows "<hr />\n<hr />\n<hr />\n" ×
    "+++\n" shows "<p>+++</p>\n" ×
    "===\n" shows "<p>===</p>\n" ×
    "--\n**\n__\n" shows "<p>--\n**\n__</p>\n" ×
    " ***\n  ***\n   ***\n" shows "<hr />\n<hr />\n<hr />\n" ×
    "    ***\n" shows "<pre><code>***\n</code></pre>\n" ×
    "Foo\n    ***\n" shows "<p>Foo\n***</p>\n" ×
    " - - -\n" shows "<hr />\n" ×
    " **  * ** * ** * **\n" shows "<hr />\n" ×
    "- - - -    \n" shows "<hr />\n" ×
    "_ _ _ _ a\n\na------\n\n---a---\n" shows "<p>_ _ _ _ a</p>\n<p>a------</p>\n<p>---a---</p>\n" ×
    " *-*\n" shows "<p><em>-</em></p>\n" ×
    "- foo\n***\n- bar\n" shows "<ul>\n<li>foo</li>\n</ul>\n<hr />\n<ul>\n<li>bar</li>\n</ul>\n" ×
    -- a break goes before an item
    "* Foo\n* * *\n* Bar\n" shows "<ul>\n<li>Foo</li>\n</ul>\n<hr />\n<ul>\n<li>Bar</li>\n</ul>\n" ×
    "- Foo\n- * * *\n" shows "<ul>\n<li>Foo</li>\n<li>\n<hr />\n</li>\n</ul>\n"
unfolding html_words
thematic_breaks = (refl, refl, refl, refl, refl, refl, refl, refl, refl, refl, refl, refl, refl, refl, refl)

atx_headings :
    "# foo\n## foo\n### foo\n#### foo\n##### foo\n###### foo\n" shows
    "<h1>foo</h1>\n<h2>foo</h2>\n<h3>foo</h3>\n<h4>foo</h4>\n<h5>foo</h5>\n<h6>foo</h6>\n" ×
    "####### foo\n" shows "<p>####### foo</p>\n" ×
    "#5 bolt\n\n#hashtag\n" shows "<p>#5 bolt</p>\n<p>#hashtag</p>\n" ×
    "\\## foo\n" shows "<p>## foo</p>\n" ×
    "# foo *bar* \\*baz\\*\n" shows "<h1>foo <em>bar</em> *baz*</h1>\n" ×
    "#                  foo                     \n" shows "<h1>foo</h1>\n" ×
    " ### foo\n  ## foo\n   # foo\n" shows "<h3>foo</h3>\n<h2>foo</h2>\n<h1>foo</h1>\n" ×
    "    # foo\n" shows "<pre><code># foo\n</code></pre>\n" ×
    "foo\n    # bar\n" shows "<p>foo\n# bar</p>\n" ×
    "## foo ##\n  ###   bar    ###\n" shows "<h2>foo</h2>\n<h3>bar</h3>\n" ×
    "# foo ##################################\n##### foo ##\n" shows "<h1>foo</h1>\n<h5>foo</h5>\n" ×
    "### foo ###     \n" shows "<h3>foo</h3>\n" ×
    -- a closing run stands behind a space or a tab; a backslash is none
    "### foo \\###\n## foo #\\##\n# foo \\#\n" shows "<h3>foo ###</h3>\n<h2>foo ###</h2>\n<h1>foo #</h1>\n" ×
    "# foo\t#\t\n" shows "<h1>foo</h1>\n" ×
    "****\n## foo\n****\n" shows "<hr />\n<h2>foo</h2>\n<hr />\n" ×
    "Foo bar\n# baz\nBar foo\n" shows "<p>Foo bar</p>\n<h1>baz</h1>\n<p>Bar foo</p>\n"
unfolding html_words
atx_headings = (refl, refl, refl, refl, refl, refl, refl, refl, refl, refl, refl, refl, refl, refl, refl, refl)

setext_headings :
    "Foo *bar*\n=========\n\nFoo *bar*\n---------\n" shows "<h1>Foo <em>bar</em></h1>\n<h2>Foo <em>bar</em></h2>\n" ×
    "Foo *bar\nbaz*\n====\n" shows "<h1>Foo <em>bar\nbaz</em></h1>\n" ×
    "  Foo *bar\nbaz*\t\n====\n" shows "<h1>Foo <em>bar\nbaz</em></h1>\n" ×
    "Foo\n-------------------------\n\nFoo\n=\n" shows "<h2>Foo</h2>\n<h1>Foo</h1>\n" ×
    "   Foo\n---\n\n  Foo\n-----\n\n  Foo\n  ===\n" shows "<h2>Foo</h2>\n<h2>Foo</h2>\n<h1>Foo</h1>\n" ×
    "    Foo\n    ---\n\n    Foo\n---\n" shows "<pre><code>Foo\n---\n\nFoo\n</code></pre>\n<hr />\n" ×
    "Foo\n   ----      \n" shows "<h2>Foo</h2>\n" ×
    "Foo\n    ---\n" shows "<p>Foo\n---</p>\n" ×
    "Foo\n= =\n\nFoo\n--- -\n" shows "<p>Foo\n= =</p>\n<p>Foo</p>\n<hr />\n" ×
    "Foo  \n-----\n" shows "<h2>Foo</h2>\n" ×
    "Foo\\\n----\n" shows "<h2>Foo\\</h2>\n" ×
    "`Foo\n----\n`\n\n<a title=\"a lot\n---\nof dashes\"/>\n" shows
    "<h2>`Foo</h2>\n<p>`</p>\n<h2>&lt;a title=&quot;a lot</h2>\n<p>of dashes&quot;/&gt;</p>\n" ×
    "- Foo\n---\n" shows "<ul>\n<li>Foo</li>\n</ul>\n<hr />\n" ×
    "Foo\nBar\n---\n" shows "<h2>Foo\nBar</h2>\n" ×
    "---\nFoo\n---\nBar\n---\nBaz\n" shows "<hr />\n<h2>Foo</h2>\n<h2>Bar</h2>\n<p>Baz</p>\n" ×
    "\n====\n" shows "<p>====</p>\n" ×
    "---\n---\n" shows "<hr />\n<hr />\n" ×
    "    foo\n---\n" shows "<pre><code>foo\n</code></pre>\n<hr />\n" ×
    "> foo\n-----\n" shows "<blockquote>\n<p>foo</p>\n</blockquote>\n<hr />\n" ×
    "\\> foo\n------\n" shows "<h2>&gt; foo</h2>\n" ×
    -- definitions leave first; where nothing else stands above it, the line is no underline (this project's choice), but may begin a break
    "[foo]: /url\nbar\n===\n[foo]\n" shows "<h1>bar</h1>\n<p><a href=\"/url\">foo</a></p>\n" ×
    "[foo]: /url\n===\n[foo]\n" shows "<p>===\n<a href=\"/url\">foo</a></p>\n" ×
    "[foo]: /url\n===\n" shows "<p>===</p>\n" ×
    "[foo]: /url\n---\n" shows "<hr />\n" ×
    "[foo]: /url\n-\n" shows "<p>-</p>\n" ×
    "[foo]: /url\n===\n===\n" shows "<h1>===</h1>\n"
unfolding html_words
setext_headings = (
  refl,
  refl,
  refl,
  refl,
  refl,
  refl,
  refl,
  refl,
  refl,
  refl,
  refl,
  refl,
  refl,
  refl,
  refl,
  refl,
  refl,
  refl,
  refl,
  refl,
  refl,
  refl,
  refl,
  refl,
  refl,
  refl,
)

indented_code :
    "    a simple\n      indented code block\n" shows "<pre><code>a simple\n  indented code block\n</code></pre>\n" ×
    "  - foo\n\n    bar\n" shows "<ul>\n<li>\n<p>foo</p>\n<p>bar</p>\n</li>\n</ul>\n" ×
    "1.  foo\n\n    - bar\n" shows "<ol>\n<li>\n<p>foo</p>\n<ul>\n<li>bar</li>\n</ul>\n</li>\n</ol>\n" ×
    "    <a/>\n    *hi*\n\n    - one\n" shows "<pre><code>&lt;a/&gt;\n*hi*\n\n- one\n</code></pre>\n" ×
    "    chunk1\n\n    chunk2\n  \n \n \n    chunk3\n" shows "<pre><code>chunk1\n\nchunk2\n\n\n\nchunk3\n</code></pre>\n" ×
    "    foo\nbar\n" shows "<pre><code>foo\n</code></pre>\n<p>bar</p>\n" ×
    "# Heading\n    foo\nHeading\n------\n    foo\n----\n" shows
    "<h1>Heading</h1>\n<pre><code>foo\n</code></pre>\n<h2>Heading</h2>\n<pre><code>foo\n</code></pre>\n<hr />\n" ×
    "        foo\n    bar\n" shows "<pre><code>    foo\nbar\n</code></pre>\n" ×
    "\n    \n    foo\n    \n\n" shows "<pre><code>foo\n</code></pre>\n" ×
    "    foo  \n" shows "<pre><code>foo  \n</code></pre>\n"
unfolding html_words
indented_code = (refl, refl, refl, refl, refl, refl, refl, refl, refl, refl)

fenced_code :
    "```\n<\n >\n```\n" shows "<pre><code>&lt;\n &gt;\n</code></pre>\n" ×
    "~~~\n<\n >\n~~~\n" shows "<pre><code>&lt;\n &gt;\n</code></pre>\n" ×
    "``\nfoo\n``\n" shows "<p><code>foo</code></p>\n" ×
    "```\naaa\n~~~\n```\n" shows "<pre><code>aaa\n~~~\n</code></pre>\n" ×
    "````\naaa\n```\n``````\n" shows "<pre><code>aaa\n```\n</code></pre>\n" ×
    "```\n" shows "<pre><code></code></pre>\n" ×
    "`````\n\n```\naaa\n" shows "<pre><code>\n```\naaa\n</code></pre>\n" ×
    "> ```\n> aaa\n\nbbb\n" shows "<blockquote>\n<pre><code>aaa\n</code></pre>\n</blockquote>\n<p>bbb</p>\n" ×
    "```\n\n  \n```\n" shows "<pre><code>\n  \n</code></pre>\n" ×
    " ```\n aaa\naaa\n```\n" shows "<pre><code>aaa\naaa\n</code></pre>\n" ×
    "   ```\n   aaa\n    aaa\n  aaa\n   ```\n" shows "<pre><code>aaa\n aaa\naaa\n</code></pre>\n" ×
    "    ```\n    aaa\n    ```\n" shows "<pre><code>```\naaa\n```\n</code></pre>\n" ×
    "```\naaa\n  ```\n" shows "<pre><code>aaa\n</code></pre>\n" ×
    "```\naaa\n    ```\n" shows "<pre><code>aaa\n    ```\n</code></pre>\n" ×
    "~~~~~~\naaa\n~~~ ~~\n" shows "<pre><code>aaa\n~~~ ~~\n</code></pre>\n" ×
    "foo\n```\nbar\n```\nbaz\n" shows "<p>foo</p>\n<pre><code>bar\n</code></pre>\n<p>baz</p>\n" ×
    "~~~~    ruby startline=3 $%@#$\ndef foo(x)\n  return 3\nend\n~~~~~~~\n" shows
    "<pre><code class=\"language-ruby\">def foo(x)\n  return 3\nend\n</code></pre>\n" ×
    "````;\n````\n" shows "<pre><code class=\"language-;\"></code></pre>\n" ×
    "``` aa ```\nfoo\n" shows "<p><code>aa</code>\nfoo</p>\n" ×
    "~~~ aa ``` ~~~\nfoo\n~~~\n" shows "<pre><code class=\"language-aa\">foo\n</code></pre>\n" ×
    "```\n``` aaa\n```\n" shows "<pre><code>``` aaa\n</code></pre>\n" ×
    -- the class is the first word of the info string whose references are read (this project's choice); a line ending is no space or tab
    "~~~ &#32;z\na\n~~~\n" shows "<pre><code class=\"language-z\">a\n</code></pre>\n" ×
    "~~~ &#32;\n~~~\n" shows "<pre><code></code></pre>\n" ×
    "~~~ a&#10;b\n~~~\n" shows "<pre><code class=\"language-a\nb\"></code></pre>\n" ×
    -- of a blank line in an item's fence the item's columns go, and no more
    "- ```\n       \n  ```\n" shows "<ul>\n<li>\n<pre><code>     \n</code></pre>\n</li>\n</ul>\n"
unfolding html_words
fenced_code = (
  refl,
  refl,
  refl,
  refl,
  refl,
  refl,
  refl,
  refl,
  refl,
  refl,
  refl,
  refl,
  refl,
  refl,
  refl,
  refl,
  refl,
  refl,
  refl,
  refl,
  refl,
  refl,
  refl,
  refl,
  refl,
)

paragraphs :
    "aaa\n\nbbb\n" shows "<p>aaa</p>\n<p>bbb</p>\n" ×
    "aaa\nbbb\n\nccc\nddd\n" shows "<p>aaa\nbbb</p>\n<p>ccc\nddd</p>\n" ×
    "aaa\n\n\nbbb\n" shows "<p>aaa</p>\n<p>bbb</p>\n" ×
    "  aaa\n bbb\n" shows "<p>aaa\nbbb</p>\n" ×
    "aaa\n             bbb\n                                       ccc\n" shows "<p>aaa\nbbb\nccc</p>\n" ×
    "   aaa\nbbb\n" shows "<p>aaa\nbbb</p>\n" ×
    "    aaa\nbbb\n" shows "<pre><code>aaa\n</code></pre>\n<p>bbb</p>\n" ×
    "aaa     \nbbb     \n" shows "<p>aaa<br />\nbbb</p>\n" ×
    "  \n\naaa\n  \n\n# aaa\n\n  \n" shows "<p>aaa</p>\n<h1>aaa</h1>\n"
unfolding html_words
paragraphs = (refl, refl, refl, refl, refl, refl, refl, refl, refl)
