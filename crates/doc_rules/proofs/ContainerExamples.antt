-- Examples: block quotes, list items and lists (sections 5.1 to 5.3).
use Rattle.std.proofs.Common.{refl}
use Rattle.doc_rules.proofs.Computing.{html_words}
use Rattle.doc_rules.proofs.Shows.{◌shows◌}

quotes :
    "> # Foo\n> bar\n> baz\n" shows "<blockquote>\n<h1>Foo</h1>\n<p>bar\nbaz</p>\n</blockquote>\n" ×
    "># Foo\n>bar\n> baz\n" shows "<blockquote>\n<h1>Foo</h1>\n<p>bar\nbaz</p>\n</blockquote>\n" ×
    "    > # Foo\n    > bar\n    > baz\n" shows "<pre><code>&gt; # Foo\n&gt; bar\n&gt; baz\n</code></pre>\n" ×
    "> # Foo\n> bar\nbaz\n" shows "<blockquote>\n<h1>Foo</h1>\n<p>bar\nbaz</p>\n</blockquote>\n" ×
    "> bar\nbaz\n> foo\n" shows "<blockquote>\n<p>bar\nbaz\nfoo</p>\n</blockquote>\n" ×
    "> - foo\n- bar\n" shows "<blockquote>\n<ul>\n<li>foo</li>\n</ul>\n</blockquote>\n<ul>\n<li>bar</li>\n</ul>\n" ×
    ">     foo\n    bar\n" shows "<blockquote>\n<pre><code>foo\n</code></pre>\n</blockquote>\n<pre><code>bar\n</code></pre>\n" ×
    "> ```\nfoo\n```\n" shows "<blockquote>\n<pre><code></code></pre>\n</blockquote>\n<p>foo</p>\n<pre><code></code></pre>\n" ×
    "> foo\n    - bar\n" shows "<blockquote>\n<p>foo\n- bar</p>\n</blockquote>\n" ×
    ">\n" shows "<blockquote>\n</blockquote>\n" ×
    ">\n>  \n> \n" shows "<blockquote>\n</blockquote>\n" ×
    ">\n> foo\n>  \n" shows "<blockquote>\n<p>foo</p>\n</blockquote>\n" ×
    "> foo\n\n> bar\n" shows "<blockquote>\n<p>foo</p>\n</blockquote>\n<blockquote>\n<p>bar</p>\n</blockquote>\n" ×
    "> foo\n>\n> bar\n" shows "<blockquote>\n<p>foo</p>\n<p>bar</p>\n</blockquote>\n" ×
    "foo\n> bar\n" shows "<p>foo</p>\n<blockquote>\n<p>bar</p>\n</blockquote>\n" ×
    "> aaa\n***\n> bbb\n" shows "<blockquote>\n<p>aaa</p>\n</blockquote>\n<hr />\n<blockquote>\n<p>bbb</p>\n</blockquote>\n" ×
    "> bar\n\nbaz\n" shows "<blockquote>\n<p>bar</p>\n</blockquote>\n<p>baz</p>\n" ×
    "> bar\n>\nbaz\n" shows "<blockquote>\n<p>bar</p>\n</blockquote>\n<p>baz</p>\n" ×
    "> > > foo\nbar\n" shows "<blockquote>\n<blockquote>\n<blockquote>\n<p>foo\nbar</p>\n</blockquote>\n</blockquote>\n</blockquote>\n" ×
    ">>> foo\n> bar\n>>baz\n" shows
    "<blockquote>\n<blockquote>\n<blockquote>\n<p>foo\nbar\nbaz</p>\n</blockquote>\n</blockquote>\n</blockquote>\n" ×
    ">     code\n\n>    not code\n" shows
    "<blockquote>\n<pre><code>code\n</code></pre>\n</blockquote>\n<blockquote>\n<p>not code</p>\n</blockquote>\n"
unfolding html_words
quotes = (refl, refl, refl, refl, refl, refl, refl, refl, refl, refl, refl, refl, refl, refl, refl, refl, refl, refl, refl, refl, refl)

items :
    "1.  A paragraph\n    with two lines.\n\n        indented code\n\n    > A block quote.\n" shows
    "<ol>\n<li>\n<p>A paragraph\nwith two lines.</p>\n<pre><code>indented code\n</code></pre>\n<blockquote>\n<p>A block quote.</p>\n</blockquote>\n</li>\n</ol>\n" ×
    "- one\n\n two\n" shows "<ul>\n<li>one</li>\n</ul>\n<p>two</p>\n" ×
    "- one\n\n  two\n" shows "<ul>\n<li>\n<p>one</p>\n<p>two</p>\n</li>\n</ul>\n" ×
    " -    one\n\n     two\n" shows "<ul>\n<li>one</li>\n</ul>\n<pre><code> two\n</code></pre>\n" ×
    " -    one\n\n      two\n" shows "<ul>\n<li>\n<p>one</p>\n<p>two</p>\n</li>\n</ul>\n" ×
    "   > > 1.  one\n>>\n>>     two\n" shows
    "<blockquote>\n<blockquote>\n<ol>\n<li>\n<p>one</p>\n<p>two</p>\n</li>\n</ol>\n</blockquote>\n</blockquote>\n" ×
    ">>- one\n>>\n  >  > two\n" shows "<blockquote>\n<blockquote>\n<ul>\n<li>one</li>\n</ul>\n<p>two</p>\n</blockquote>\n</blockquote>\n" ×
    "-one\n\n2.two\n" shows "<p>-one</p>\n<p>2.two</p>\n" ×
    "- foo\n\n\n  bar\n" shows "<ul>\n<li>\n<p>foo</p>\n<p>bar</p>\n</li>\n</ul>\n" ×
    "123456789. ok\n" shows "<ol start=\"123456789\">\n<li>ok</li>\n</ol>\n" ×
    "0. ok\n" shows "<ol start=\"0\">\n<li>ok</li>\n</ol>\n" ×
    "003. ok\n" shows "<ol start=\"3\">\n<li>ok</li>\n</ol>\n" ×
    "-1. not ok\n" shows "<p>-1. not ok</p>\n" ×
    "- foo\n\n      bar\n" shows "<ul>\n<li>\n<p>foo</p>\n<pre><code>bar\n</code></pre>\n</li>\n</ul>\n" ×
    "  10.  foo\n\n           bar\n" shows "<ol start=\"10\">\n<li>\n<p>foo</p>\n<pre><code>bar\n</code></pre>\n</li>\n</ol>\n" ×
    "1.     indented code\n\n   paragraph\n\n       more code\n" shows
    "<ol>\n<li>\n<pre><code>indented code\n</code></pre>\n<p>paragraph</p>\n<pre><code>more code\n</code></pre>\n</li>\n</ol>\n" ×
    "1.      indented code\n\n   paragraph\n\n       more code\n" shows
    "<ol>\n<li>\n<pre><code> indented code\n</code></pre>\n<p>paragraph</p>\n<pre><code>more code\n</code></pre>\n</li>\n</ol>\n" ×
    "-    foo\n\n  bar\n" shows "<ul>\n<li>foo</li>\n</ul>\n<p>bar</p>\n" ×
    "-\n  foo\n-\n  ```\n  bar\n  ```\n-\n      baz\n" shows
    "<ul>\n<li>foo</li>\n<li>\n<pre><code>bar\n</code></pre>\n</li>\n<li>\n<pre><code>baz\n</code></pre>\n</li>\n</ul>\n" ×
    "-   \n  foo\n" shows "<ul>\n<li>foo</li>\n</ul>\n" ×
    "- foo\n-\n- bar\n" shows "<ul>\n<li>foo</li>\n<li></li>\n<li>bar</li>\n</ul>\n" ×
    "1. foo\n2.\n3. bar\n" shows "<ol>\n<li>foo</li>\n<li></li>\n<li>bar</li>\n</ol>\n" ×
    "*\n" shows "<ul>\n<li></li>\n</ul>\n" ×
    "foo\n*\n\nfoo\n1.\n" shows "<p>foo\n*</p>\n<p>foo\n1.</p>\n" ×
    "    1.  A paragraph\n        with two lines.\n" shows "<pre><code>1.  A paragraph\n    with two lines.\n</code></pre>\n" ×
    "  1.  A paragraph\nwith two lines.\n\n          indented code\n\n      > A block quote.\n" shows
    "<ol>\n<li>\n<p>A paragraph\nwith two lines.</p>\n<pre><code>indented code\n</code></pre>\n<blockquote>\n<p>A block quote.</p>\n</blockquote>\n</li>\n</ol>\n" ×
    "> 1. > Blockquote\ncontinued here.\n" shows
    "<blockquote>\n<ol>\n<li>\n<blockquote>\n<p>Blockquote\ncontinued here.</p>\n</blockquote>\n</li>\n</ol>\n</blockquote>\n" ×
    "> 1. > Blockquote\n> continued here.\n" shows
    "<blockquote>\n<ol>\n<li>\n<blockquote>\n<p>Blockquote\ncontinued here.</p>\n</blockquote>\n</li>\n</ol>\n</blockquote>\n" ×
    "- foo\n  - bar\n    - baz\n      - boo\n" shows
    "<ul>\n<li>foo\n<ul>\n<li>bar\n<ul>\n<li>baz\n<ul>\n<li>boo</li>\n</ul>\n</li>\n</ul>\n</li>\n</ul>\n</li>\n</ul>\n" ×
    "- foo\n - bar\n  - baz\n   - boo\n" shows "<ul>\n<li>foo</li>\n<li>bar</li>\n<li>baz</li>\n<li>boo</li>\n</ul>\n" ×
    "10) foo\n    - bar\n" shows "<ol start=\"10\">\n<li>foo\n<ul>\n<li>bar</li>\n</ul>\n</li>\n</ol>\n" ×
    "10) foo\n   - bar\n" shows "<ol start=\"10\">\n<li>foo</li>\n</ol>\n<ul>\n<li>bar</li>\n</ul>\n" ×
    "- - foo\n" shows "<ul>\n<li>\n<ul>\n<li>foo</li>\n</ul>\n</li>\n</ul>\n" ×
    "1. - 2. foo\n" shows "<ol>\n<li>\n<ul>\n<li>\n<ol start=\"2\">\n<li>foo</li>\n</ol>\n</li>\n</ul>\n</li>\n</ol>\n" ×
    "- # Foo\n- Bar\n  ---\n  baz\n" shows "<ul>\n<li>\n<h1>Foo</h1>\n</li>\n<li>\n<h2>Bar</h2>\nbaz</li>\n</ul>\n" ×
    -- a number is what its digits write
    "a\n01. b\n" shows "<p>a</p>\n<ol>\n<li>b</li>\n</ol>\n" ×
    "000000001. b\n" shows "<ol>\n<li>b</li>\n</ol>\n" ×
    -- an item that starts blank ends where its next line is blank too, however far in that is (this project's choice)
    "-\n  \n  foo\n" shows "<ul>\n<li></li>\n</ul>\n<p>foo</p>\n" ×
    "-\n\n- b\n" shows "<ul>\n<li></li>\n<li>\n<p>b</p>\n</li>\n</ul>\n"
unfolding html_words
items = (
  refl,
  refl,
  refl,
  refl,
  refl,
  refl,
  refl,
  refl,
  refl,
  refl,
  refl,
  refl,
  refl,
  refl,
  refl,
  refl,
  refl,
  refl,
  refl,
  refl,
  refl,
  refl,
  refl,
  refl,
  refl,
  refl,
  refl,
  refl,
  refl,
  refl,
  refl,
  refl,
  refl,
  refl,
  refl,
  refl,
  refl,
  refl,
  refl,
)

lists :
    "- foo\n- bar\n+ baz\n" shows "<ul>\n<li>foo</li>\n<li>bar</li>\n</ul>\n<ul>\n<li>baz</li>\n</ul>\n" ×
    "1. foo\n2. bar\n3) baz\n" shows "<ol>\n<li>foo</li>\n<li>bar</li>\n</ol>\n<ol start=\"3\">\n<li>baz</li>\n</ol>\n" ×
    "Foo\n- bar\n- baz\n" shows "<p>Foo</p>\n<ul>\n<li>bar</li>\n<li>baz</li>\n</ul>\n" ×
    "The number of windows in my house is\n1.  The number of doors is 6.\n" shows
    "<p>The number of windows in my house is</p>\n<ol>\n<li>The number of doors is 6.</li>\n</ol>\n" ×
    "- foo\n\n- bar\n\n\n- baz\n" shows "<ul>\n<li>\n<p>foo</p>\n</li>\n<li>\n<p>bar</p>\n</li>\n<li>\n<p>baz</p>\n</li>\n</ul>\n" ×
    "- foo\n  - bar\n    - baz\n\n\n      bim\n" shows
    "<ul>\n<li>foo\n<ul>\n<li>bar\n<ul>\n<li>\n<p>baz</p>\n<p>bim</p>\n</li>\n</ul>\n</li>\n</ul>\n</li>\n</ul>\n" ×
    "- foo\n- bar\n\n<!-- -->\n\n- baz\n- bim\n" shows
    "<ul>\n<li>foo</li>\n<li>bar</li>\n</ul>\n<!-- -->\n<ul>\n<li>baz</li>\n<li>bim</li>\n</ul>\n" ×
    "1. a\n\n  2. b\n\n   3. c\n" shows "<ol>\n<li>\n<p>a</p>\n</li>\n<li>\n<p>b</p>\n</li>\n<li>\n<p>c</p>\n</li>\n</ol>\n" ×
    "1. a\n\n  2. b\n\n    3. c\n" shows "<ol>\n<li>\n<p>a</p>\n</li>\n<li>\n<p>b</p>\n</li>\n</ol>\n<pre><code>3. c\n</code></pre>\n" ×
    "- a\n- b\n\n- c\n" shows "<ul>\n<li>\n<p>a</p>\n</li>\n<li>\n<p>b</p>\n</li>\n<li>\n<p>c</p>\n</li>\n</ul>\n" ×
    "* a\n*\n\n* c\n" shows "<ul>\n<li>\n<p>a</p>\n</li>\n<li></li>\n<li>\n<p>c</p>\n</li>\n</ul>\n" ×
    "- a\n- b\n\n  c\n- d\n" shows "<ul>\n<li>\n<p>a</p>\n</li>\n<li>\n<p>b</p>\n<p>c</p>\n</li>\n<li>\n<p>d</p>\n</li>\n</ul>\n" ×
    "- a\n- b\n\n  [ref]: /url\n- d\n" shows "<ul>\n<li>\n<p>a</p>\n</li>\n<li>\n<p>b</p>\n</li>\n<li>\n<p>d</p>\n</li>\n</ul>\n" ×
    "- a\n- ```\n  b\n\n\n  ```\n- c\n" shows "<ul>\n<li>a</li>\n<li>\n<pre><code>b\n\n\n</code></pre>\n</li>\n<li>c</li>\n</ul>\n" ×
    "- a\n  - b\n\n    c\n- d\n" shows "<ul>\n<li>a\n<ul>\n<li>\n<p>b</p>\n<p>c</p>\n</li>\n</ul>\n</li>\n<li>d</li>\n</ul>\n" ×
    "- a\n  > b\n  ```\n  c\n  ```\n- d\n" shows
    "<ul>\n<li>a\n<blockquote>\n<p>b</p>\n</blockquote>\n<pre><code>c\n</code></pre>\n</li>\n<li>d</li>\n</ul>\n" ×
    "- a\n  - b\n" shows "<ul>\n<li>a\n<ul>\n<li>b</li>\n</ul>\n</li>\n</ul>\n" ×
    "1. ```\n   foo\n   ```\n\n   bar\n" shows "<ol>\n<li>\n<pre><code>foo\n</code></pre>\n<p>bar</p>\n</li>\n</ol>\n" ×
    "* foo\n  * bar\n\n  baz\n" shows "<ul>\n<li>\n<p>foo</p>\n<ul>\n<li>bar</li>\n</ul>\n<p>baz</p>\n</li>\n</ul>\n" ×
    "- a\n  - b\n  - c\n\n- d\n  - e\n  - f\n" shows
    "<ul>\n<li>\n<p>a</p>\n<ul>\n<li>b</li>\n<li>c</li>\n</ul>\n</li>\n<li>\n<p>d</p>\n<ul>\n<li>e</li>\n<li>f</li>\n</ul>\n</li>\n</ul>\n" ×
    -- which lists are loose goes by their lines, before definitions leave (this project's choice)
    "- [a]: /u\n\n  b\n" shows "<ul>\n<li>\n<p>b</p>\n</li>\n</ul>\n" ×
    "- ___\n\n  b\n" shows "<ul>\n<li>\n<hr />\n<p>b</p>\n</li>\n</ul>\n" ×
    -- this project's choice: blank lines at the end of an open fence are its own, at the end of indented code and of HTML blocks they
    -- aren't
    "- ```\n  a\n\n- b\n" shows "<ul>\n<li>\n<pre><code>a\n\n</code></pre>\n</li>\n<li>b</li>\n</ul>\n" ×
    "-     a\n\n- b\n" shows "<ul>\n<li>\n<pre><code>a\n</code></pre>\n</li>\n<li>\n<p>b</p>\n</li>\n</ul>\n" ×
    "- <!-- a\n\n- b\n" shows "<ul>\n<li>\n<!-- a\n</li>\n<li>\n<p>b</p>\n</li>\n</ul>\n"
unfolding html_words
lists = (
  refl,
  refl,
  refl,
  refl,
  refl,
  refl,
  refl,
  refl,
  refl,
  refl,
  refl,
  refl,
  refl,
  refl,
  refl,
  refl,
  refl,
  refl,
  refl,
  refl,
  refl,
  refl,
  refl,
  refl,
  refl,
)
