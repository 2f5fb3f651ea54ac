-- Examples: HTML blocks (section 4.6).
use Rattle.std.proofs.Common.{refl}
use Rattle.doc_rules.proofs.Computing.{html_words}
use Rattle.doc_rules.proofs.Shows.{◌shows◌}

kinds :
    "<table><tr><td>\n<pre>\n**Hello**,\n\n_world_.\n</pre>\n</td></tr></table>\n" shows
    "<table><tr><td>\n<pre>\n**Hello**,\n<p><em>world</em>.\n</pre></p>\n</td></tr></table>\n" ×
    "<table>\n  <tr>\n    <td>\n           hi\n    </td>\n  </tr>\n</table>\n\nokay.\n" shows
    "<table>\n  <tr>\n    <td>\n           hi\n    </td>\n  </tr>\n</table>\n<p>okay.</p>\n" ×
    " <div>\n  *hello*\n         <foo><a>\n" shows " <div>\n  *hello*\n         <foo><a>\n" ×
    "</div>\n*foo*\n" shows "</div>\n*foo*\n" ×
    "<DIV CLASS=\"foo\">\n\n*Markdown*\n\n</DIV>\n" shows "<DIV CLASS=\"foo\">\n<p><em>Markdown</em></p>\n</DIV>\n" ×
    "<div id=\"foo\n*hi*\n" shows "<div id=\"foo\n*hi*\n" ×
    "<div *???-&&&-<---\n*foo*\n" shows "<div *???-&&&-<---\n*foo*\n" ×
    "<div></div>\n``` c\nint x = 33;\n```\n" shows "<div></div>\n``` c\nint x = 33;\n```\n" ×
    "<Warning>\n*bar*\n</Warning>\n" shows "<Warning>\n*bar*\n</Warning>\n" ×
    "<del>\n\n*foo*\n\n</del>\n" shows "<del>\n<p><em>foo</em></p>\n</del>\n" ×
    "<pre language=\"haskell\"><code>\nimport Text\n\nmain\n</code></pre>\nokay\n" shows
    "<pre language=\"haskell\"><code>\nimport Text\n\nmain\n</code></pre>\n<p>okay</p>\n" ×
    "<textarea>\n\n*foo*\n\n_bar_\n\n</textarea>\n" shows "<textarea>\n\n*foo*\n\n_bar_\n\n</textarea>\n" ×
    "<style\n  type=\"text/css\">\n\nfoo\n" shows "<style\n  type=\"text/css\">\n\nfoo\n" ×
    "<style>p{color:red;}</style>\n*foo*\n" shows "<style>p{color:red;}</style>\n<p><em>foo</em></p>\n" ×
    "<!-- foo -->*bar*\n*baz*\n" shows "<!-- foo -->*bar*\n<p><em>baz</em></p>\n" ×
    "<script>\nfoo\n</script>1. *bar*\n" shows "<script>\nfoo\n</script>1. *bar*\n" ×
    "<!-- Foo\n\nbar\n   baz -->\nokay\n" shows "<!-- Foo\n\nbar\n   baz -->\n<p>okay</p>\n" ×
    "<?php\n\n  echo '>';\n\n?>\nokay\n" shows "<?php\n\n  echo '>';\n\n?>\n<p>okay</p>\n" ×
    "<!DOCTYPE html>\n" shows "<!DOCTYPE html>\n" ×
    "<![CDATA[\nfunction\n\n{\n}\n]]>\nokay\n" shows "<![CDATA[\nfunction\n\n{\n}\n]]>\n<p>okay</p>\n" ×
    "  <!-- foo -->\n\n    <!-- foo -->\n" shows "  <!-- foo -->\n<pre><code>&lt;!-- foo --&gt;\n</code></pre>\n" ×
    "  <div>\n\n    <div>\n" shows "  <div>\n<pre><code>&lt;div&gt;\n</code></pre>\n" ×
    -- behind a name of kind 6 stands white space, '>', '/>' or the end of the line
    "<p/>\n*a*\n" shows "<p/>\n*a*\n" ×
    "<p\n*a*\n" shows "<p\n*a*\n" ×
    "<p!>\n*a*\n" shows "<p>&lt;p!&gt;\n<em>a</em></p>\n"
unfolding html_words
kinds = (
  refl,
  refl,
  refl,
  refl,
  refl,
  refl,
  refl,
  refl,
  refl,
  refl,
  refl,
  refl,
  refl,
  refl,
  refl,
  refl,
  refl,
  refl,
  refl,
  refl,
  refl,
  refl,
  refl,
  refl,
  refl,
)

containers_and_paragraphs :
    "> <div>\n> foo\n\nbar\n" shows "<blockquote>\n<div>\nfoo\n</blockquote>\n<p>bar</p>\n" ×
    "- <div>\n- foo\n" shows "<ul>\n<li>\n<div>\n</li>\n<li>foo</li>\n</ul>\n" ×
    "Foo\n<div>\nbar\n</div>\n" shows "<p>Foo</p>\n<div>\nbar\n</div>\n" ×
    "<div>\nbar\n</div>\n*foo*\n" shows "<div>\nbar\n</div>\n*foo*\n" ×
    -- kind 7 interrupts no paragraph, also none that could go on lazily (this project's choice); the other kinds do
    "> a\n<b>\n" shows "<blockquote>\n<p>a\n<b></p>\n</blockquote>\n" ×
    "> a\n<div>\n" shows "<blockquote>\n<p>a</p>\n</blockquote>\n<div>\n"
unfolding html_words
containers_and_paragraphs = (refl, refl, refl, refl, refl, refl)

choices :
    -- the end may overlap the start
    "<!-->\n*a*\n" shows "<!-->\n<p><em>a</em></p>\n" ×
    "<!--->\n*a*\n" shows "<!--->\n<p><em>a</em></p>\n" ×
    "<?>\n*a*\n" shows "<?>\n<p><em>a</em></p>\n" ×
    -- names of kind 1 stand in any case, CDATA doesn't
    "<SCRIPT>\n\n</Script>\n*a*\n" shows "<SCRIPT>\n\n</Script>\n<p><em>a</em></p>\n" ×
    "<![cdata[\n*a*\n" shows "<p>&lt;![cdata[\n<em>a</em></p>\n" ×
    -- a closing tag of kind 1's names is kind 7, an open tag of theirs isn't
    "</pre>\n*a*\n\nb\n" shows "</pre>\n*a*\n<p>b</p>\n" ×
    "<pre/>\n*a*\n" shows "<p><pre/>\n<em>a</em></p>\n" ×
    -- this project's choice: blank lines at the end of a block go
    "<!-- a\n\n\n" shows "<!-- a\n"
unfolding html_words
choices = (refl, refl, refl, refl, refl, refl, refl, refl)
