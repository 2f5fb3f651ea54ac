-- Examples: characters, lines and tabs (sections 2.1 to 2.3).
use Rattle.std.proofs.Common.{refl, [], ◌∷◌, ◌++◌}
use Rattle.std.specs.Prelude.{codes}
use Rattle.doc_rules.proofs.Computing.{html_words}
use Rattle.doc_rules.proofs.Shows.{◌shows◌, ◌gives◌}

lines :
    -- LF, CR LF and CR end lines
    "a\rb\r\nc\n" shows "<p>a\nb\nc</p>\n" ×
    -- a line of spaces and tabs is blank
    "a\n \t\nb\n" shows "<p>a</p>\n<p>b</p>\n" ×
    -- U+0000 is U+FFFD
    (codes "a" ++ (0x0 ∷ codes "b\n")) gives (codes "<p>a�b</p>\n") ×
    -- this project's choice: form feeds, vertical tabs and no-break spaces are text where white space decides structure
    (0xC ∷ codes "\n") gives (codes "<p>" ++ (0xC ∷ codes "</p>\n")) ×
    (codes "a" ++ (0xC ∷ codes "\n\nb" ++ (0xB ∷ codes "\n"))) gives (codes "<p>a" ++ (0xC ∷ codes "</p>\n<p>b" ++ (0xB ∷ codes "</p>\n")))
    ×
    (codes "#" ++ (0xA0 ∷ codes "a\n")) gives (codes "<p>#" ++ (0xA0 ∷ codes "a</p>\n")) ×
    (codes ">" ++ (0xC ∷ codes "x\n")) gives (codes "<blockquote>\n<p>" ++ (0xC ∷ codes "x</p>\n</blockquote>\n"))
unfolding html_words
lines = (refl, refl, refl, refl, refl, refl, refl)

tabs :
    "  \tfoo\tbaz\t\tbim\n" shows "<pre><code>foo\tbaz\t\tbim\n</code></pre>\n" ×
    "    a\ta\n    ὐ\ta\n" shows "<pre><code>a\ta\nὐ\ta\n</code></pre>\n" ×
    "  - foo\n\n\tbar\n" shows "<ul>\n<li>\n<p>foo</p>\n<p>bar</p>\n</li>\n</ul>\n" ×
    "- foo\n\n\t\tbar\n" shows "<ul>\n<li>\n<p>foo</p>\n<pre><code>  bar\n</code></pre>\n</li>\n</ul>\n" ×
    ">\t\tfoo\n" shows "<blockquote>\n<pre><code>  foo\n</code></pre>\n</blockquote>\n" ×
    "-\t\tfoo\n" shows "<ul>\n<li>\n<pre><code>  foo\n</code></pre>\n</li>\n</ul>\n" ×
    "    foo\n\tbar\n" shows "<pre><code>foo\nbar\n</code></pre>\n" ×
    " - foo\n   - bar\n\t - baz\n" shows "<ul>\n<li>foo\n<ul>\n<li>bar\n<ul>\n<li>baz</li>\n</ul>\n</li>\n</ul>\n</li>\n</ul>\n" ×
    "#\tFoo\n" shows "<h1>Foo</h1>\n" ×
    "*\t*\t*\t\n" shows "<hr />\n" ×
    -- the marker takes one column of the tab, the other two stay as spaces
    ">\t<div>\n" shows "<blockquote>\n  <div>\n</blockquote>\n"
unfolding html_words
tabs = (refl, refl, refl, refl, refl, refl, refl, refl, refl, refl, refl)

whole_texts :
    -- an empty text
    [] gives [] ×
    -- the last line may have no ending
    "a" shows "<p>a</p>\n" ×
    "Multiple     spaces\n" shows "<p>Multiple     spaces</p>\n" ×
    "hello $.;'there\n" shows "<p>hello $.;'there</p>\n" ×
    "Foo χρῆν\n" shows "<p>Foo χρῆν</p>\n" ×
    -- U+FEFF is a character, also at the front
    (0xFEFF ∷ codes "# a\n") gives (codes "<p>" ++ (0xFEFF ∷ codes "# a</p>\n"))
unfolding html_words
whole_texts = (refl, refl, refl, refl, refl, refl)
