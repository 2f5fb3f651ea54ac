-- Examples: emphasis and strong emphasis (section 6.2).
use Rattle.std.proofs.Common.{refl, ◌∷◌, ◌++◌}
use Rattle.std.specs.Prelude.{codes}
use Rattle.doc_rules.proofs.Computing.{html_words}
use Rattle.doc_rules.proofs.Shows.{◌shows◌, ◌gives◌}

one_delimiter :
    "*foo bar*\n" shows "<p><em>foo bar</em></p>\n" ×
    "a * foo bar*\n" shows "<p>a * foo bar*</p>\n" ×
    (codes "*" ++ (0xA0 ∷ codes "a" ++ (0xA0 ∷ codes "*\n"))) gives (codes "<p>*" ++ (0xA0 ∷ codes "a" ++ (0xA0 ∷ codes "*</p>\n"))) ×
    "*$*alpha.\n\n*£*bravo.\n\n*€*charlie.\n" shows "<p>*$*alpha.</p>\n<p>*£*bravo.</p>\n<p>*€*charlie.</p>\n" ×
    "foo*bar*\n" shows "<p>foo<em>bar</em></p>\n" ×
    "5*6*78\n" shows "<p>5<em>6</em>78</p>\n" ×
    "_ foo bar_\n" shows "<p>_ foo bar_</p>\n" ×
    "a_\"foo\"_\n" shows "<p>a_&quot;foo&quot;_</p>\n" ×
    "foo_bar_\n" shows "<p>foo_bar_</p>\n" ×
    "5_6_78\n" shows "<p>5_6_78</p>\n" ×
    "пристаням_стремятся_\n" shows "<p>пристаням_стремятся_</p>\n" ×
    "aa_\"bb\"_cc\n" shows "<p>aa_&quot;bb&quot;_cc</p>\n" ×
    "_foo*\n" shows "<p>_foo*</p>\n" ×
    "*foo bar *\n" shows "<p>*foo bar *</p>\n" ×
    "*(*foo)\n" shows "<p>*(*foo)</p>\n" ×
    "*(*foo*)*\n" shows "<p><em>(<em>foo</em>)</em></p>\n" ×
    "*foo*bar\n" shows "<p><em>foo</em>bar</p>\n" ×
    "_(_foo_)_\n" shows "<p><em>(<em>foo</em>)</em></p>\n" ×
    "_foo_bar\n" shows "<p>_foo_bar</p>\n" ×
    "_(bar)_.\n" shows "<p><em>(bar)</em>.</p>\n" ×
    "foo *\\**\n" shows "<p>foo <em>*</em></p>\n" ×
    "foo *_*\n" shows "<p>foo <em>_</em></p>\n" ×
    "foo ***\n" shows "<p>foo ***</p>\n"
unfolding html_words
one_delimiter = (
  refl,
  refl,
  refl,
  refl,
  refl,
  refl,
  refl,
  refl,
  refl,
  refl,
  refl,
  refl,
  refl,
  refl,
  refl,
  refl,
  refl,
  refl,
  refl,
  refl,
  refl,
  refl,
  refl,
)

two_delimiters :
    "**foo bar**\n" shows "<p><strong>foo bar</strong></p>\n" ×
    "** foo bar**\n" shows "<p>** foo bar**</p>\n" ×
    "a**\"foo\"**\n" shows "<p>a**&quot;foo&quot;**</p>\n" ×
    "foo**bar**\n" shows "<p>foo<strong>bar</strong></p>\n" ×
    "foo__bar__\n" shows "<p>foo__bar__</p>\n" ×
    "__foo, __bar__, baz__\n" shows "<p><strong>foo, <strong>bar</strong>, baz</strong></p>\n" ×
    "foo-__(bar)__\n" shows "<p>foo-<strong>(bar)</strong></p>\n" ×
    "**(**foo)\n" shows "<p>**(**foo)</p>\n" ×
    "*(**foo**)*\n" shows "<p><em>(<strong>foo</strong>)</em></p>\n" ×
    "**foo \"*bar*\" foo**\n" shows "<p><strong>foo &quot;<em>bar</em>&quot; foo</strong></p>\n" ×
    "** is not an empty emphasis\n" shows "<p>** is not an empty emphasis</p>\n" ×
    "**** is not an empty strong emphasis\n" shows "<p>**** is not an empty strong emphasis</p>\n"
unfolding html_words
two_delimiters = (refl, refl, refl, refl, refl, refl, refl, refl, refl, refl, refl, refl)

nesting :
    "_foo __bar__ baz_\n" shows "<p><em>foo <strong>bar</strong> baz</em></p>\n" ×
    "_foo _bar_ baz_\n" shows "<p><em>foo <em>bar</em> baz</em></p>\n" ×
    "__foo_ bar_\n" shows "<p><em><em>foo</em> bar</em></p>\n" ×
    "*foo *bar**\n" shows "<p><em>foo <em>bar</em></em></p>\n" ×
    "***foo** bar*\n" shows "<p><em><strong>foo</strong> bar</em></p>\n" ×
    "*foo **bar***\n" shows "<p><em>foo <strong>bar</strong></em></p>\n" ×
    "*foo**bar***\n" shows "<p><em>foo<strong>bar</strong></em></p>\n" ×
    "foo***bar***baz\n" shows "<p>foo<em><strong>bar</strong></em>baz</p>\n" ×
    "____foo__ bar__\n" shows "<p><strong><strong>foo</strong> bar</strong></p>\n" ×
    "**foo*bar*baz**\n" shows "<p><strong>foo<em>bar</em>baz</strong></p>\n" ×
    "***foo* bar**\n" shows "<p><strong><em>foo</em> bar</strong></p>\n" ×
    "*foo [bar](/url)*\n" shows "<p><em>foo <a href=\"/url\">bar</a></em></p>\n" ×
    "**foo [bar](/url)**\n" shows "<p><strong>foo <a href=\"/url\">bar</a></strong></p>\n" ×
    "*foo\nbar*\n" shows "<p><em>foo\nbar</em></p>\n"
unfolding html_words
nesting = (refl, refl, refl, refl, refl, refl, refl, refl, refl, refl, refl, refl, refl, refl)

lengths :
    -- the sum of the lengths is no multiple of 3 where one of the two both opens and closes, unless both lengths are
    "*foo**bar*\n" shows "<p><em>foo**bar</em></p>\n" ×
    "*foo**bar*baz\n" shows "<p><em>foo**bar</em>baz</p>\n" ×
    "**foo*\n" shows "<p>*<em>foo</em></p>\n" ×
    "*foo**\n" shows "<p><em>foo</em>*</p>\n" ×
    "***foo**\n" shows "<p>*<strong>foo</strong></p>\n" ×
    "****foo*\n" shows "<p>***<em>foo</em></p>\n" ×
    "*foo****\n" shows "<p><em>foo</em>***</p>\n" ×
    "*_foo_*\n" shows "<p><em><em>foo</em></em></p>\n" ×
    "****foo****\n" shows "<p><strong><strong>foo</strong></strong></p>\n" ×
    "******foo******\n" shows "<p><strong><strong><strong>foo</strong></strong></strong></p>\n" ×
    "***foo***\n" shows "<p><em><strong>foo</strong></em></p>\n" ×
    "_____foo_____\n" shows "<p><em><strong><strong>foo</strong></strong></em></p>\n"
unfolding html_words
lengths = (refl, refl, refl, refl, refl, refl, refl, refl, refl, refl, refl, refl)

order :
    "*foo __bar *baz bim__ bam*\n" shows "<p><em>foo <strong>bar *baz bim</strong> bam</em></p>\n" ×
    "**foo **bar baz**\n" shows "<p>**foo <strong>bar baz</strong></p>\n" ×
    "*foo *bar baz*\n" shows "<p>*foo <em>bar baz</em></p>\n" ×
    "_foo [bar_](/url)\n" shows "<p>_foo <a href=\"/url\">bar_</a></p>\n" ×
    "*<img src=\"foo\" title=\"*\"/>\n" shows "<p>*<img src=\"foo\" title=\"*\"/></p>\n" ×
    "*a `*`*\n" shows "<p><em>a <code>*</code></em></p>\n" ×
    "**a<https://foo.bar/?q=**>\n" shows "<p>**a<a href=\"https://foo.bar/?q=**\">https://foo.bar/?q=**</a></p>\n"
unfolding html_words
order = (refl, refl, refl, refl, refl, refl, refl)

neighbours :
    -- the characters beside a run are those of the source, also of a reference, of U+0000 as it is read, and of brackets
    "&auml;*\"a\"*\n" shows "<p>ä<em>&quot;a&quot;</em></p>\n" ×
    "ä*\"a\"*\n" shows "<p>ä*&quot;a&quot;*</p>\n" ×
    (0x0 ∷ codes "*\"a\"*\n") gives (codes "<p>�<em>&quot;a&quot;</em></p>\n") ×
    "a[_b_](c)d\n" shows "<p>a<a href=\"c\"><em>b</em></a>d</p>\n" ×
    -- 'ﬁ' is a letter, '›' is punctuation
    "ﬁ_\"a\"_\n" shows "<p>ﬁ_&quot;a&quot;_</p>\n" ×
    "›_\"a\"_\n" shows "<p>›<em>&quot;a&quot;</em></p>\n"
unfolding html_words
neighbours = (refl, refl, refl, refl, refl, refl)
