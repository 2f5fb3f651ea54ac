-- Examples: lines and columns, and what stands at the front of a text: tags, addresses, destinations, titles, labels, definitions.
use Rattle.std.proofs.Common.{◌≡◌, [], ◌∷◌, ◌++◌, replicate, refl}
use Rattle.std.specs.Prelude.{codes, Some, None}
use Rattle.doc_rules.proofs.Computing.{reference_words}
use Rattle.doc_rules.specs.Lines.{lines_of, line_content}
use Rattle.doc_rules.specs.Columns.{columns_of, cells_of, skip, text_of}
use Rattle.doc_rules.specs.Entities.{built_in}
use Rattle.doc_rules.specs.Rules.{plain_rules, built_in_rules}
use Rattle.doc_rules.specs.Escapes.{unescape, find_entity}
use Rattle.doc_rules.specs.Tags.{html_tag, raw_html}
use Rattle.doc_rules.specs.Autolinks.{uri, mail}
use Rattle.doc_rules.specs.Destinations.{destination, title}
use Rattle.doc_rules.specs.Labels.{label, normal_label}
use Rattle.doc_rules.specs.Definitions.{definitions_of, find_reference}

-- ---- lines and columns (2.1, 2.2)

lines : lines_of (codes "a\r\nb\rc\n\nd") ≡ codes "a\r\n" ∷ codes "b\r" ∷ codes "c\n" ∷ codes "\n" ∷ codes "d" ∷ []
unfolding reference_words
lines = refl

content : line_content (97 ∷ 0 ∷ 13 ∷ 10 ∷ []) ≡ 97 ∷ 0xFFFD ∷ []
unfolding reference_words
content = refl

columns :
    columns_of (codes "a\tb\t")
    ≡ record { char = 97; first = 0; width = 1 } ∷ record { char = 9; first = 1; width = 3 } ∷ record { char = 98; first = 4; width = 1 } ∷
    record { char = 9; first = 5; width = 3 } ∷ []
unfolding reference_words
columns = refl

-- what is left of a tab is spaces; no more is taken than spaces and tabs
skipped :
    (text_of (skip 1 (cells_of (codes "\tx"))) ≡ codes "   x")
    × (text_of (skip 4 (cells_of (codes "  \t\tx"))) ≡ codes "\tx")
    × (text_of (skip 6 (cells_of (codes "  \t\tx"))) ≡ codes "  x")
    × (text_of (skip 9 (cells_of (codes " \tx "))) ≡ codes "x ")
unfolding reference_words
skipped = (refl, refl, refl, refl)

-- ---- escapes and references (2.4, 2.5)

references : unescape built_in_rules (codes "&#0; &copy &ngE; &MadeUpEntity;") ≡ 0xFFFD ∷ codes " &copy "
    ++ (0x2267 ∷ 0x338 ∷ codes " &MadeUpEntity;")
unfolding reference_words
references = refl

escapes : unescape built_in_rules (codes "&#42;foo&#x2A;\\*\\a&diams;\\\\&#38;lt;\\") ≡ codes "*foo**\\a" ++ (0x2666 ∷ codes "\\&lt;\\")
unfolding reference_words
escapes = refl

-- names are as they stand; the first and the last of the built-in ones
names :
    (find_entity built_in (codes "DifferentialD") ≡ Some (0x2146 ∷ []))
    × (find_entity built_in (codes "nbsp") ≡ Some (0xA0 ∷ []))
    × (find_entity built_in (codes "ngE") ≡ Some (0x2267 ∷ 0x338 ∷ []))
    × (find_entity built_in (codes "sigmaf") ≡ Some (0x3C2 ∷ []))
    × (find_entity built_in (codes "Sigma") ≡ Some (0x3A3 ∷ []))
    × (find_entity built_in (codes "NBSP") ≡ None)
    × (find_entity built_in [] ≡ None)
unfolding reference_words
names = (refl, refl, refl, refl, refl, refl, refl)

-- a table handed in may stand before the built-in names
own_names : unescape (plain_rules ((codes "zwp", 0x200B ∷ []) ∷ (codes "nul", 0 ∷ []) ∷ built_in)) (codes "&zwp;&nul;&lt;") ≡ 0x200B ∷ 0 ∷ codes "<"
unfolding reference_words
own_names = refl

-- ---- tags and raw HTML (6.6)

tags :
    (html_tag (codes "<a  b=c d = 'x' e\n/>rest") ≡ Some (codes "rest"))
    × (html_tag (codes "<a b=>") ≡ None)
    -- CR LF is one line ending; two are too many
    × (html_tag (codes "<a\r\nb>c") ≡ Some (codes "c"))
    × (html_tag (codes "<a\n\nb>c") ≡ None)
    × (html_tag (codes "<a\n b\n c>") ≡ Some [])
    × (html_tag (codes "</a\n>x") ≡ Some (codes "x"))
    × (html_tag (codes "</a b>") ≡ None)
    × (html_tag (codes "<a b=c/>") ≡ Some [])
    × (html_tag (codes "<1>") ≡ None)
    × (html_tag (codes "<a") ≡ None)
    × (html_tag (codes "<!-- a -->") ≡ None)
unfolding reference_words
tags = (refl, refl, refl, refl, refl, refl, refl, refl, refl, refl, refl)

comments :
    (raw_html (codes "<!--> foo -->") ≡ Some (codes " foo -->"))
    × (raw_html (codes "<!---> foo -->") ≡ Some (codes " foo -->"))
    × (raw_html (codes "<!-- a --b -->c") ≡ Some (codes "c"))
    × (raw_html (codes "<!-- a") ≡ None)
    × (raw_html (codes "<?>?>a") ≡ Some (codes "a"))
    × (raw_html (codes "<!1>") ≡ None)
    × (raw_html (codes "<![CDATA[]]]>a") ≡ Some (codes "a"))
unfolding reference_words
comments = (refl, refl, refl, refl, refl, refl, refl)

-- ---- autolinks (6.5)

addresses :
    (uri (codes "ab:> c") ≡ Some (codes "> c"))
    × (uri (codes "a:b>") ≡ None)
    × (uri (codes "1b:c>") ≡ None)
    × (uri (codes "a+.-b:<") ≡ Some (codes "<"))
    × (mail (codes "foo@bar.example.com>") ≡ Some (codes ">"))
    × (mail (codes "a@b-c.d1>") ≡ Some (codes ">"))
    × (mail (codes "a@-b>") ≡ None)
    × (mail (codes "a@b.>") ≡ Some (codes ".>"))
    × (mail (codes "@b>") ≡ None)
unfolding reference_words
addresses = (refl, refl, refl, refl, refl, refl, refl, refl, refl)

-- 1 to 63 characters between the dots
long_domains :
    (mail (codes "a@" ++ (replicate 63 98 ++ codes ">")) ≡ Some (codes ">"))
    × (mail (codes "a@" ++ (replicate 64 98 ++ codes ">")) ≡ None)
unfolding reference_words
long_domains = (refl, refl)

-- ---- destinations and titles (6.3)

-- the longest one that is balanced, to 32 levels
destinations :
    (destination (codes "a(b(c\\)))d(e") ≡ Some (codes "(e"))
    × (destination (codes "foo(bar") ≡ Some (codes "(bar"))
    × (destination (codes "<a b>c") ≡ Some (codes "c"))
    × (destination (codes "<a\\>b> c") ≡ Some (codes " c"))
    × (destination (codes "<a") ≡ None)
    × (destination (codes "<a<b>") ≡ None)
    × (destination (codes "<a\rb>") ≡ None)
    × (destination (codes "<>x") ≡ Some (codes "x"))
    × (destination (codes "a b") ≡ Some (codes " b"))
    × (destination (codes ")") ≡ None)
    × (destination (127 ∷ []) ≡ None)
    × (destination (replicate 32 40 ++ replicate 32 41) ≡ Some [])
    × (destination (replicate 33 40 ++ replicate 33 41) ≡ None)
    × (destination (120 ∷ replicate 33 40) ≡ Some (replicate 33 40))
unfolding reference_words
destinations = (refl, refl, refl, refl, refl, refl, refl, refl, refl, refl, refl, refl, refl, refl)

titles :
    (title (codes "\"a\"b") ≡ Some (codes "b"))
    × (title (codes "'a\\'b'") ≡ Some [])
    × (title (codes "\"a\\\\\"b\"") ≡ Some (codes "b\""))
    × (title (codes "(a(b)c)") ≡ None)
    × (title (codes "(a\\(b\\))") ≡ Some [])
    × (title (codes "\"a\nb\"") ≡ Some [])
    × (title (codes "\"a\n \nb\"") ≡ None)
    × (title (codes "\"a\r\rb\"") ≡ None)
    × (title (codes "\"a\r\nb\"") ≡ Some [])
    × (title (codes "\"a") ≡ None)
unfolding reference_words
titles = (refl, refl, refl, refl, refl, refl, refl, refl, refl, refl)

-- ---- labels (6.3)

labels :
    (label (codes "[a\\]b]c") ≡ Some (codes "c"))
    × (label (codes "[a[b]") ≡ None)
    × (label (codes "[ \n\t]") ≡ None)
    × (label (codes "[\\ ]x") ≡ Some (codes "x"))
    × (label (91 ∷ replicate 999 120 ++ codes "]") ≡ Some [])
    × (label (91 ∷ replicate 1000 120 ++ codes "]") ≡ None)
unfolding reference_words
labels = (refl, refl, refl, refl, refl, refl)

-- full case folding, with no escape and no reference read
normal_labels :
    (normal_label (32 ∷ 0x1E9E ∷ 32 ∷ []) ≡ codes "ss")
    × (normal_label (codes " SS ") ≡ codes "ss")
    × (normal_label (codes "Foo\n \tBAR\\!") ≡ codes "foo bar\\!")
    × (normal_label (codes "&AMP;") ≡ codes "&amp;")
    -- a form feed is a character as others, and so is a no-break space
    × (normal_label (97 ∷ 12 ∷ 0xA0 ∷ 98 ∷ []) ≡ 97 ∷ 12 ∷ 0xA0 ∷ 98 ∷ [])
unfolding reference_words
normal_labels = (refl, refl, refl, refl, refl)

-- ---- definitions (4.7)

two_definitions :
    definitions_of built_in_rules (codes "[foo]: /url 'a&amp;b'\n [Bar]:\n<x y>\n===")
    ≡ (
      record { label = codes "foo"; target = record { dest = codes "/url"; title = Some (codes "a&b") } }
          ∷ record { label = codes "Bar"; target = record { dest = codes "x y"; title = None } }
          ∷ [],
      codes "===",
    )
unfolding reference_words
two_definitions = refl

-- a title that fails on its own line is text, and one that fails on the destination's line undoes the definition
failed_titles :
    (definitions_of built_in_rules (codes "[foo]: /url\n\"title\" ok")
    ≡ (record { label = codes "foo"; target = record { dest = codes "/url"; title = None } } ∷ [], codes "\"title\" ok"))
    × (definitions_of built_in_rules (codes "[foo]: /url \"title\" ok") ≡ ([], codes "[foo]: /url \"title\" ok"))
unfolding reference_words
failed_titles = (refl, refl)

-- at most 3 spaces before, at most one line ending before a destination and before a title
margins :
    ((definitions_of built_in_rules (codes "   [a]: b")).1 ≡ [])
    × ((definitions_of built_in_rules (codes "    [a]: b")).1 ≡ codes "    [a]: b")
    × ((definitions_of built_in_rules (codes "[a]:\r\nb\r\n'c'\r\nd")).1 ≡ codes "d")
    × ((definitions_of built_in_rules (codes "[a]:\n\nb")).1 ≡ codes "[a]:\n\nb")
    × ((definitions_of built_in_rules (codes "[a]: b\n\n'c'")).1 ≡ codes "\n'c'")
    × ((definitions_of built_in_rules (codes "[a] : b")).1 ≡ codes "[a] : b")
unfolding reference_words
margins = (refl, refl, refl, refl, refl, refl)

-- the first definition wins
first_of_two :
    find_reference
    (record { label = codes "A"; target = record { dest = codes "x"; title = None } } ∷
    record { label = codes "a"; target = record { dest = codes "y"; title = None } } ∷ [])
    (codes " a ")
    ≡ Some (record { dest = codes "x"; title = None })
unfolding reference_words
first_of_two = refl
