-- Examples: pages, in characters and in UTF-8, and the limits on containers and labels.
use Rattle.std.proofs.Common.{◌≡◌, ℕ, [], ◌∷◌, ◌++◌, replicate, refl, ap, ◌∙◌, true}
use Rattle.std.specs.Prelude.{codes, Some, None}
use Rattle.std.specs.List.{concat}
use Rattle.doc_rules.proofs.Computing.{html_words, page_words}
use Rattle.doc_rules.proofs.Shows.{◌gives◌}
use Rattle.doc_rules.specs.Characters.{Text}
use Rattle.doc_rules.specs.Rules.{built_in_rules}
use Rattle.doc_rules.specs.Forests.{none, ◌▹◌}
use Rattle.doc_rules.specs.Blocks.{Paragraph, document_of}
use Rattle.doc_rules.specs.Html.{html_of, plain_linker, rendered_plain}
use Rattle.doc_rules.specs.Pages.{page_of, HtmlPiece, LinkPiece, rendered_of}
use Rattle.doc_page_parts.specs.declared.rendered.Piece.TheVariants.{Html, Link}

links_headings_and_texts :
    page_of built_in_rules (codes "# A *b*\n\n[c](d \"e\") <http://f>\n\n## A b\n\n- `x`\n\n~~~ w\ny\n~~~\n")
    ≡ record {
      pieces =
          HtmlPiece (codes "<h1 id=\"a-b\">A <em>b</em></h1>\n<p>")
          ∷ LinkPiece (record { dest = codes "d"; title = Some (codes "e") })
          ∷ HtmlPiece (codes "c</a> ")
          ∷ LinkPiece (record { dest = codes "http://f"; title = None })
          ∷ HtmlPiece
          (codes "http://f</a></p>\n<h2 id=\"a-b-1\">A b</h2>\n<ul>\n<li><code>x</code></li>\n</ul>\n<pre><code class=\"language-w\">y\n</code></pre>\n")
          ∷ [];
      headings =
          record { level = 1; anchor = codes "a-b"; text = codes "A b" }
          ∷ record { level = 2; anchor = codes "a-b-1"; text = codes "A b" }
          ∷ [];
      texts = codes "A b" ∷ codes "c http://f" ∷ codes "A b" ∷ codes "x" ∷ codes "y\n" ∷ [];
      images = [];
    }
unfolding page_words
links_headings_and_texts = refl

empty_page : page_of built_in_rules [] ≡ record { pieces = []; headings = []; texts = []; images = [] }
unfolding page_words
empty_page = refl

-- a link in an image's text is no link
link_in_an_image :
    page_of built_in_rules (codes "![a [b](c)](d)\n")
    ≡ record { pieces = HtmlPiece (codes "<p><img src=\"d\" alt=\"a b\" /></p>\n") ∷ []; headings = []; texts = codes "a b" ∷ []; images = [] }
unfolding page_words
link_in_an_image = refl

-- where a page tells its images: in order, also in cells and in links, and none that stands in another's text; what is written is the same
images_of_a_page :
    (page_of (record built_in_rules { tables = true; images = true })
    (codes "![a](x.png) ![b ![c](y.png)](z.png)\n\n|a|b|\n|-|-|\n|![d](%ff)|[![e](start.md)](u)|\n")).images
    ≡ codes "x.png" ∷ codes "z.png" ∷ codes "%ff" ∷ codes "start.md" ∷ []
    × (page_of (record built_in_rules { images = true }) (codes "![a [b](c)](d)\n")
    ≡ record {
      pieces = HtmlPiece (codes "<p><img src=\"d\" alt=\"a b\" /></p>\n") ∷ [];
      headings = [];
      texts = codes "a b" ∷ [];
      images = codes "d" ∷ [];
    })
unfolding page_words
images_of_a_page = (refl, refl)

-- in a tight list; an empty title is there, none is not
links_in_a_list :
    page_of built_in_rules (codes "- [a](b \"\")[c](d)\n")
    ≡ record {
      pieces =
          HtmlPiece (codes "<ul>\n<li>")
          ∷ LinkPiece (record { dest = codes "b"; title = Some [] })
          ∷ HtmlPiece (codes "a</a>")
          ∷ LinkPiece (record { dest = codes "d"; title = None })
          ∷ HtmlPiece (codes "c</a></li>\n</ul>\n")
          ∷ [];
      headings = [];
      texts = codes "ac" ∷ [];
      images = [];
    }
unfolding page_words
links_in_a_list = refl

-- an autolink in a link is a link of its own; raw HTML has no text, a break is a space, code keeps its text
texts_of_blocks :
    page_of built_in_rules (codes "a<b>\nc `d  e`\n***\n> [x <uu:v> y](z)\n\n    f  \n")
    ≡ record {
      pieces =
          HtmlPiece (codes "<p>a<b>\nc <code>d  e</code></p>\n<hr />\n<blockquote>\n<p>")
          ∷ LinkPiece (record { dest = codes "z"; title = None })
          ∷ HtmlPiece (codes "x ")
          ∷ LinkPiece (record { dest = codes "uu:v"; title = None })
          ∷ HtmlPiece (codes "uu:v</a> y</a></p>\n</blockquote>\n<pre><code>f  \n</code></pre>\n")
          ∷ [];
      headings = [];
      texts = codes "a c d  e" ∷ codes "x uu:v y" ∷ codes "f  \n" ∷ [];
      images = [];
    }
unfolding page_words
texts_of_blocks = refl

-- a soft break in a heading is a space, in its anchor '-'
heading_of_two_lines :
    page_of built_in_rules (codes "a\nB!\n===\n")
    ≡ record {
      pieces = HtmlPiece (codes "<h1 id=\"a-b\">a\nB!</h1>\n") ∷ [];
      headings = record { level = 1; anchor = codes "a-b"; text = codes "a B!" } ∷ [];
      texts = codes "a B!" ∷ [];
      images = [];
    }
unfolding page_words
heading_of_two_lines = refl

-- bytes: 'ä' is C3 A4, 'ü' is C3 BC
page_in_bytes :
    rendered_of built_in_rules (codes "# ä\n\nä [b](ü)\n")
    ≡ record {
      pieces =
          Html (codes "<h1 id=\"" ++ (0xC3 ∷ 0xA4 ∷ codes "\">" ++ (0xC3 ∷ 0xA4 ∷ codes "</h1>\n<p>" ++ (0xC3 ∷ 0xA4 ∷ codes " "))))
          ∷ Link (record { dest = 0xC3 ∷ 0xBC ∷ []; title = None })
          ∷ Html (codes "b</a></p>\n")
          ∷ [];
      headings = record { level = 1; anchor = 0xC3 ∷ 0xA4 ∷ []; text = 0xC3 ∷ 0xA4 ∷ [] } ∷ [];
      texts = (0xC3 ∷ 0xA4 ∷ []) ∷ (0xC3 ∷ 0xA4 ∷ codes " b") ∷ [];
      images = [];
    }
unfolding page_words
page_in_bytes = refl

-- ---- limits

-- a text so many times
times : ℕ → Text → Text
times n text = concat (replicate n text)

-- past 100 open quotes and items a marker is text
a_hundred_quotes :
    (times 101 (codes "> ") ++ codes "x\n") gives (times 100 (codes "<blockquote>\n")
    ++ (codes "<p>&gt; x</p>\n" ++ times 100 (codes "</blockquote>\n")))
unfolding html_words times
a_hundred_quotes = refl

-- and so for items; other starts are still sought
a_hundred_items :
    (times 101 (codes "- ") ++ codes "x\n")
    gives (times 99 (codes "<ul>\n<li>\n") ++ (codes "<ul>\n<li>- x</li>\n</ul>\n" ++ times 99 (codes "</li>\n</ul>\n")))
unfolding html_words times
a_hundred_items = refl

heading_in_a_hundred_quotes :
    (times 100 (codes ">") ++ codes "# x\n") gives (times 100 (codes "<blockquote>\n")
    ++ (codes "<h1>x</h1>\n" ++ times 100 (codes "</blockquote>\n")))
unfolding html_words times
heading_in_a_hundred_quotes = refl

-- only those count that the line matched, and those that began on it
others_count_no_more :
    (times 100 (codes ">") ++ codes "# x\n- > y\n")
    gives (times 100 (codes "<blockquote>\n") ++ (codes "<h1>x</h1>\n"
    ++ (times 100 (codes "</blockquote>\n") ++ codes "<ul>\n<li>\n<blockquote>\n<p>y</p>\n</blockquote>\n</li>\n</ul>\n")))
unfolding html_words times
others_count_no_more = refl

-- a label has at most 999 characters: its document, and then its HTML
labelled : ℕ → Text
labelled n = codes "[" ++ (times n (codes "x") ++ (codes "]\n\n[" ++ (times n (codes "x") ++ codes "]: /u\n")))

long_label_document :
    document_of built_in_rules (labelled 999)
    ≡ record {
      blocks = none ▹ Paragraph (codes "[" ++ (times 999 (codes "x") ++ codes "]"));
      refs = record { label = times 999 (codes "x"); target = record { dest = codes "/u"; title = None } } ∷ [];
    }
unfolding html_words times labelled
long_label_document = refl

long_label_html :
    html_of built_in_rules plain_linker []
    (record {
      blocks = none ▹ Paragraph (codes "[" ++ (times 999 (codes "x") ++ codes "]"));
      refs = record { label = times 999 (codes "x"); target = record { dest = codes "/u"; title = None } } ∷ [];
    })
    ≡ codes "<p><a href=\"/u\">" ++ (times 999 (codes "x") ++ codes "</a></p>\n")
unfolding html_words times
long_label_html = refl

long_label : labelled 999 gives (codes "<p><a href=\"/u\">" ++ (times 999 (codes "x") ++ codes "</a></p>\n"))
unfolding rendered_plain
long_label = ap (html_of built_in_rules plain_linker []) long_label_document ∙ long_label_html

too_long_label_document :
    document_of built_in_rules (labelled 1000)
    ≡ record {
      blocks = none ▹ Paragraph (codes "[" ++ (times 1000 (codes "x") ++ codes "]")) ▹ Paragraph
          (codes "[" ++ (times 1000 (codes "x") ++ codes "]: /u"));
      refs = [];
    }
unfolding html_words times labelled
too_long_label_document = refl

too_long_label_html :
    html_of built_in_rules plain_linker []
    (record {
      blocks = none ▹ Paragraph (codes "[" ++ (times 1000 (codes "x") ++ codes "]")) ▹ Paragraph
          (codes "[" ++ (times 1000 (codes "x") ++ codes "]: /u"));
      refs = [];
    })
    ≡ codes "<p>[" ++ (times 1000 (codes "x") ++ (codes "]</p>\n<p>[" ++ (times 1000 (codes "x") ++ codes "]: /u</p>\n")))
unfolding html_words times
too_long_label_html = refl

too_long_label : labelled 1000 gives (codes "<p>[" ++ (times 1000 (codes "x")
    ++ (codes "]</p>\n<p>[" ++ (times 1000 (codes "x") ++ codes "]: /u</p>\n"))))
unfolding rendered_plain
too_long_label = ap (html_of built_in_rules plain_linker []) too_long_label_document ∙ too_long_label_html
