-- Examples: tables (GitHub Flavored Markdown 0.29, section 4.10). Those beyond the specification's are this project's own.
use Rattle.std.proofs.Common.{◌≡◌, ℕ, [], ◌∷◌, ◌++◌, replicate, refl, true, false}
use Rattle.std.specs.Prelude.{codes}
use Rattle.std.specs.List.{concat}
use Prim.Native.String.{String}
use Rattle.doc_rules.specs.Characters.{Text}
use Rattle.doc_rules.specs.Rules.{Rules, built_in_rules}
use Rattle.doc_rules.specs.Tables.{has_table}
use Rattle.doc_rules.specs.Html.{rendered_plain}
use Rattle.doc_rules.specs.Pages.{page_of, HtmlPiece}
use Rattle.doc_rules.proofs.Computing.{html_words, page_words}
use Rattle.doc_rules.proofs.Shows.{◌shows◌}

abbrev with_tables : Rules
with_tables = record built_in_rules { tables = true }

infix 25 ◌tables◌
abbrev ◌tables◌ : String → String → Type 0
input tables output = rendered_plain with_tables (codes input) ≡ codes output

-- the specification's: alignments, pipes in cells, what ends a table, and how many cells a row has
of_the_specification :
    "| foo | bar |\n| --- | --- |\n| baz | bim |\n" tables
    "<table>\n<thead>\n<tr>\n<th>foo</th>\n<th>bar</th>\n</tr>\n</thead>\n<tbody>\n<tr>\n<td>baz</td>\n<td>bim</td>\n</tr>\n</tbody>\n</table>\n" ×
    "| abc | defghi |\n:-: | -----------:\nbar | baz\n" tables
    "<table>\n<thead>\n<tr>\n<th align=\"center\">abc</th>\n<th align=\"right\">defghi</th>\n</tr>\n</thead>\n<tbody>\n<tr>\n<td align=\"center\">bar</td>\n<td align=\"right\">baz</td>\n</tr>\n</tbody>\n</table>\n" ×
    "| f\\|oo  |\n| ------ |\n| b `\\|` az |\n| b **\\|** im |\n" tables
    "<table>\n<thead>\n<tr>\n<th>f|oo</th>\n</tr>\n</thead>\n<tbody>\n<tr>\n<td>b <code>|</code> az</td>\n</tr>\n<tr>\n<td>b <strong>|</strong> im</td>\n</tr>\n</tbody>\n</table>\n" ×
    "| abc | def |\n| --- | --- |\n| bar | baz |\n> bar\n" tables
    "<table>\n<thead>\n<tr>\n<th>abc</th>\n<th>def</th>\n</tr>\n</thead>\n<tbody>\n<tr>\n<td>bar</td>\n<td>baz</td>\n</tr>\n</tbody>\n</table>\n<blockquote>\n<p>bar</p>\n</blockquote>\n" ×
    "| abc | def |\n| --- | --- |\n| bar | baz |\nbar\n\nbar\n" tables
    "<table>\n<thead>\n<tr>\n<th>abc</th>\n<th>def</th>\n</tr>\n</thead>\n<tbody>\n<tr>\n<td>bar</td>\n<td>baz</td>\n</tr>\n<tr>\n<td>bar</td>\n<td></td>\n</tr>\n</tbody>\n</table>\n<p>bar</p>\n" ×
    "| abc | def |\n| --- |\n| bar |\n" tables "<p>| abc | def |\n| --- |\n| bar |</p>\n" ×
    "| abc | def |\n| --- | --- |\n| bar |\n| bar | baz | boo |\n" tables
    "<table>\n<thead>\n<tr>\n<th>abc</th>\n<th>def</th>\n</tr>\n</thead>\n<tbody>\n<tr>\n<td>bar</td>\n<td></td>\n</tr>\n<tr>\n<td>bar</td>\n<td>baz</td>\n</tr>\n</tbody>\n</table>\n" ×
    "| abc | def |\n| --- | --- |\n" tables
    "<table>\n<thead>\n<tr>\n<th>abc</th>\n<th>def</th>\n</tr>\n</thead>\n</table>\n"
unfolding html_words
of_the_specification = (refl, refl, refl, refl, refl, refl, refl, refl)

-- one column without any '|'
one_column : "a\n:-\n" tables "<table>\n<thead>\n<tr>\n<th align=\"left\">a</th>\n</tr>\n</thead>\n</table>\n"
unfolding html_words
one_column = refl

-- under a table '---' is a break, and other underlines are rows; a '|' alone has no cell
underlines :
    "| a |\n|---|\n---\n" tables "<table>\n<thead>\n<tr>\n<th>a</th>\n</tr>\n</thead>\n</table>\n<hr />\n" ×
    "| a |\n|---|\n===\n" tables
    "<table>\n<thead>\n<tr>\n<th>a</th>\n</tr>\n</thead>\n<tbody>\n<tr>\n<td>===</td>\n</tr>\n</tbody>\n</table>\n" ×
    "| a |\n|---|\n|\n" tables
    "<table>\n<thead>\n<tr>\n<th>a</th>\n</tr>\n</thead>\n<tbody>\n<tr>\n<td></td>\n</tr>\n</tbody>\n</table>\n"
unfolding html_words
underlines = (refl, refl, refl)

-- the lines before a table are a paragraph, and whatever begins where no paragraph is open begins behind it
behind_a_table :
    "text\n| a |\n|---|\n2. x\n" tables
    "<p>text</p>\n<table>\n<thead>\n<tr>\n<th>a</th>\n</tr>\n</thead>\n</table>\n<ol start=\"2\">\n<li>x</li>\n</ol>\n" ×
    "| a |\n|---|\n    x\n" tables
    "<table>\n<thead>\n<tr>\n<th>a</th>\n</tr>\n</thead>\n</table>\n<pre><code>x\n</code></pre>\n" ×
    "| a |\n|---|\n<b>\n" tables "<table>\n<thead>\n<tr>\n<th>a</th>\n</tr>\n</thead>\n</table>\n<b>\n"
unfolding html_words
behind_a_table = (refl, refl, refl)

-- a line that doesn't match a table's containers is no row; in a tight list a table is as elsewhere
in_containers :
    "> | a |\n> |---|\nb\n" tables
    "<blockquote>\n<table>\n<thead>\n<tr>\n<th>a</th>\n</tr>\n</thead>\n</table>\n</blockquote>\n<p>b</p>\n" ×
    "- x\n  | a |\n  |---|\n" tables
    "<ul>\n<li>x\n<table>\n<thead>\n<tr>\n<th>a</th>\n</tr>\n</thead>\n</table>\n</li>\n</ul>\n"
unfolding html_words
in_containers = (refl, refl)

-- a lazy line may be a delimiter row: a paragraph doesn't know which of its lines were lazy
lazy_delimiters : "> | a |\n|---|\n| b |\n" tables
    "<blockquote>\n<table>\n<thead>\n<tr>\n<th>a</th>\n</tr>\n</thead>\n</table>\n</blockquote>\n<p>| b |</p>\n"
unfolding html_words
lazy_delimiters = refl

-- cells past the columns go, and definitions leave what stands before a table
cells_and_definitions :
    "| a | b |\n|---|---|\n| `\\|` | [l](u) | gone |\n" tables
    "<table>\n<thead>\n<tr>\n<th>a</th>\n<th>b</th>\n</tr>\n</thead>\n<tbody>\n<tr>\n<td><code>|</code></td>\n<td><a href=\"u\">l</a></td>\n</tr>\n</tbody>\n</table>\n" ×
    "[r]: /u\n| a |\n|---|\n| [r] |\n" tables
    "<table>\n<thead>\n<tr>\n<th>a</th>\n</tr>\n</thead>\n<tbody>\n<tr>\n<td><a href=\"/u\">r</a></td>\n</tr>\n</tbody>\n</table>\n"
unfolding html_words
cells_and_definitions = (refl, refl)

-- an underline wins where its paragraph has no table yet, and a header has a cell for each column
no_tables :
    "a\n---\n" tables "<h2>a</h2>\n" ×
    "| a | b |\n|---|\n" tables "<p>| a | b |\n|---|</p>\n"
unfolding html_words
no_tables = (refl, refl)

-- at most 100 columns
abbrev so_many : ℕ → Text
so_many n = concat (replicate n (codes "|a")) ++ 10 ∷ concat (replicate n (codes "|-"))

columns : (has_table (so_many 100) ≡ true) × (has_table (so_many 101) ≡ false)
unfolding html_words
columns = (refl, refl)

-- without the option there are none
without_the_option : "| a |\n|---|\n" shows "<p>| a |\n|---|</p>\n"
unfolding html_words
without_the_option = refl

-- each cell that stands in its row has a text
texts_of_cells :
    page_of with_tables (codes "| *a* | b |\n|---|---|\n| c |\n| d | e | f |\n")
    ≡ record {
      pieces =
          HtmlPiece
          (codes
          "<table>\n<thead>\n<tr>\n<th><em>a</em></th>\n<th>b</th>\n</tr>\n</thead>\n<tbody>\n<tr>\n<td>c</td>\n<td></td>\n</tr>\n<tr>\n<td>d</td>\n<td>e</td>\n</tr>\n</tbody>\n</table>\n")
          ∷ [];
      headings = [];
      texts = codes "a" ∷ codes "b" ∷ codes "c" ∷ codes "d" ∷ codes "e" ∷ [];
      images = [];
    }
unfolding page_words
texts_of_cells = refl
