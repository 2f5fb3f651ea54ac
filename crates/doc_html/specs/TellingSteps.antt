-- Blocks as they are written, step by step, the anchors of headings with them.
use Rattle.std.specs.Prelude.{ℕ, Bool, true, false, List, [], ◌∷◌, ◌++◌, codes, decimal}
use Rattle.doc_rules.specs.Characters.{Text}
use Rattle.doc_rules.specs.Rules.{Rules}
use Rattle.doc_rules.specs.Definitions.{Definition}
use Rattle.doc_rules.specs.Escaping.{html_escape}
use Rattle.doc_rules.specs.Reading.{inlines_of}
use Rattle.doc_rules.specs.Forests.{none, ◌▹◌, node}
use Rattle.doc_rules.specs.Blocks.{Leaf, Paragraph, Heading, IndentedCode, FencedCode, HtmlBlock, ThematicBreak, TableBlock, Task}
use Rattle.doc_rules.specs.Blocks.{Container, BlockQuote, ListBlock, ListItem, Blocks}
use Rattle.doc_rules.specs.Html.{Output, characters, inlines_html, class_attribute, task_box, is_tight_inside, list_tag, list_end}
use Rattle.doc_rules.specs.PlainTexts.{text_in}
use Rattle.doc_blocks_starts.specs.Tags.{Tag, OneLeaf, Start, End}
use Rattle.doc_html.specs.ProgressSteps.{Progress, told, on_new_line, text_met, heading_met}
use Rattle.doc_html.specs.TableSteps.{table_told}

-- ---- leaves

unfoldable pub paragraph_told : Bool → Output → Progress → Progress
paragraph_told true inside p = told inside p
paragraph_told false inside p = told (characters (codes "<p>") ++ inside ++ characters (codes "</p>\n")) (on_new_line p)

-- a paragraph with this before its text
unfoldable pub text_told : Rules → List Definition → Bool → Text → Text → Progress → Progress
text_told rules refs tight front text p =
    paragraph_told tight (characters front ++ inlines_html 0 (inlines_of rules refs text)) (text_met (text_in rules refs text) p)

unfoldable pub heading_told : ℕ → Output → Text → Progress → Progress
heading_told level inside text p =
    told (characters (codes ">") ++ inside ++ characters (codes "</h" ++ decimal level ++ codes ">\n"))
    (heading_met level text (told (characters (codes "<h" ++ decimal level)) (on_new_line p)))

unfoldable pub code_told : Text → Text → Progress → Progress
code_told class text p = told (characters (codes "<pre><code" ++ class ++ codes ">" ++ html_escape text ++ codes "</code></pre>\n"))
    (on_new_line (text_met text p))

unfoldable pub leaf_told : Rules → List Definition → Bool → Leaf → Progress → Progress
leaf_told rules refs tight (Paragraph text) p = text_told rules refs tight [] text p
leaf_told rules refs tight (Heading level text) p = heading_told level (inlines_html 0 (inlines_of rules refs text))
    (text_in rules refs text) p
leaf_told rules refs tight (IndentedCode text) p = code_told [] text p
leaf_told rules refs tight (FencedCode info text) p = code_told (class_attribute info) text p
leaf_told rules refs tight (HtmlBlock text) p = on_new_line (told (characters text) (on_new_line p))
leaf_told rules refs tight ThematicBreak p = told (characters (codes "<hr />\n")) (on_new_line p)
leaf_told rules refs tight (TableBlock table) p = table_told rules refs table p
leaf_told rules refs tight (Task done text) p = text_told rules refs tight (task_box done) text p

-- ---- containers

unfoldable pub start_told : Container → Progress → Progress
start_told BlockQuote p = told (characters (codes "<blockquote>\n")) (on_new_line p)
start_told (ListBlock start tight) p = told (characters (list_tag start)) (on_new_line p)
start_told ListItem p = told (characters (codes "<li>")) p

unfoldable pub end_told : Container → Progress → Progress
end_told BlockQuote p = told (characters (codes "</blockquote>\n")) (on_new_line p)
end_told (ListBlock start tight) p = told (characters (list_end start)) (on_new_line p)
end_told ListItem p = told (characters (codes "</li>\n")) p

unfoldable pub blocks_told : Rules → List Definition → Bool → Blocks → Progress → Progress
blocks_told rules refs tight none p = p
blocks_told rules refs tight (before ▹ leaf) p = leaf_told rules refs tight leaf (blocks_told rules refs tight before p)
blocks_told rules refs tight (node before container inside) p =
    end_told container (blocks_told rules refs (is_tight_inside tight container) inside
    (start_told container (blocks_told rules refs tight before p)))

-- ---- tags

-- whether what is written stands directly in an item of a tight list, and the same outside each container block round it, the innermost one
-- first
pub record Nested : Type 0 where
  pub tight : Bool
  pub outer : List Bool

-- in no container block
abbrev pub outside : Nested
outside = record { tight = false; outer = [] }

abbrev pub entered : Container → Nested → Nested
entered container nested = record { tight = is_tight_inside nested.tight container; outer = nested.tight ∷ nested.outer }

-- an end that no start stands before counts for nothing
unfoldable pub left_at : Bool → List Bool → Nested
left_at tight [] = record { tight = tight; outer = [] }
left_at tight (around ∷ outer) = record { tight = around; outer = outer }

abbrev pub left : Nested → Nested
left nested = left_at nested.tight nested.outer

-- what stands behind a tag is nested like this
unfoldable pub nested_behind : Tag → Nested → Nested
nested_behind (OneLeaf leaf) nested = nested
nested_behind (Start container) nested = entered container nested
nested_behind (End container) nested = left nested

-- a tag that stands directly in an item of a tight list or not
unfoldable pub tag_told : Rules → List Definition → Bool → Tag → Progress → Progress
tag_told rules refs tight (OneLeaf leaf) p = leaf_told rules refs tight leaf p
tag_told rules refs tight (Start container) p = start_told container p
tag_told rules refs tight (End container) p = end_told container p

unfoldable pub tags_told : Rules → List Definition → List Tag → Nested × Progress → Nested × Progress
tags_told rules refs [] told = told
tags_told rules refs (tag ∷ more) told =
    tags_told rules refs more (nested_behind tag told.0, tag_told rules refs told.0.tight tag told.1)
