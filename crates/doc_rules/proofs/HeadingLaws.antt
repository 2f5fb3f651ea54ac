-- Headings and anchors are as many.
use Rattle.std.proofs.Common.{◌≡◌, ℕ, suc, Bool, true, false, List, [], ◌∷◌, ◌++◌, map, drop, length, refl, ap, sym, ◌∙◌, arith}
use Rattle.std.specs.Prelude.{codes}
use Rattle.std.proofs.lemmas.List.{length-map, length-append, drop-drop}
use Rattle.doc_rules.specs.Characters.{Text}
use Rattle.doc_rules.specs.Rules.{Rules}
use Rattle.doc_rules.specs.Definitions.{Definition}
use Rattle.doc_rules.specs.Reading.{inlines_of}
use Rattle.doc_rules.specs.Forests.{none, ◌▹◌, node}
use Rattle.doc_rules.specs.Blocks.{Leaf, Paragraph, Heading, IndentedCode, FencedCode, HtmlBlock, ThematicBreak, TableBlock, Task}
use Rattle.doc_rules.specs.Blocks.{Container, BlockQuote}
use Rattle.doc_rules.specs.Blocks.{ListBlock, ListItem, Document}
use Rattle.doc_rules.specs.PlainTexts.{leaf_headings, headings_in, headings_of}
use Rattle.doc_rules.specs.Anchors.{free_anchor, anchor_name, anchors_behind}
use Rattle.doc_rules.specs.Html.{Writing, Output, write, write_text, new_line, is_fresh, paragraph_html, heading_html, code_html, leaf_html}
use Rattle.doc_rules.specs.Html.{characters, task_box, inlines_html, is_tight_inside, container_start, container_end, blocks_html}
use Rattle.doc_rules.specs.Pages.{page_headings, document_anchors, document_page}
use Rattle.doc_rules.specs.Laws.{AnchorsAreAsMany, HeadingsTakeAnchors, HeadingsHaveAnchors}

behind_count : (used headings : List Text) → length (anchors_behind used headings) ≡ length headings
unfolding anchors_behind
behind_count used [] = refl
behind_count used (heading ∷ more) = ap suc (behind_count (free_anchor used (anchor_name heading) ∷ used) more)

pub anchors_are_as_many : AnchorsAreAsMany
anchors_are_as_many headings = behind_count [] headings

listed_texts : (headings : List (ℕ × Text)) (anchors : List Text) → length anchors ≡ length headings →
    map (λ heading. (heading.level, heading.text)) (page_headings headings anchors) ≡ headings
unfolding page_headings
listed_texts [] anchors e = refl
listed_texts (heading ∷ more) [] e = absurd (omega arith)
listed_texts (heading ∷ more) (anchor ∷ anchors) e = ap (λ rest. heading ∷ rest) (listed_texts more anchors (omega arith))

listed_anchors : (headings : List (ℕ × Text)) (anchors : List Text) → length anchors ≡ length headings →
    map (λ heading. heading.anchor) (page_headings headings anchors) ≡ anchors
unfolding page_headings
listed_anchors [] [] e = refl
listed_anchors [] (anchor ∷ anchors) e = absurd (omega arith)
listed_anchors (heading ∷ more) [] e = absurd (omega arith)
listed_anchors (heading ∷ more) (anchor ∷ anchors) e = ap (λ rest. anchor ∷ rest) (listed_anchors more anchors (omega arith))

as_many : (rules : Rules) (document : Document) → length (document_anchors rules document) ≡ length (headings_of rules document)
unfolding document_anchors
as_many rules document =
    anchors_are_as_many (map (λ heading. heading.1) (headings_of rules document))
    ∙ length-map (headings_of rules document) (λ heading. heading.1)

pub headings_have_anchors : HeadingsHaveAnchors
unfolding document_page
headings_have_anchors rules document = (
  listed_texts (headings_of rules document) (document_anchors rules document) (as_many rules document),
  listed_anchors (headings_of rules document) (document_anchors rules document) (as_many rules document),
)

-- ---- writing takes the anchors

abbrev line_unless : Writing → Bool → Writing
line_unless w b = elim b [ true ↦ w | false ↦ write_text (codes "\n") w ]

new_line_keeps : (w : Writing) → (new_line w).anchors ≡ w.anchors
unfolding new_line write
new_line_keeps w = at (is_fresh w.output)
  where
    at : (b : Bool) → (line_unless w b).anchors ≡ w.anchors
    at true = refl
    at false = refl

paragraph_keeps : (tight : Bool) (inside : Output) (w : Writing) → (paragraph_html tight inside w).anchors ≡ w.anchors
unfolding paragraph_html write
paragraph_keeps true inside w = refl
paragraph_keeps false inside w = new_line_keeps w

leaf_takes : (rules : Rules) (refs : List Definition) (tight : Bool) (leaf : Leaf) (w : Writing) →
    (leaf_html rules refs tight leaf w).anchors ≡ drop (length (leaf_headings rules refs leaf)) w.anchors
unfolding leaf_html leaf_headings heading_html code_html write
leaf_takes rules refs tight (Paragraph text) w = paragraph_keeps tight (inlines_html 0 (inlines_of rules refs text)) w
leaf_takes rules refs tight (Heading level text) w = ap (drop 1) (new_line_keeps w)
leaf_takes rules refs tight (IndentedCode text) w = new_line_keeps w
leaf_takes rules refs tight (FencedCode info text) w = new_line_keeps w
leaf_takes rules refs tight (HtmlBlock text) w = new_line_keeps (write_text text (new_line w)) ∙ new_line_keeps w
leaf_takes rules refs tight ThematicBreak w = new_line_keeps w
leaf_takes rules refs tight (TableBlock table) w = new_line_keeps w
leaf_takes rules refs tight (Task done text) w = paragraph_keeps tight
    (characters (task_box done) ++ inlines_html 0 (inlines_of rules refs text)) w

start_keeps : (container : Container) (w : Writing) → (container_start container w).anchors ≡ w.anchors
unfolding container_start write
start_keeps BlockQuote w = new_line_keeps w
start_keeps (ListBlock start tight) w = new_line_keeps w
start_keeps ListItem w = refl

end_keeps : (container : Container) (w : Writing) → (container_end container w).anchors ≡ w.anchors
unfolding container_end write
end_keeps BlockQuote w = new_line_keeps w
end_keeps (ListBlock start tight) w = new_line_keeps w
end_keeps ListItem w = refl

-- first so many, and then so many more
both : (firsts seconds : List (ℕ × Text)) (anchors between after : List Text) → between ≡ drop (length firsts) anchors
    → after ≡ drop (length seconds) between →
    after ≡ drop (length (firsts ++ seconds)) anchors
both firsts seconds anchors between after e f =
    f ∙ (ap (drop (length seconds)) e ∙ (drop-drop (length seconds) (length firsts) anchors
    ∙ ap (λ n. drop n anchors) (sym (length-append firsts seconds))))

pub headings_take_anchors : HeadingsTakeAnchors
unfolding blocks_html headings_in
headings_take_anchors rules refs tight none w = refl
headings_take_anchors rules refs tight (before ▹ leaf) w =
    let first : Writing = blocks_html rules refs tight before w in
    both (headings_in rules refs before) (leaf_headings rules refs leaf) w.anchors first.anchors
    (leaf_html rules refs tight leaf first).anchors
    (headings_take_anchors rules refs tight before w) (leaf_takes rules refs tight leaf first)
headings_take_anchors rules refs tight (node before container inside) w =
    let first : Writing = blocks_html rules refs tight before w in
    let start : Writing = container_start container first in
    let second : Writing = blocks_html rules refs (is_tight_inside tight container) inside start in
    both (headings_in rules refs before) (headings_in rules refs inside) w.anchors first.anchors (container_end container second).anchors
    (headings_take_anchors rules refs tight before w)
    (end_keeps container second ∙ (headings_take_anchors rules refs (is_tight_inside tight container) inside start
    ∙ ap (drop (length (headings_in rules refs inside))) (start_keeps container first)))
