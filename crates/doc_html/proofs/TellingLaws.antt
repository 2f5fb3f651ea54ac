-- What is written step by step is what the definitions of HTML write.
use Rattle.std.proofs.Common.{◌≡◌, ℕ, Bool, true, false, List, [], ◌∷◌, ◌++◌, map, refl, ap, sym, ◌∙◌, append_assoc, append-nil}
use Rattle.std.specs.Prelude.{codes, decimal, flat_map, Option, Some, None}
use Rattle.doc_page_parts.specs.declared.linker.Shown.{Shown}
use Rattle.doc_html.specs.HtmlBytes.{written_bytes, html_bytes}
use Rattle.doc_html.specs.WrittenSteps.{HoldsHtml}
use Rattle.doc_rules.specs.Characters.{Text}
use Rattle.doc_rules.specs.Anchors.{anchor_name, free_anchor, anchors_behind}
use Rattle.doc_rules.specs.Definitions.{Definition}
use Rattle.doc_rules.specs.Rules.{Rules}
use Rattle.doc_rules.specs.Escaping.{html_escape}
use Rattle.doc_rules.specs.Forests.{none, ◌▹◌, node}
use Rattle.doc_rules.specs.Reading.{inlines_of}
use Rattle.doc_rules.specs.Blocks.{Leaf, Paragraph, Heading, IndentedCode, FencedCode, HtmlBlock, ThematicBreak, TableBlock, Task}
use Rattle.doc_rules.specs.Blocks.{Container, BlockQuote, ListBlock, ListItem, Blocks}
use Rattle.doc_rules.specs.PlainTexts.{headings_in, leaf_headings, text_in}
use Rattle.doc_rules.specs.Html.{Output, Writing, characters, inlines_html, is_fresh, write, write_text, new_line, paragraph_html}
use Rattle.doc_rules.specs.Html.{id_attribute, heading_html, code_html, leaf_html, class_attribute, table_html, task_box, is_tight_inside}
use Rattle.doc_rules.specs.Html.{container_start, container_end, blocks_html, output_of}
use Rattle.doc_html.specs.ProgressSteps.{Progress, begun, told, on_new_line, text_met, anchored, heading_met_at}
use Rattle.doc_html.specs.TellingSteps.{paragraph_told, text_told, heading_told, code_told, leaf_told, start_told, end_told, blocks_told}
use Rattle.doc_html.proofs.WriterSteps.{characters_append}
use Rattle.doc_html.proofs.TableLaws.{table_is}

-- the anchors of headings to come
unfoldable pub anchors_for : Option (List Text) → List (ℕ × Text) → List Text
anchors_for None headings = []
anchors_for (Some used) headings = anchors_behind used (map (λ heading. heading.1) headings)

-- what was written, where these headings come
unfoldable pub writing_of : Progress → List (ℕ × Text) → Writing
writing_of p headings = record { output = p.output; anchors = anchors_for p.used headings }

line_at : (b : Bool) (p : Progress) (more : List (ℕ × Text)) →
    elim b as (λ _. Writing) [ true ↦ writing_of p more | false ↦ write_text (codes "\n") (writing_of p more) ]
    ≡ writing_of (elim b as (λ _. Progress) [ true ↦ p | false ↦ told (characters (codes "\n")) p ]) more
unfolding write writing_of
line_at true p more = refl
line_at false p more = refl

on_line : (p : Progress) (more : List (ℕ × Text)) → new_line (writing_of p more) ≡ writing_of (on_new_line p) more
unfolding new_line on_new_line writing_of
on_line p more = line_at (is_fresh p.output) p more

-- ---- headings

heading_none : (o : Output) (front : Text) (inside end : Output) →
    o ++ (characters ((front ++ []) ++ codes ">") ++ inside ++ end) ≡ (o ++ characters front) ++ (characters (codes ">") ++ inside ++ end)
heading_none o front inside end = simp (append-nil, characters_append, append_assoc)

heading_some : (o : Output) (front id : Text) (inside end : Output) →
    o ++ (characters ((front ++ id) ++ codes ">") ++ inside ++ end) ≡ ((o ++ characters front) ++ characters id)
    ++ (characters (codes ">") ++ inside ++ end)
heading_some o front id inside end = simp (characters_append, append_assoc)

heading_at : (used : Option (List Text)) (level : ℕ) (inside : Output) (text : Text) (o : Output) (p : Progress) (more : List (ℕ × Text)) →
    heading_html level inside (record { output = o; anchors = anchors_for used ((level, text) ∷ more) })
    ≡ writing_of (told (characters (codes ">") ++ inside ++ characters (codes "</h" ++ decimal level ++ codes ">\n"))
    (heading_met_at used level text (record p { output = o ++ characters (codes "<h" ++ decimal level); used = used }))) more
unfolding heading_html write id_attribute heading_met_at text_met anchored writing_of anchors_for anchors_behind
heading_at None level inside text o p more =
    ap (λ out. record { output = out; anchors = [] }) (heading_none o (codes "<h" ++ decimal level) inside
    (characters (codes "</h" ++ decimal level ++ codes ">\n")))
heading_at (Some used) level inside text o p more =
    let anchor : Text = free_anchor used (anchor_name text) in
    ap (λ out. record { output = out; anchors = anchors_behind (anchor ∷ used) (map (λ heading. heading.1) more) })
    (heading_some o (codes "<h" ++ decimal level) (codes " id=\"" ++ html_escape anchor ++ codes "\"") inside
    (characters (codes "</h" ++ decimal level ++ codes ">\n")))

used_stays : (b : Bool) (p : Progress) → (elim b as (λ _. Progress) [ true ↦ p | false ↦ told (characters (codes "\n")) p ]).used ≡ p.used
used_stays true p = refl
used_stays false p = refl

-- ---- leaves

module _ (rules : Rules) (refs : List Definition) where
  paragraph_at : (tight : Bool) (inside : Output) (p : Progress) (more : List (ℕ × Text))
      → paragraph_html tight inside (writing_of p more) ≡ writing_of (paragraph_told tight inside p) more
  unfolding paragraph_html paragraph_told write writing_of
  paragraph_at true inside p more = refl
  paragraph_at false inside p more = ap (write (characters (codes "<p>") ++ inside ++ characters (codes "</p>\n"))) (on_line p more)

  code_at : (class text : Text) (p : Progress) (more : List (ℕ × Text))
      → code_html class text (new_line (writing_of p more)) ≡ writing_of (code_told class text p) more
  unfolding code_html code_told write writing_of text_met
  code_at class text p more = ap (code_html class text) (on_line (text_met text p) more)

  leaf_at : (tight : Bool) (leaf : Leaf) (p : Progress) (more : List (ℕ × Text)) →
      leaf_html rules refs tight leaf (writing_of p (leaf_headings rules refs leaf ++ more))
      ≡ writing_of (leaf_told rules refs tight leaf p) more
  unfolding leaf_html leaf_told text_told leaf_headings heading_told characters write writing_of text_met
  leaf_at tight (Paragraph text) p more = paragraph_at tight (inlines_html 0 (inlines_of rules refs text))
      (text_met (text_in rules refs text) p) more
  leaf_at tight (Heading level text) p more =
      let inside : Output = inlines_html 0 (inlines_of rules refs text) in
      ap (heading_html level inside) (on_line p ((level, text_in rules refs text) ∷ more))
      ∙ heading_at (on_new_line p).used level inside (text_in rules refs text) (on_new_line p).output (on_new_line p) more
  leaf_at tight (IndentedCode text) p more = code_at [] text p more
  leaf_at tight (FencedCode info text) p more = code_at (class_attribute info) text p more
  leaf_at tight (HtmlBlock text) p more = ap (λ w. new_line (write_text text w)) (on_line p more)
      ∙ on_line (told (characters text) (on_new_line p)) more
  leaf_at tight ThematicBreak p more = ap (write_text (codes "<hr />\n")) (on_line p more)
  leaf_at tight (TableBlock table) p more = ap (write (table_html rules refs table)) (on_line p more)
      ∙ ap (λ q. writing_of q more) (sym (table_is rules refs table p))
  leaf_at tight (Task done text) p more = paragraph_at tight (characters (task_box done) ++ inlines_html 0 (inlines_of rules refs text))
      (text_met (text_in rules refs text) p) more

  -- ---- containers

  start_at : (container : Container) (p : Progress) (more : List (ℕ × Text))
      → container_start container (writing_of p more) ≡ writing_of (start_told container p) more
  unfolding container_start start_told write writing_of
  start_at BlockQuote p more = ap (write_text (codes "<blockquote>\n")) (on_line p more)
  start_at (ListBlock start tight) p more = ap (container_start (ListBlock start tight)) refl ∙ ap (write_text _) (on_line p more)
  start_at ListItem p more = refl

  end_at : (container : Container) (p : Progress) (more : List (ℕ × Text))
      → container_end container (writing_of p more) ≡ writing_of (end_told container p) more
  unfolding container_end end_told write writing_of
  end_at BlockQuote p more = ap (write_text (codes "</blockquote>\n")) (on_line p more)
  end_at (ListBlock start tight) p more = ap (write_text _) (on_line p more)
  end_at ListItem p more = refl

  pub blocks_at : (tight : Bool) (blocks : Blocks) (p : Progress) (more : List (ℕ × Text)) →
      blocks_html rules refs tight blocks (writing_of p (headings_in rules refs blocks ++ more))
      ≡ writing_of (blocks_told rules refs tight blocks p) more
  unfolding blocks_html blocks_told headings_in
  blocks_at tight none p more = refl
  blocks_at tight (before ▹ leaf) p more =
      let own : List (ℕ × Text) = leaf_headings rules refs leaf in
      ap (λ hs. leaf_html rules refs tight leaf (blocks_html rules refs tight before (writing_of p hs)))
      (append_assoc (headings_in rules refs before) own more)
      ∙ (ap (leaf_html rules refs tight leaf) (blocks_at tight before p (own ++ more))
      ∙ leaf_at tight leaf (blocks_told rules refs tight before p) more)
  blocks_at tight (node before container inside) p more =
      let own : List (ℕ × Text) = headings_in rules refs inside in
      let deeper : Bool = is_tight_inside tight container in
      let here : Progress = blocks_told rules refs tight before p in
      ap (λ hs. container_end container (blocks_html rules refs deeper inside
      (container_start container (blocks_html rules refs tight before (writing_of p hs)))))
      (append_assoc (headings_in rules refs before) own more)
      ∙ (ap (λ w. container_end container (blocks_html rules refs deeper inside (container_start container w)))
      (blocks_at tight before p (own ++ more))
      ∙ (ap (λ w. container_end container (blocks_html rules refs deeper inside w)) (start_at container here (own ++ more))
      ∙ (ap (container_end container) (blocks_at deeper inside (start_told container here) more)
      ∙ end_at container (blocks_told rules refs deeper inside (start_told container here)) more)))

-- ---- the manner stays

line_keeps : (b : Bool) (p : Progress) → (elim b as (λ _. Progress) [ true ↦ p | false ↦ told (characters (codes "\n")) p ]).manner ≡ p.manner
line_keeps true p = refl
line_keeps false p = refl

on_line_keeps : (p : Progress) → (on_new_line p).manner ≡ p.manner
unfolding on_new_line
on_line_keeps p = line_keeps (is_fresh p.output) p

heading_keeps : (used : Option (List Text)) (level : ℕ) (text : Text) (p : Progress) → (heading_met_at used level text p).manner ≡ p.manner
unfolding heading_met_at text_met anchored
heading_keeps None level text p = refl
heading_keeps (Some used) level text p = refl

paragraph_keeps : (tight : Bool) (inside : Output) (p : Progress) → (paragraph_told tight inside p).manner ≡ p.manner
unfolding paragraph_told
paragraph_keeps true inside p = refl
paragraph_keeps false inside p = on_line_keeps p

leaf_keeps : (rules : Rules) (refs : List Definition) (tight : Bool) (leaf : Leaf) (p : Progress)
    → (leaf_told rules refs tight leaf p).manner ≡ p.manner
unfolding leaf_told text_told heading_told code_told text_met
leaf_keeps rules refs tight (Paragraph text) p = paragraph_keeps tight (characters [] ++ inlines_html 0 (inlines_of rules refs text))
    (text_met (text_in rules refs text) p)
leaf_keeps rules refs tight (Heading level text) p =
    heading_keeps (on_new_line p).used level (text_in rules refs text) (told (characters (codes "<h" ++ decimal level)) (on_new_line p))
    ∙ on_line_keeps p
leaf_keeps rules refs tight (IndentedCode text) p = on_line_keeps (text_met text p)
leaf_keeps rules refs tight (FencedCode info text) p = on_line_keeps (text_met text p)
leaf_keeps rules refs tight (HtmlBlock text) p = on_line_keeps (told (characters text) (on_new_line p)) ∙ on_line_keeps p
leaf_keeps rules refs tight ThematicBreak p = on_line_keeps p
leaf_keeps rules refs tight (TableBlock table) p = ap (λ q. q.manner) (table_is rules refs table p) ∙ on_line_keeps p
leaf_keeps rules refs tight (Task done text) p =
    paragraph_keeps tight (characters (task_box done) ++ inlines_html 0 (inlines_of rules refs text)) (text_met (text_in rules refs text) p)

start_keeps : (container : Container) (p : Progress) → (start_told container p).manner ≡ p.manner
unfolding start_told
start_keeps BlockQuote p = on_line_keeps p
start_keeps (ListBlock start tight) p = on_line_keeps p
start_keeps ListItem p = refl

end_keeps : (container : Container) (p : Progress) → (end_told container p).manner ≡ p.manner
unfolding end_told
end_keeps BlockQuote p = on_line_keeps p
end_keeps (ListBlock start tight) p = on_line_keeps p
end_keeps ListItem p = refl

pub blocks_keep : (rules : Rules) (refs : List Definition) (tight : Bool) (blocks : Blocks) (p : Progress)
    → (blocks_told rules refs tight blocks p).manner ≡ p.manner
unfolding blocks_told
blocks_keep rules refs tight none p = refl
blocks_keep rules refs tight (before ▹ leaf) p = leaf_keeps rules refs tight leaf (blocks_told rules refs tight before p)
    ∙ blocks_keep rules refs tight before p
blocks_keep rules refs tight (node before container inside) p =
    end_keeps container (blocks_told rules refs (is_tight_inside tight container) inside
    (start_told container (blocks_told rules refs tight before p)))
    ∙ (blocks_keep rules refs (is_tight_inside tight container) inside (start_told container (blocks_told rules refs tight before p))
    ∙ (start_keeps container (blocks_told rules refs tight before p) ∙ blocks_keep rules refs tight before p))

-- ---- documents

output_told : (rules : Rules) (refs : List Definition) (blocks : Blocks) (shown : List ℕ → Shown) →
    (blocks_told rules refs false blocks (begun shown false None)).output ≡ output_of rules [] (record { blocks = blocks; refs = refs })
unfolding output_of writing_of anchors_for
output_told rules refs blocks shown = ap (λ w. w.output) (sym (blocks_at rules refs false blocks (begun shown false None) []))

pub html_told : (rules : Rules) (refs : List Definition) (blocks : Blocks) (shown last : List ℕ
    → Shown) (bytes : List ℕ) (fresh : Bool) →
    HoldsHtml last bytes fresh (blocks_told rules refs false blocks (begun shown false None)) →
    bytes ≡ html_bytes rules shown [] (record { blocks = blocks; refs = refs })
unfolding html_bytes
html_told rules refs blocks shown last bytes fresh h =
    let same : last ≡ shown = sym h.shows ∙ ap (λ m. m.shown) (blocks_keep rules refs false blocks (begun shown false None)) in
    h.spelled
    ∙ (ap (λ s. flat_map (written_bytes s) (blocks_told rules refs false blocks (begun shown false None)).output) same
    ∙ ap (flat_map (written_bytes shown)) (output_told rules refs blocks shown))
