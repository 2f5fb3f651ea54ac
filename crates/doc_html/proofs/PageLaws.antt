-- The headings and texts that are met are those of the blocks, and what is written is a page's.
use Rattle.std.proofs.Common.{◌≡◌, ℕ, Bool, true, false, List, [], ◌∷◌, ◌++◌, map, refl, ap, sym, ◌∙◌, append_assoc, append-nil}
use Rattle.std.specs.Prelude.{codes, decimal, Option, Some, None}
use Rattle.doc_page_parts.specs.declared.linker.Shown.{Shown}
use Rattle.doc_page_parts.specs.declared.rendered.Rendered.{Rendered}
use Rattle.doc_rules.specs.Characters.{Text}
use Rattle.doc_rules.specs.Anchors.{anchor_name, free_anchor, anchors_behind}
use Rattle.doc_rules.specs.Definitions.{Definition}
use Rattle.doc_rules.specs.Rules.{Rules}
use Rattle.doc_rules.specs.Forests.{none, ◌▹◌, node}
use Rattle.doc_rules.specs.Blocks.{Leaf, Paragraph, Heading, IndentedCode, FencedCode, HtmlBlock, ThematicBreak, TableBlock, Task}
use Rattle.doc_rules.specs.Blocks.{Container, BlockQuote, ListBlock, ListItem, Blocks, document_of}
use Rattle.doc_rules.specs.PlainTexts.{headings_in, leaf_headings, table_texts, leaf_texts, texts_in, text_in}
use Rattle.doc_rules.specs.Tables.{TableSource}
use Rattle.doc_rules.specs.Reading.{inlines_of}
use Rattle.doc_rules.specs.Html.{Output, characters, inlines_html, is_fresh, task_box, is_tight_inside, blocks_html, output_of}
use Rattle.doc_rules.specs.Pages.{PageHeading, page_headings, pieces_of, images_told, document_anchors, document_page, page_of, encoded, rendered_of}
use Rattle.doc_html.specs.ProgressSteps.{Progress, begun, told, on_new_line, text_met, anchored, heading_met_at}
use Rattle.doc_html.specs.TableSteps.{table_told}
use Rattle.doc_html.specs.TellingSteps.{paragraph_told, text_told, heading_told, code_told, leaf_told, start_told, end_told, blocks_told}
use Rattle.doc_html.specs.WrittenPageSteps.{images_by, page_told}
use Rattle.doc_html.proofs.TableLaws.{table_is}
use Rattle.doc_html.proofs.TellingLaws.{anchors_for, writing_of, blocks_at, blocks_keep}

-- the headings and the texts of a page, where these headings and texts come
page_rest : Progress → List (ℕ × Text) → List Text → List PageHeading × List Text
page_rest p more texts = (p.headings ++ page_headings more (anchors_for p.used more), p.texts ++ texts)

line_rest : (p : Progress) (more : List (ℕ × Text)) (texts : List Text) → page_rest (on_new_line p) more texts ≡ page_rest p more texts
unfolding on_new_line page_rest
line_rest p more texts = at (is_fresh p.output)
  where
    at : (b : Bool) → page_rest (elim b as (λ _. Progress) [ true ↦ p | false ↦ told (characters (codes "\n")) p ]) more texts
        ≡ page_rest p more texts
    at true = refl
    at false = refl

met_rest : (text : Text) (p : Progress) (more : List (ℕ × Text)) (texts : List Text)
    → page_rest (text_met text p) more texts ≡ page_rest p more (text ∷ texts)
unfolding page_rest text_met
met_rest text p more texts = ap (λ ts. (p.headings ++ page_headings more (anchors_for p.used more), ts))
    (append_assoc p.texts (text ∷ []) texts)

no_anchors : (more : List (ℕ × Text)) → page_headings more [] ≡ []
unfolding page_headings
no_anchors [] = refl
no_anchors (heading ∷ more) = refl

heading_rest : (used : Option (List Text)) (level : ℕ) (text : Text) (p : Progress) (more : List (ℕ × Text)) (texts : List Text) →
    page_rest (heading_met_at used level text (record p { used = used })) more texts
    ≡ page_rest (record p { used = used }) ((level, text) ∷ more) (text ∷ texts)
unfolding page_rest heading_met_at text_met anchored anchors_for anchors_behind page_headings
heading_rest None level text p more texts =
    ap (λ hs. (p.headings ++ hs, (p.texts ++ text ∷ []) ++ texts)) (no_anchors more)
    ∙ ap (λ ts. (p.headings ++ [], ts)) (append_assoc p.texts (text ∷ []) texts)
heading_rest (Some used) level text p more texts =
    let anchor : Text = free_anchor used (anchor_name text) in
    let rest : List PageHeading = page_headings more (anchors_behind (anchor ∷ used) (map (λ heading. heading.1) more)) in
    let heading : PageHeading = record { level = level; anchor = anchor; text = text } in
    ap (λ hs. (hs, (p.texts ++ text ∷ []) ++ texts)) (append_assoc p.headings (heading ∷ []) rest)
    ∙ ap (λ ts. (p.headings ++ (heading ∷ rest), ts)) (append_assoc p.texts (text ∷ []) texts)

-- the page of this output, these headings and texts, its images told or not
abbrev made : Bool → Output → List PageHeading × List Text → Rendered
made tells output rest =
    encoded (record { pieces = pieces_of output; headings = rest.0; texts = rest.1; images = images_by tells output })

module _ (rules : Rules) (refs : List Definition) where
  paragraph_rest : (tight : Bool) (inside : Output) (p : Progress) (more : List (ℕ × Text)) (texts : List Text)
      → page_rest (paragraph_told tight inside p) more texts ≡ page_rest p more texts
  unfolding paragraph_told page_rest
  paragraph_rest true inside p more texts = refl
  paragraph_rest false inside p more texts = line_rest p more texts

  text_rest : (tight : Bool) (front text : Text) (p : Progress) (more : List (ℕ × Text)) (texts : List Text)
      → page_rest (text_told rules refs tight front text p) more texts ≡ page_rest p more (text_in rules refs text ∷ texts)
  unfolding text_told
  text_rest tight front text p more texts =
      paragraph_rest tight (characters front ++ inlines_html 0 (inlines_of rules refs text)) (text_met (text_in rules refs text) p) more
      texts
      ∙ met_rest (text_in rules refs text) p more texts

  table_rest : (table : TableSource) (p : Progress) (more : List (ℕ × Text)) (texts : List Text)
      → page_rest (table_told rules refs table p) more texts ≡ page_rest p more (table_texts rules refs table ++ texts)
  unfolding page_rest
  table_rest table p more texts =
      let line : Progress = on_new_line p in
      ap (λ q. page_rest q more texts) (table_is rules refs table p)
      ∙ (ap (λ ts. (line.headings ++ page_headings more (anchors_for line.used more), ts))
      (append_assoc line.texts (table_texts rules refs table) texts)
      ∙ line_rest p more (table_texts rules refs table ++ texts))

  leaf_rest : (tight : Bool) (leaf : Leaf) (p : Progress) (more : List (ℕ × Text)) (texts : List Text) →
      page_rest (leaf_told rules refs tight leaf p) more texts ≡ page_rest p (leaf_headings rules refs leaf ++ more)
      (leaf_texts rules refs leaf ++ texts)
  unfolding leaf_told leaf_headings leaf_texts heading_told code_told page_rest
  leaf_rest tight (Paragraph text) p more texts = text_rest tight [] text p more texts
  leaf_rest tight (Heading level text) p more texts =
      heading_rest (on_new_line p).used level (text_in rules refs text) (told (characters (codes "<h" ++ decimal level)) (on_new_line p))
      more texts
      ∙ line_rest p ((level, text_in rules refs text) ∷ more) (text_in rules refs text ∷ texts)
  leaf_rest tight (IndentedCode text) p more texts = line_rest (text_met text p) more texts ∙ met_rest text p more texts
  leaf_rest tight (FencedCode info text) p more texts = line_rest (text_met text p) more texts ∙ met_rest text p more texts
  leaf_rest tight (HtmlBlock text) p more texts = line_rest (told (characters text) (on_new_line p)) more texts ∙ line_rest p more texts
  leaf_rest tight ThematicBreak p more texts = line_rest p more texts
  leaf_rest tight (TableBlock table) p more texts = table_rest table p more texts
  leaf_rest tight (Task done text) p more texts = text_rest tight (task_box done) text p more texts

  start_rest : (container : Container) (p : Progress) (more : List (ℕ × Text)) (texts : List Text)
      → page_rest (start_told container p) more texts ≡ page_rest p more texts
  unfolding start_told page_rest
  start_rest BlockQuote p more texts = line_rest p more texts
  start_rest (ListBlock start tight) p more texts = line_rest p more texts
  start_rest ListItem p more texts = refl

  end_rest : (container : Container) (p : Progress) (more : List (ℕ × Text)) (texts : List Text)
      → page_rest (end_told container p) more texts ≡ page_rest p more texts
  unfolding end_told page_rest
  end_rest BlockQuote p more texts = line_rest p more texts
  end_rest (ListBlock start tight) p more texts = line_rest p more texts
  end_rest ListItem p more texts = refl

  blocks_rest : (tight : Bool) (blocks : Blocks) (p : Progress) (more : List (ℕ × Text)) (texts : List Text) →
      page_rest (blocks_told rules refs tight blocks p) more texts
      ≡ page_rest p (headings_in rules refs blocks ++ more) (texts_in rules refs blocks ++ texts)
  unfolding blocks_told headings_in texts_in
  blocks_rest tight none p more texts = refl
  blocks_rest tight (before ▹ leaf) p more texts =
      let own : List (ℕ × Text) = leaf_headings rules refs leaf in
      let said : List Text = leaf_texts rules refs leaf in
      leaf_rest tight leaf (blocks_told rules refs tight before p) more texts
      ∙ (blocks_rest tight before p (own ++ more) (said ++ texts)
      ∙ (ap (λ hs. page_rest p hs (texts_in rules refs before ++ (said ++ texts)))
      (sym (append_assoc (headings_in rules refs before) own more))
      ∙ ap (page_rest p ((headings_in rules refs before ++ own) ++ more)) (sym (append_assoc (texts_in rules refs before) said texts))))
  blocks_rest tight (node before container inside) p more texts =
      let own : List (ℕ × Text) = headings_in rules refs inside in
      let said : List Text = texts_in rules refs inside in
      let deeper : Bool = is_tight_inside tight container in
      let here : Progress = blocks_told rules refs tight before p in
      end_rest container (blocks_told rules refs deeper inside (start_told container here)) more texts
      ∙ (blocks_rest deeper inside (start_told container here) more texts
      ∙ (start_rest container here (own ++ more) (said ++ texts)
      ∙ (blocks_rest tight before p (own ++ more) (said ++ texts)
      ∙ (ap (λ hs. page_rest p hs (texts_in rules refs before ++ (said ++ texts)))
      (sym (append_assoc (headings_in rules refs before) own more))
      ∙ ap (page_rest p ((headings_in rules refs before ++ own) ++ more)) (sym (append_assoc (texts_in rules refs before) said texts))))))

  -- ---- documents

  module _ (blocks : Blocks) (shown : List ℕ → Shown) where
    abbrev all : Progress
    all = blocks_told rules refs false blocks (begun shown rules.images (Some []))

    abbrev anchors : List Text
    anchors = document_anchors rules (record { blocks = blocks; refs = refs })

    rest_told : ◌≡◌ {A = List PageHeading × List Text} (all.headings, all.texts)
        (page_headings (headings_in rules refs blocks) anchors, texts_in rules refs blocks)
    unfolding document_anchors page_rest anchors_for page_headings
    rest_told =
        ap (λ hs. (hs, all.texts)) (sym (append-nil all.headings))
        ∙ (ap (λ ts. (all.headings ++ [], ts)) (sym (append-nil all.texts))
        ∙ (whole
        ∙ (ap (λ hs. (page_headings hs (anchors_behind [] (map (λ heading. heading.1) hs)), texts_in rules refs blocks ++ []))
        (append-nil (headings_in rules refs blocks))
        ∙ ap (λ ts. (page_headings (headings_in rules refs blocks) anchors, ts)) (append-nil (texts_in rules refs blocks)))))
      where
        whole : ◌≡◌ {A = List PageHeading × List Text} (all.headings ++ [], all.texts ++ []) (
          page_headings (headings_in rules refs blocks ++ [])
              (anchors_behind [] (map (λ heading. heading.1) (headings_in rules refs blocks ++ []))),
          texts_in rules refs blocks ++ [],
        )
        whole = blocks_rest false blocks (begun shown rules.images (Some [])) [] []

    output_told : all.output ≡ output_of rules anchors (record { blocks = blocks; refs = refs })
    unfolding output_of document_anchors writing_of anchors_for
    output_told =
        sym whole
        ∙ ap (λ hs. (blocks_html rules refs false blocks
        (record { output = []; anchors = anchors_behind [] (map (λ heading. heading.1) hs) })).output)
        (append-nil (headings_in rules refs blocks))
      where
        whole : (blocks_html rules refs false blocks
            (record {
              output = [];
              anchors = anchors_behind [] (map (λ heading. heading.1) (headings_in rules refs blocks ++ []));
            })).output ≡ all.output
        whole = ap (λ w. w.output) (blocks_at rules refs false blocks (begun shown rules.images (Some [])) [])

    telling : all.manner.images ≡ rules.images
    telling = ap (λ m. m.images) (blocks_keep rules refs false blocks (begun shown rules.images (Some [])))

    pub page_is : page_told all ≡ encoded (document_page rules (record { blocks = blocks; refs = refs }))
    unfolding document_page images_told
    page_is =
        ap (λ b. made b all.output (all.headings, all.texts)) telling
        ∙ (ap (λ o. made rules.images o (all.headings, all.texts)) output_told
        ∙ ap (made rules.images (output_of rules anchors (record { blocks = blocks; refs = refs }))) rest_told)

pub text_page : (rules : Rules) (text : Text) → encoded (document_page rules (document_of rules text)) ≡ rendered_of rules text
unfolding page_of
text_page rules text = refl
