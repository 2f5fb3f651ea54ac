-- What is written of a table step by step is its HTML, and the texts that are met are those of its cells.
use Rattle.std.proofs.Common.{◌≡◌, List, [], ◌∷◌, ◌++◌, map, refl, ap, sym, ◌∙◌, append_assoc, append-nil}
use Rattle.std.specs.Prelude.{codes, flat_map}
use Rattle.doc_rules.specs.Characters.{Text}
use Rattle.doc_rules.specs.Rules.{Rules}
use Rattle.doc_rules.specs.Definitions.{Definition}
use Rattle.doc_rules.specs.Reading.{inlines_of}
use Rattle.doc_rules.specs.declared.alignment.Alignment.{Alignment}
use Rattle.doc_rules.specs.Tables.{TableSource}
use Rattle.doc_rules.specs.Html.{Output, characters, inlines_html, cell_html, cells_html, row_html, rows_html, body_html, table_html}
use Rattle.doc_rules.specs.PlainTexts.{text_in, table_texts}
use Rattle.doc_html.specs.ProgressSteps.{Progress, told, on_new_line, text_met}
use Rattle.doc_html.specs.TableSteps.{cell_told, cells_told, row_told, rows_told, body_told, table_told}

-- this is written, and these texts are met
abbrev pub added : Output → List Text → Progress → Progress
added output texts p = record p { output = p.output ++ output; texts = p.texts ++ texts }

nothing_added : (p : Progress) → p ≡ added [] [] p
nothing_added p = ap (λ o. record p { output = o }) (sym (append-nil p.output))
    ∙ ap (λ ts. record p { output = p.output ++ []; texts = ts }) (sym (append-nil p.texts))

added_twice : (some more : Output) (texts others : List Text) (p : Progress)
    → added more others (added some texts p) ≡ added (some ++ more) (texts ++ others) p
added_twice some more texts others p =
    ap (λ o. record p { output = o; texts = (p.texts ++ texts) ++ others }) (append_assoc p.output some more)
    ∙ ap (λ ts. record p { output = p.output ++ (some ++ more); texts = ts }) (append_assoc p.texts texts others)

-- something is written, and no text is met
told_added : (output : Output) (p : Progress) → told output p ≡ added output [] p
told_added output p = ap (λ ts. record p { output = p.output ++ output; texts = ts }) (sym (append-nil p.texts))

-- a step behind another one, where both are known
behind : (some more : Output) (texts others : List Text) (first : Progress) (step : Progress → Progress) (p : Progress)
    → first ≡ added some texts p → ((q : Progress) → step q ≡ added more others q)
    → step first ≡ added (some ++ more) (texts ++ others) p
behind some more texts others first step p e f = ap step e ∙ (f (added some texts p) ∙ added_twice some more texts others p)

-- something is written behind
ended : (some more : Output) (texts : List Text) (first : Progress) (p : Progress)
    → first ≡ added some texts p → told more first ≡ added (some ++ more) texts p
ended some more texts first p e =
    behind some more texts [] first (told more) p e (told_added more)
    ∙ ap (λ ts. added (some ++ more) ts p) (append-nil texts)

-- something is written before
begun_by : (some more : Output) (others : List Text) (step : Progress → Progress) (p : Progress)
    → ((q : Progress) → step q ≡ added more others q) → step (told some p) ≡ added (some ++ more) others p
begun_by some more others step p f = behind some more [] others (told some p) step p (told_added some p) f

module _ (rules : Rules) (refs : List Definition) where
  abbrev cell_of : Text → Alignment → Text → Output
  cell_of name column text = cell_html name column (inlines_html 0 (inlines_of rules refs text))

  cell_is : (name : Text) (column : Alignment) (text : Text) (p : Progress)
      → cell_told rules refs name column text p ≡ added (cell_of name column text) (text_in rules refs text ∷ []) p
  unfolding cell_told text_met
  cell_is name column text p = refl

  cells_are : (name : Text) (columns : List Alignment) (cells : List Text) (p : Progress)
      → cells_told rules refs name columns cells p ≡ added (cells_html rules refs name columns cells) (map (text_in rules refs) cells) p
  unfolding cells_told cells_html text_met
  cells_are name [] [] p = nothing_added p
  cells_are name [] (text ∷ more) p =
      cells_are name [] more (text_met (text_in rules refs text) p)
      ∙ ap (λ ts. record p { output = p.output ++ []; texts = ts }) (append_assoc p.texts (text_in rules refs text ∷ [])
      (map (text_in rules refs) more))
  cells_are name (column ∷ columns) [] p =
      begun_by (cell_html name column []) (cells_html rules refs name columns []) [] (cells_told rules refs name columns []) p
      (cells_are name columns [])
  cells_are name (column ∷ columns) (text ∷ more) p =
      behind (cell_of name column text) (cells_html rules refs name columns more) (text_in rules refs text ∷ [])
      (map (text_in rules refs) more) (cell_told rules refs name column text p)
      (cells_told rules refs name columns more) p (cell_is name column text p) (cells_are name columns more)

  row_is : (name : Text) (columns : List Alignment) (cells : List Text) (p : Progress)
      → row_told rules refs name columns cells p ≡ added (row_html rules refs name columns cells) (map (text_in rules refs) cells) p
  unfolding row_told row_html
  row_is name columns cells p =
      let inside : Output = cells_html rules refs name columns cells in
      ended (characters (codes "<tr>\n") ++ inside) (characters (codes "</tr>\n")) (map (text_in rules refs) cells)
      (cells_told rules refs name columns cells (told (characters (codes "<tr>\n")) p)) p
      (begun_by (characters (codes "<tr>\n")) inside (map (text_in rules refs) cells) (cells_told rules refs name columns cells) p
      (cells_are name columns cells))
      ∙ ap (λ o. added o (map (text_in rules refs) cells) p) (append_assoc (characters (codes "<tr>\n")) inside (characters (codes "</tr>\n")))

  rows_are : (columns : List Alignment) (rows : List (List Text)) (p : Progress)
      → rows_told rules refs columns rows p ≡ added (rows_html rules refs columns rows) (flat_map (map (text_in rules refs)) rows) p
  unfolding rows_told rows_html
  rows_are columns [] p = nothing_added p
  rows_are columns (row ∷ more) p =
      behind (row_html rules refs (codes "td") columns row) (rows_html rules refs columns more) (map (text_in rules refs) row)
      (flat_map (map (text_in rules refs)) more) (row_told rules refs (codes "td") columns row p)
      (rows_told rules refs columns more) p (row_is (codes "td") columns row p) (rows_are columns more)

  body_is : (columns : List Alignment) (rows : List (List Text)) (p : Progress)
      → body_told rules refs columns rows p ≡ added (body_html rules refs columns rows) (flat_map (map (text_in rules refs)) rows) p
  unfolding body_told body_html
  body_is columns [] p = nothing_added p
  body_is columns (row ∷ more) p =
      let rows : List (List Text) = row ∷ more in
      let inside : Output = rows_html rules refs columns rows in
      let texts : List Text = flat_map (map (text_in rules refs)) rows in
      ended (characters (codes "<tbody>\n") ++ inside) (characters (codes "</tbody>\n")) texts
      (rows_told rules refs columns rows (told (characters (codes "<tbody>\n")) p)) p
      (begun_by (characters (codes "<tbody>\n")) inside texts (rows_told rules refs columns rows) p (rows_are columns rows))
      ∙ ap (λ o. added o texts p) (append_assoc (characters (codes "<tbody>\n")) inside (characters (codes "</tbody>\n")))

  pub table_is : (table : TableSource) (p : Progress)
      → table_told rules refs table p ≡ added (table_html rules refs table) (table_texts rules refs table) (on_new_line p)
  unfolding table_told table_html table_texts
  table_is table p =
      let q : Progress = on_new_line p in
      let front : Output = characters (codes "<table>\n<thead>\n") in
      let header : Output = row_html rules refs (codes "th") table.columns table.header in
      let middle : Output = characters (codes "</thead>\n") in
      let body : Output = body_html rules refs table.columns table.rows in
      let end : Output = characters (codes "</table>\n") in
      let names : List Text = map (text_in rules refs) table.header in
      let others : List Text = flat_map (map (text_in rules refs)) table.rows in
      let headed : Progress = row_told rules refs (codes "th") table.columns table.header (told front q) in
      let head_is : told middle headed ≡ added ((front ++ header) ++ middle) names q
      = ended (front ++ header) middle names headed q
      (begun_by front header names (row_told rules refs (codes "th") table.columns table.header) q
      (row_is (codes "th") table.columns table.header)) in
      let all_is : body_told rules refs table.columns table.rows (told middle headed)
      ≡ added (((front ++ header) ++ middle) ++ body) (names ++ others) q
      = behind ((front ++ header) ++ middle) body names others (told middle headed) (body_told rules refs table.columns table.rows) q
      head_is
      (body_is table.columns table.rows) in
      ended (((front ++ header) ++ middle) ++ body) end (names ++ others)
      (body_told rules refs table.columns table.rows (told middle headed)) q all_is
      ∙ ap (λ o. added o (names ++ others) q) (five front header middle body end)
    where
      five : (a b c d e : Output) → (((a ++ b) ++ c) ++ d) ++ e ≡ a ++ (b ++ (c ++ (d ++ e)))
      five a b c d e = simp append_assoc
