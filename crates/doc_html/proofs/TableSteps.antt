-- Tables as they are written, step by step.
use Rattle.std.proofs.Common.{◌≡◌, ℕ, ◌+◌, ◌<◌, Bool, true, false, List, [], ◌∷◌, ◌++◌, ap, refl, sym, ◌∙◌, subst, take, append_assoc, append-nil}
use Rattle.std.specs.Prelude.{codes, ◌==◌, drop, get_or, length, Option, Some, None, option_map}
use Rattle.std.proofs.lemmas.List.{drop_more}
use Rattle.std.proofs.Math.Seq.{drop-length, take-nil, drop-nil, drop-drop}
use Rattle.doc_rules.specs.Characters.{Text}
use Rattle.doc_rules.specs.Rules.{Rules}
use Rattle.doc_rules.specs.Definitions.{Definition}
use Rattle.doc_rules.specs.Inlines.{Inline}
use Rattle.doc_rules.specs.Reading.{inlines_of}
use Rattle.doc_rules.specs.PlainTexts.{plain_text, text_in}
use Rattle.doc_rules.specs.declared.alignment.Alignment.{Alignment}
use Rattle.doc_rules.specs.Html.{Output, characters, inlines_html, align_attribute, cell_html}
use Rattle.doc_html.specs.ProgressSteps.{Progress, told, on_new_line, text_met, Goes, Writes}
use Rattle.doc_rules.specs.Lines.{onto_first}
use Rattle.doc_rules.specs.Tables.{TableSource, alignment_of, alignments_of, cells_of_line, text_lines, unescape_pipes}
use Rattle.doc_tables.specs.CellSteps.{has_escaped_pipe}
use Rattle.doc_tables.proofs.TableLaws.{stands_for_itself}
use Rattle.doc_blocks_starts.specs.Tables.{columns_said, source_of}
use Rattle.doc_html.specs.TableSteps.{cell_told, cells_told, cut_told, cut_cells, cut_rows, row_told, rows_told, body_told, table_told, Leads}
use Rattle.doc_html.specs.TableSteps.{IsCellStep}
use Rattle.doc_html.proofs.WriterSteps.{both, texts}

-- ---- lines

some_first : (c : ℕ) (lines : List Text) → (line : Text) × (more : List Text) × (onto_first c lines ≡ line ∷ more)
unfolding onto_first
some_first c [] = (c ∷ [], [], refl)
some_first c (line ∷ more) = (c ∷ line, more, refl)

-- a text has one line at least
some_lines : (text : Text) → (line : Text) × (more : List Text) × (text_lines text ≡ line ∷ more)
unfolding text_lines
some_lines [] = ([], [], refl)
some_lines (c ∷ rest) = at (c == 10)
  where
    at : (b : Bool) → (line : Text) × (more : List Text)
        × (elim b as (λ _. List Text) [ true ↦ [] ∷ text_lines rest | false ↦ onto_first c (text_lines rest) ] ≡ line ∷ more)
    at true = ([], text_lines rest, refl)
    at false = some_first c (text_lines rest)

-- ---- cells

-- a cell without a '|' behind a backslash is read as it stands
pub stands : (escaped : Bool) (text : Text) → escaped ≡ false → escaped ≡ has_escaped_pipe text → text ≡ unescape_pipes text
stands escaped text e is = sym (stands_for_itself text (sym is ∙ e))

-- the start of a cell
pub cell_begins : {W : Type 0} (holds : W → Progress → Type 0) (a b c d e : W) (name : Text) (column : Alignment)
    → Writes holds a b (characters (codes "<")) → Writes holds b c (characters name) → Writes holds c d (characters (align_attribute column))
    → Writes holds d e (characters (codes ">"))
    → Writes holds a e (characters (codes "<" ++ name ++ align_attribute column ++ codes ">"))
cell_begins holds a b c d e name column w1 w2 w3 w4 =
    texts holds a d e (codes "<" ++ name ++ align_attribute column) (codes ">")
    (texts holds a c d (codes "<" ++ name) (align_attribute column) (texts holds a b c (codes "<") name w1 w2) w3) w4

-- its end
pub cell_ends : {W : Type 0} (holds : W → Progress → Type 0) (a b c d : W) (name : Text) → Writes holds a b (characters (codes "</"))
    → Writes holds b c (characters name) → Writes holds c d (characters (codes ">\n"))
    → Writes holds a d (characters (codes "</" ++ name ++ codes ">\n"))
cell_ends holds a b c d name w1 w2 w3 =
    texts holds a c d (codes "</" ++ name) (codes ">\n") (texts holds a b c (codes "</") name w1 w2) w3

-- a cell with these inlines
pub cell_writes : {W : Type 0} (holds : W → Progress → Type 0) (a b c d : W) (name : Text) (column : Alignment) (inside : Output)
    → Writes holds a b (characters (codes "<" ++ name ++ align_attribute column ++ codes ">")) → Writes holds b c inside
    → Writes holds c d (characters (codes "</" ++ name ++ codes ">\n")) → Writes holds a d (cell_html name column inside)
unfolding cell_html
cell_writes holds a b c d name column inside w1 w2 w3 =
    both holds a b d _ _ w1 (both holds b c d inside _ w2 w3)

pub empty_cell : {W : Type 0} (holds : W → Progress → Type 0) (a b c : W) (name : Text) (column : Alignment)
    → Writes holds a b (characters (codes "<" ++ name ++ align_attribute column ++ codes ">"))
    → Writes holds b c (characters (codes "</" ++ name ++ codes ">\n")) → Writes holds a c (cell_html name column [])
unfolding cell_html
empty_cell holds a b c name column w1 w2 = both holds a b c _ _ w1 w2

pub cell_goes : {W : Type 0} (holds : W → Progress → Type 0) (a b c d e : W) (rules : Rules) (refs : List Definition) (name : Text)
    (column : Alignment) (text : Text) (made : List Inline) → made ≡ inlines_of rules refs text →
    Goes holds a b (text_met (plain_text made))
    → Writes holds b c (characters (codes "<" ++ name ++ align_attribute column ++ codes ">")) → Writes holds c d (inlines_html 0 made)
    → Writes holds d e (characters (codes "</" ++ name ++ codes ">\n")) → Goes holds a e (cell_told rules refs name column text)
unfolding cell_told
cell_goes holds a b c d e rules refs name column text made is m w1 w2 w3 =
    subst (λ i. Goes holds a e (λ p. told (cell_html name column (inlines_html 0 i)) (text_met (plain_text i) p))) is
    (λ p h. cell_writes holds b c d e name column (inlines_html 0 made) w1 w2 w3 (text_met (plain_text made) p) (m p h))

-- ---- rows

module _ {W : Type 0} (holds : W → Progress → Type 0) (rules : Rules) (refs : List Definition) (name : Text) where
  -- the first cell that is left, and where none is
  pub cell_step : (a b : W) (column : Alignment) (text : Text) (cells rest : List Text) → cells ≡ text ∷ rest
      → Goes holds a b (cell_told rules refs name column text) → IsCellStep holds a b rules refs name column cells rest
  unfolding cut_told
  cell_step a b column text cells rest e g columns end f =
      subst (λ cs. Goes holds a end (cut_told rules refs name (column ∷ columns) cs)) (sym e)
      (λ p h. f (cell_told rules refs name column text p) (g p h))

  pub empty_step : (a b : W) (column : Alignment) (cells : List Text) → cells ≡ [] → Writes holds a b (cell_html name column [])
      → IsCellStep holds a b rules refs name column cells cells
  unfolding cut_told
  empty_step a b column cells e g columns end f =
      let rest : Goes holds b end (cut_told rules refs name columns [])
      = subst (λ cs. Goes holds b end (cut_told rules refs name columns cs)) e f in
      subst (λ cs. Goes holds a end (cut_told rules refs name (column ∷ columns) cs)) (sym e)
      (λ p h. rest (told (cell_html name column []) p) (g p h))

  -- along the columns
  pub columns_begin : (a : W) (columns : List Alignment) (cells line : List Text) → cells ≡ line
      → Leads holds a a (cut_told rules refs name (drop 0 columns) cells) (cut_told rules refs name columns line)
  columns_begin a columns cells line e end g = subst (λ cs. Goes holds a end (cut_told rules refs name columns cs)) e g

  pub columns_go_on : (a b c : W) (columns : List Alignment) (i : ℕ) (other : Alignment) (cells rest : List Text)
      (all : Progress → Progress) → i < length columns
      → Leads holds a b (cut_told rules refs name (drop i columns) cells) all
      → IsCellStep holds b c rules refs name (get_or columns i other) cells rest
      → Leads holds a c (cut_told rules refs name (drop (i + 1) columns) rest) all
  columns_go_on a b c columns i other cells rest all less l s end f =
      l end (subst (λ cs. Goes holds b end (cut_told rules refs name cs cells)) (sym (drop_more columns i other less))
      (s (drop (i + 1) columns) end f))

  pub columns_end : (a b : W) (columns : List Alignment) (i : ℕ) (cells : List Text) (all : Progress → Progress) → i ≡ length columns
      → Leads holds a b (cut_told rules refs name (drop i columns) cells) all → Goes holds a b all
  unfolding cut_told
  columns_end a b columns i cells all e l =
      l b (subst (λ cs. Goes holds b b (cut_told rules refs name cs cells))
      (sym (ap (λ n. drop n columns) e ∙ drop-length columns)) (λ p h. h))

-- a row whose further cells aren't read is one that has no others
cells_cut : (rules : Rules) (refs : List Definition) (name : Text) (columns : List Alignment) (cells : List Text) (p : Progress)
    → cut_told rules refs name columns cells p ≡ cells_told rules refs name columns (take (length columns) cells) p
unfolding cut_told cells_told
cells_cut rules refs name [] cells p = refl
cells_cut rules refs name (column ∷ columns) [] p =
    cells_cut rules refs name columns [] (told (cell_html name column []) p)
    ∙ ap (λ cs. cells_told rules refs name columns cs (told (cell_html name column []) p)) (take-nil (length columns))
cells_cut rules refs name (column ∷ columns) (text ∷ more) p =
    cells_cut rules refs name columns more (cell_told rules refs name column text p)

pub row_goes : {W : Type 0} (holds : W → Progress → Type 0) (a b c d : W) (rules : Rules) (refs : List Definition) (name : Text)
    (columns : List Alignment) (cells : List Text) → Writes holds a b (characters (codes "<tr>\n"))
    → Goes holds b c (cut_told rules refs name columns cells) → Writes holds c d (characters (codes "</tr>\n"))
    → Goes holds a d (row_told rules refs name columns (take (length columns) cells))
unfolding row_told
row_goes holds a b c d rules refs name columns cells w1 g w2 = λ p h.
    let begun : Progress = told (characters (codes "<tr>\n")) p in
    w2 _ (subst (holds c) (cells_cut rules refs name columns cells begun) (g begun (w1 p h)))

-- a row whose further cells are met behind the others
cells_over : (rules : Rules) (refs : List Definition) (name : Text) (columns : List Alignment) (cells : List Text) (p : Progress)
    → cells_told rules refs name columns cells p
    ≡ cells_told rules refs name [] (drop (length columns) cells) (cut_told rules refs name columns cells p)
unfolding cut_told cells_told
cells_over rules refs name [] cells p = refl
cells_over rules refs name (column ∷ columns) [] p =
    cells_over rules refs name columns [] (told (cell_html name column []) p)
    ∙ ap (λ cs. cells_told rules refs name [] cs (cut_told rules refs name columns [] (told (cell_html name column []) p)))
    (drop-nil (length columns))
cells_over rules refs name (column ∷ columns) (text ∷ more) p =
    cells_over rules refs name columns more (cell_told rules refs name column text p)

pub header_goes : {W : Type 0} (holds : W → Progress → Type 0) (a b c d e : W) (rules : Rules) (refs : List Definition) (name : Text)
    (columns : List Alignment) (cells rest : List Text) → Writes holds a b (characters (codes "<tr>\n"))
    → Goes holds b c (cut_told rules refs name columns cells) → rest ≡ drop (length columns) cells
    → Goes holds c d (cells_told rules refs name [] rest) → Writes holds d e (characters (codes "</tr>\n"))
    → Goes holds a e (row_told rules refs name columns cells)
unfolding row_told
header_goes holds a b c d e rules refs name columns cells rest w1 g is over w2 = λ p h.
    let begun : Progress = told (characters (codes "<tr>\n")) p in
    let met : holds d (cells_told rules refs name [] (drop (length columns) cells) (cut_told rules refs name columns cells begun))
    = subst (λ cs. holds d (cells_told rules refs name [] cs (cut_told rules refs name columns cells begun))) is
    (over _ (g begun (w1 p h))) in
    w2 _ (subst (holds d) (sym (cells_over rules refs name columns cells begun)) met)

-- the text of a cell that has no column
pub text_goes : {W : Type 0} (holds : W → Progress → Type 0) (a b : W) (rules : Rules) (refs : List Definition) (text : Text)
    (made : List Inline) → made ≡ inlines_of rules refs text → Goes holds a b (text_met (plain_text made))
    → Goes holds a b (text_met (text_in rules refs text))
text_goes holds a b rules refs text made is g = subst (λ i. Goes holds a b (text_met (plain_text i))) is g

module _ {W : Type 0} (holds : W → Progress → Type 0) (rules : Rules) (refs : List Definition) (name : Text) where
  pub over_begins : (a : W) (cells : List Text)
      → Leads holds a a (cells_told rules refs name [] cells) (cells_told rules refs name [] cells)
  over_begins a cells end g = g

  pub over_goes_on : (a b c : W) (cells : List Text) (text : Text) (rest : List Text) (all : Progress → Progress) → cells ≡ text ∷ rest
      → Leads holds a b (cells_told rules refs name [] cells) all → Goes holds b c (text_met (text_in rules refs text))
      → Leads holds a c (cells_told rules refs name [] rest) all
  unfolding cells_told
  over_goes_on a b c cells text rest all e l g end f =
      l end (subst (λ cs. Goes holds b end (cells_told rules refs name [] cs)) (sym e)
      (λ p h. f (text_met (text_in rules refs text) p) (g p h)))

  pub over_ends : (a b : W) (cells : List Text) (all : Progress → Progress) → cells ≡ []
      → Leads holds a b (cells_told rules refs name [] cells) all → Goes holds a b all
  unfolding cells_told
  over_ends a b cells all e l = l b (subst (λ cs. Goes holds b b (cells_told rules refs name [] cs)) (sym e) (λ p h. h))

-- the cells that are left, one column on
pub left_begins : (cells line : List Text) → cells ≡ line → cells ≡ drop 0 line
left_begins cells line e = e

pub left_goes_on : (cells rest line : List Text) (i : ℕ) → cells ≡ drop i line → rest ≡ drop 1 cells → rest ≡ drop (i + 1) line
left_goes_on cells rest line i e f = f ∙ ap (drop 1) e ∙ drop-drop 1 i line

-- ---- the rows behind the header

module _ {W : Type 0} (holds : W → Progress → Type 0) (rules : Rules) (refs : List Definition) (columns : List Alignment) where
  pub rows_begin : (a : W) (lines : List Text)
      → Leads holds a a (rows_told rules refs columns (cut_rows columns lines)) (rows_told rules refs columns (cut_rows columns lines))
  rows_begin a lines end g = g

  pub rows_go_on : (a b c : W) (left : List Text) (line : Text) (lines : List Text) (all : Progress → Progress) → left ≡ line ∷ lines
      → Leads holds a b (rows_told rules refs columns (cut_rows columns left)) all
      → Goes holds b c (row_told rules refs (codes "td") columns (cut_cells columns line))
      → Leads holds a c (rows_told rules refs columns (cut_rows columns lines)) all
  unfolding rows_told
  rows_go_on a b c left line lines all e l g end f =
      l end (subst (λ ls. Goes holds b end (rows_told rules refs columns (cut_rows columns ls))) (sym e)
      (λ p h. f (row_told rules refs (codes "td") columns (cut_cells columns line) p) (g p h)))

  pub rows_end : (a b : W) (left : List Text) (all : Progress → Progress) → left ≡ []
      → Leads holds a b (rows_told rules refs columns (cut_rows columns left)) all → Goes holds a b all
  unfolding rows_told
  rows_end a b left all e l =
      l b (subst (λ ls. Goes holds b b (rows_told rules refs columns (cut_rows columns ls))) (sym e) (λ p h. h))

  pub no_body : (a : W) (lines : List Text) → lines ≡ [] → Goes holds a a (body_told rules refs columns (cut_rows columns lines))
  unfolding body_told
  no_body a lines e = subst (λ ls. Goes holds a a (body_told rules refs columns (cut_rows columns ls))) (sym e) (λ p h. h)

  body_at : (a b c d : W) (lines : List Text) (line : Text) (more : List Text) → lines ≡ line ∷ more
      → Writes holds a b (characters (codes "<tbody>\n")) → Goes holds b c (rows_told rules refs columns (cut_rows columns lines))
      → Writes holds c d (characters (codes "</tbody>\n")) → Goes holds a d (body_told rules refs columns (cut_rows columns lines))
  unfolding body_told
  body_at a b c d lines line more e w1 g w2 =
      let rows : Goes holds b c (rows_told rules refs columns (cut_rows columns (line ∷ more)))
      = subst (λ ls. Goes holds b c (rows_told rules refs columns (cut_rows columns ls))) e g in
      subst (λ ls. Goes holds a d (body_told rules refs columns (cut_rows columns ls))) (sym e)
      (λ p h. w2 _ (rows _ (w1 p h)))

  pub body_goes : (a b c d : W) (text : Text) → Writes holds a b (characters (codes "<tbody>\n"))
      → Goes holds b c (rows_told rules refs columns (cut_rows columns (text_lines text)))
      → Writes holds c d (characters (codes "</tbody>\n"))
      → Goes holds a d (body_told rules refs columns (cut_rows columns (text_lines text)))
  body_goes a b c d text w1 g w2 =
      let found : (line : Text) × (more : List Text) × (text_lines text ≡ line ∷ more) = some_lines text in
      body_at a b c d (text_lines text) found.0 found.1 found.2 w1 g w2

-- ---- tables

pub table_goes : {W : Type 0} (holds : W → Progress → Type 0) (a b c d e f g : W) (rules : Rules) (refs : List Definition)
    (columns : List Alignment) (header delimiters : Text) (rows : List Text) → columns ≡ columns_said delimiters
    → Goes holds a b on_new_line → Writes holds b c (characters (codes "<table>\n<thead>\n"))
    → Goes holds c d (row_told rules refs (codes "th") columns (cells_of_line header))
    → Writes holds d e (characters (codes "</thead>\n"))
    → Goes holds e f (body_told rules refs columns (cut_rows columns rows)) → Writes holds f g (characters (codes "</table>\n"))
    → Goes holds a g (table_told rules refs (source_of header delimiters rows))
unfolding table_told
table_goes {W} holds a b c d e f g rules refs columns header delimiters rows is n w1 r w2 m w3 =
    subst (λ cs. Goes holds a g (table_told rules refs (made cs))) is (λ p h. w3 _ (m _ (w2 _ (r _ (w1 _ (n p h))))))
  where
    made : List Alignment → TableSource
    made cs = record { columns = cs; header = cells_of_line header; rows = cut_rows cs rows }

-- ---- columns

-- these columns, and behind them those of the cells that are left, if each of them says one
unfoldable pub said_behind : List Alignment → Option (List Alignment) → Option (List Alignment)
said_behind made None = None
said_behind made (Some more) = Some (made ++ more)

-- the columns of no cell so far
pub nothing_said : (made : List Alignment) (cells line : List Text) → made ≡ [] → cells ≡ line
    → alignments_of line ≡ said_behind made (alignments_of cells)
unfolding said_behind
nothing_said made cells line m e =
    ap alignments_of (sym e) ∙ same (alignments_of cells) ∙ ap (λ cs. said_behind cs (alignments_of cells)) (sym m)
  where
    same : (said : Option (List Alignment)) → said ≡ said_behind [] said
    same None = refl
    same (Some more) = refl

unfoldable said_one : (one : Option Alignment) (more : Option (List Alignment)) → Option (List Alignment)
said_one None more = None
said_one (Some one) more = option_map (λ rest. one ∷ rest) more

first_said : (cell : Text) (more : List Text) → alignments_of (cell ∷ more) ≡ said_one (alignment_of cell) (alignments_of more)
unfolding alignments_of said_one
first_said cell more = at (alignment_of cell)
  where
    at : (one : Option Alignment)
        → elim one as (λ _. Option (List Alignment)) [ None ↦ None | Some one ↦ option_map (λ rest. one ∷ rest) (alignments_of more) ]
        ≡ said_one one (alignments_of more)
    at None = refl
    at (Some one) = refl

one_behind : (made : List Alignment) (one : Alignment) (more : Option (List Alignment))
    → said_behind made (option_map (λ rest. one ∷ rest) more) ≡ said_behind (made ++ one ∷ []) more
unfolding said_behind
one_behind made one None = refl
one_behind made one (Some more) = ap Some (sym (append_assoc made (one ∷ []) more))

-- a cell more says one
pub more_said : (line cells : List Text) (cell : Text) (rest : List Text) (made new : List Alignment) (one : Alignment)
    → alignments_of line ≡ said_behind made (alignments_of cells) → cells ≡ cell ∷ rest → alignment_of cell ≡ Some one
    → new ≡ made ++ one ∷ [] → alignments_of line ≡ said_behind new (alignments_of rest)
unfolding said_one said_behind
more_said line cells cell rest made new one s e a n =
    s ∙ ap (λ cs. said_behind made (alignments_of cs)) e
    ∙ ap (said_behind made) (first_said cell rest ∙ ap (λ (o : Option Alignment). said_one o (alignments_of rest)) a)
    ∙ one_behind made one (alignments_of rest) ∙ ap (λ cs. said_behind cs (alignments_of rest)) (sym n)

abbrev columns_or_none : Option (List Alignment) → List Alignment
columns_or_none said = elim said [ Some columns ↦ columns | None ↦ [] ]

-- a cell says none
pub none_said : (delimiters : Text) (cells : List Text) (cell : Text) (rest : List Text) (made : List Alignment)
    → alignments_of (cells_of_line delimiters) ≡ said_behind made (alignments_of cells) → cells ≡ cell ∷ rest → alignment_of cell ≡ None
    → columns_said delimiters ≡ []
unfolding said_behind said_one
none_said delimiters cells cell rest made s e a =
    ap columns_or_none
    (s ∙ ap (λ cs. said_behind made (alignments_of cs)) e
    ∙ ap (said_behind made) (first_said cell rest ∙ ap (λ (o : Option Alignment). said_one o (alignments_of rest)) a))

-- all cells said one
pub all_said : (delimiters : Text) (cells : List Text) (made : List Alignment)
    → alignments_of (cells_of_line delimiters) ≡ said_behind made (alignments_of cells) → cells ≡ []
    → made ≡ columns_said delimiters
unfolding said_behind alignments_of
all_said delimiters cells made s e =
    sym (ap columns_or_none (s ∙ ap (λ cs. said_behind made (alignments_of cs)) e) ∙ append-nil made)
