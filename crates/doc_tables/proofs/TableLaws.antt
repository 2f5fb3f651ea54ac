-- Laws of tables in the text of a paragraph.
use Rattle.std.proofs.Common.{◌≡◌, ℕ, Bool, true, false, ◌==◌, List, [], ◌∷◌, ◌++◌, refl, ap, sym, ◌∙◌, Option, Some, None, length}
use Rattle.std.specs.Prelude.{◌&&◌, ◌||◌, codes, option_map, is_some}
use Rattle.doc_rules.specs.Characters.{Text}
use Rattle.doc_rules.specs.Lines.{onto_first}
use Rattle.doc_rules.specs.Parsers.{word, through}
use Rattle.doc_rules.specs.declared.alignment.Alignment.{Alignment}
use Rattle.doc_tables.specs.CellSteps.{has_escaped_pipe}
use Rattle.doc_tables.specs.ColumnSteps.{columns_with}
use Rattle.doc_tables.specs.Laws.{StandsForItself, TwoLinesBegin, GrowsByLines, LinesJoin}
use Rattle.doc_rules.specs.Tables.{alignments_of, cells_of_line, has_columns, TableSource, table_with, table_in, text_lines}
use Rattle.doc_rules.specs.Tables.{unescape_pipes}
use Rattle.doc_tables.proofs.ColumnLaws.{table_by, table_among, columns_in}
use Rattle.doc_tables.proofs.AlignmentLaws.{empty_stays, single_stays, no_pair, is_pair}

-- ---- cells that stand for themselves

pair_is_one : (rest : Text) → has_escaped_pipe (92 ∷ 124 ∷ rest) ≡ true
unfolding through word
pair_is_one rest = refl

none_later : (c : ℕ) (text : Text) → has_escaped_pipe (c ∷ text) ≡ false → has_escaped_pipe text ≡ false
unfolding through
none_later c text e = at (word (codes "\\|") (c ∷ text)) e
  where
    at : (found : Option Text) → is_some (elim found [
      | Some after ↦ Some after
      | None ↦ through (word (codes "\\|")) text
    ]) ≡ false → is_some (through (word (codes "\\|")) text) ≡ false
    at None f = f
    at (Some after) f = absurd cc

pub stands_for_itself : StandsForItself
stands_for_itself [] e = empty_stays
stands_for_itself (c ∷ []) e = single_stays c
stands_for_itself (c ∷ d ∷ rest) e =
    at ((c == 92) && (d == 124)) refl (stands_for_itself (d ∷ rest) (none_later c (d ∷ rest) e))
  where
    at : (b : Bool) → ((c == 92) && (d == 124)) ≡ b → unescape_pipes (d ∷ rest) ≡ d ∷ rest
        → unescape_pipes (c ∷ d ∷ rest) ≡ c ∷ d ∷ rest
    at true f g =
        let both = is_pair c d f in
        let one : c ≡ 92 = both.0 in
        let two : d ≡ 124 = both.1 in
        let holds : has_escaped_pipe (92 ∷ 124 ∷ rest) ≡ true = pair_is_one rest in
        absurd cc
    at false f g = no_pair c d rest f ∙ ap (λ (t : Text). c ∷ t) g

-- ---- two lines begin a table

by_rows : (header : Text) (rows : List Text) (columns : List Alignment) (b : Bool)
    → columns_in (table_by header rows columns b) ≡ columns_in (table_by header [] columns b)
unfolding table_by
by_rows header rows columns true = refl
by_rows header rows columns false = refl

among_rows : (header : Text) (rows : List Text) (found : Option (List Alignment))
    → columns_in (table_among header rows found) ≡ columns_in (table_among header [] found)
unfolding table_among
among_rows header rows None = refl
among_rows header rows (Some columns) =
    by_rows header rows columns (has_columns columns && (length (cells_of_line header) == length columns))

pub two_lines_begin : TwoLinesBegin
unfolding table_with table_among table_by
two_lines_begin header delimiters rows = among_rows header rows (alignments_of (cells_of_line delimiters))

-- ---- one line more

columns_tell : (table : Option TableSource) → is_some table ≡ is_some (columns_in table)
columns_tell None = refl
columns_tell (Some table) = refl

begun : (header delimiters : Text) (rows : List Text)
    → is_some (table_with header delimiters rows) ≡ is_some (columns_with header delimiters)
begun header delimiters rows =
    columns_tell (table_with header delimiters rows)
    ∙ ap (λ (found : Option (List Alignment)). is_some found) (two_lines_begin header delimiters rows)

pub none_alone : (line : Text) → is_some (table_in (line ∷ [])) ≡ false
unfolding table_in
none_alone line = refl

pub first_two : (line next : Text) (more : List Text)
    → is_some (table_in (line ∷ next ∷ more)) ≡ (is_some (columns_with line next) || is_some (table_in (next ∷ more)))
unfolding table_in
first_two line next more =
    at (table_with line next more) (table_in (next ∷ more))
    ∙ ap (λ (b : Bool). b || is_some (table_in (next ∷ more))) (begun line next more)
  where
    at : (table : Option TableSource) (found : Option (List Text × TableSource)) → is_some {T = List Text × TableSource} (elim table [
      | Some one ↦ Some ([], one)
      | None ↦ option_map (λ (found : List Text × TableSource). (line ∷ found.0, found.1)) found
    ]) ≡ (is_some table || is_some found)
    at (Some table) found = refl
    at None None = refl
    at None (Some found) = refl

or_again : (a b c d : Bool) → d ≡ (b || c) → (a || d) ≡ ((a || b) || c)
or_again true b c d e = refl
or_again false b c d e = e

pub grows_by_lines : GrowsByLines
grows_by_lines [] last more = sym (ap (λ (b : Bool). b || is_some (table_in (last ∷ more))) (none_alone last))
grows_by_lines (line ∷ []) last more =
    first_two line last more
    ∙ or_again (is_some (columns_with line last)) (is_some (table_in (last ∷ []))) (is_some (table_in (last ∷ more)))
    (is_some (table_in (last ∷ more))) (grows_by_lines [] last more)
    ∙ sym (ap (λ (b : Bool). b || is_some (table_in (last ∷ more))) (first_two line last []))
grows_by_lines (line ∷ second ∷ lines) last more =
    first_two line second (lines ++ last ∷ more)
    ∙ or_again (is_some (columns_with line second)) (is_some (table_in (second ∷ lines ++ last ∷ []))) (is_some (table_in (last ∷ more)))
    (is_some (table_in (second ∷ lines ++ last ∷ more))) (grows_by_lines (second ∷ lines) last more)
    ∙ sym (ap (λ (b : Bool). b || is_some (table_in (last ∷ more))) (first_two line second (lines ++ last ∷ [])))

-- ---- the lines of a text

onto_more : (c : ℕ) (line : Text) (lines more whole : List Text) → whole ≡ line ∷ lines
    → onto_first c (whole ++ more) ≡ onto_first c whole ++ more
unfolding onto_first
onto_more c line lines more whole e =
    ap (λ (l : List Text). onto_first c (l ++ more)) e ∙ sym (ap (λ (l : List Text). onto_first c l ++ more) e)

pub some_lines : (text : Text) → (line : Text) × (lines : List Text) × (text_lines text ≡ line ∷ lines)
unfolding text_lines onto_first
some_lines [] = ([], [], refl)
some_lines (c ∷ rest) = at (c == 10) (some_lines rest)
  where
    at : (b : Bool) → (line : Text) × (lines : List Text) × (text_lines rest ≡ line ∷ lines)
        → (line : Text) × (lines : List Text)
        × ((elim b [ true ↦ [] ∷ text_lines rest | false ↦ onto_first c (text_lines rest) ]) ≡ line ∷ lines)
    at true found = ([], text_lines rest, refl)
    at false found = (c ∷ found.0, found.1, ap (onto_first c) found.2)

pub lines_join : LinesJoin
unfolding text_lines
lines_join [] more = refl
lines_join (c ∷ rest) more = at (c == 10) (lines_join rest more) (some_lines rest)
  where
    at : (b : Bool) → text_lines (rest ++ 10 ∷ more) ≡ text_lines rest ++ text_lines more
        → (line : Text) × (lines : List Text) × (text_lines rest ≡ line ∷ lines)
        → (elim b [ true ↦ [] ∷ text_lines (rest ++ 10 ∷ more) | false ↦ onto_first c (text_lines (rest ++ 10 ∷ more)) ])
        ≡ (elim b [ true ↦ [] ∷ text_lines rest | false ↦ onto_first c (text_lines rest) ]) ++ text_lines more
    at true e found = ap (λ (l : List Text). [] ∷ l) e
    at false e found = ap (onto_first c) e ∙ onto_more c found.0 found.1 (text_lines more) (text_lines rest) found.2
