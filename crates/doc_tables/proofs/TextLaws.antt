-- Tables in texts: what a search for one has passed, and what more lines change.
use Rattle.std.proofs.Common.{◌≡◌, ◌∙◌, ℕ, suc, ◌+◌, ◌<◌, Bool, true, false, ◌==◌, List, [], ◌∷◌, ◌++◌, append_assoc}
use Rattle.std.proofs.Common.{append-nil, length, length-append, refl, ap, sym, arith, Option, Some, None}
use Rattle.std.specs.Prelude.{◌||◌, ◌&&◌, map, take, option_map, is_some, MatchOption}
use Rattle.std.proofs.lemmas.Bool.Decides.{nat_tests}
use Rattle.std.proofs.lemmas.List.{append_cancel_right}
use Rattle.doc_rules.specs.Characters.{Text}
use Rattle.doc_rules.specs.Parsers.{is}
use Rattle.doc_rules.specs.Rests.{IsRest}
use Rattle.doc_rules.specs.Blocks.{joined}
use Rattle.doc_rules.specs.Tables.{TableSource, alignments_of, cells_of_line, has_columns, table_with, table_in, text_lines, has_table}
use Rattle.doc_tables.specs.ColumnSteps.{columns_of, columns_with}
use Rattle.doc_blocks_starts.specs.Tables.{lines_in, source_of}
use Rattle.doc_tables.specs.LineSteps.{last_of, last_line}
use Rattle.doc_tables.specs.Laws.{GrowsByTexts}
use Rattle.doc_tables.proofs.ColumnLaws.{Columns, columns_by, table_by, table_among, no_row, row_is}
use Rattle.doc_tables.proofs.TableLaws.{two_lines_begin, grows_by_lines, lines_join, first_two, none_alone, some_lines}

-- ---- whether two lines begin a table

counted_by : (header delimiters : Text) (n : ℕ) (y : Bool) (found : Option Columns) → found ≡ columns_of (cells_of_line delimiters)
    → Some n ≡ option_map (λ (columns : Columns). length columns) found → y ≡ (length (cells_of_line header) == n)
    → y ≡ is_some (columns_with header delimiters)
counted_by header delimiters n y None e f g = absurd cc
counted_by header delimiters n y (Some columns) e f g =
    let size : n ≡ length columns = cc in
    at y ∙ ap (λ (o : Option Columns). is_some o) (row_is header delimiters columns n y e size g)
  where
    at : (b : Bool) → b ≡ is_some (columns_by columns b)
    at true = refl
    at false = refl

pub counted : (header delimiters : Text) (n : ℕ) (y : Bool)
    → Some n ≡ option_map (λ (columns : Columns). length columns) (columns_of (cells_of_line delimiters))
    → y ≡ (length (cells_of_line header) == n) → y ≡ is_some (columns_with header delimiters)
counted header delimiters n y f g = counted_by header delimiters n y (columns_of (cells_of_line delimiters)) refl f g

uncounted_by : (header delimiters : Text) (found : Option Columns) → found ≡ columns_of (cells_of_line delimiters)
    → None ≡ option_map (λ (columns : Columns). length columns) found → false ≡ is_some (columns_with header delimiters)
uncounted_by header delimiters None e f = ap (λ (o : Option Columns). is_some o) (no_row header delimiters e)
uncounted_by header delimiters (Some columns) e f = absurd cc

pub uncounted : (header delimiters : Text)
    → None ≡ option_map (λ (columns : Columns). length columns) (columns_of (cells_of_line delimiters))
    → false ≡ is_some (columns_with header delimiters)
uncounted header delimiters f = uncounted_by header delimiters (columns_of (cells_of_line delimiters)) refl f

-- ---- with one line above

begins_first : (above line : Text) (lines : List Text) (rest : Option Text) → lines ≡ line ∷ lines_in rest
    → is_some (table_in (above ∷ lines)) ≡ (is_some (columns_with above line) || is_some (table_in lines))
begins_first above line lines rest e =
    ap (λ (l : List Text). is_some (table_in (above ∷ l))) e ∙ first_two above line (lines_in rest)
    ∙ ap (λ (l : List Text). is_some (columns_with above line) || is_some (table_in l)) (sym e)

pub begins_here : (above line : Text) (lines : List Text) (rest : Option Text) → lines ≡ line ∷ lines_in rest
    → true ≡ is_some (columns_with above line) → true ≡ is_some (table_in (above ∷ lines))
begins_here above line lines rest e f =
    sym (begins_first above line lines rest e ∙ ap (λ (b : Bool). b || is_some (table_in lines)) (sym f))

pub begins_later : (above line : Text) (lines : List Text) (rest : Option Text) (later : Bool) → lines ≡ line ∷ lines_in rest
    → false ≡ is_some (columns_with above line) → later ≡ is_some (table_in lines) → later ≡ is_some (table_in (above ∷ lines))
begins_later above line lines rest later e f g =
    sym (begins_first above line lines rest e ∙ ap (λ (b : Bool). b || is_some (table_in lines)) (sym f) ∙ sym g)

pub begins_nowhere : (above line : Text) (lines : List Text) (rest : Option Text) → lines ≡ line ∷ lines_in rest
    → false ≡ is_some (columns_with above line) → rest ≡ None → false ≡ is_some (table_in (above ∷ lines))
begins_nowhere above line lines rest e f g =
    begins_later above line lines rest false e f
    (sym (ap (λ (l : List Text). is_some (table_in l)) (e ∙ ap (λ (o : Option Text). line ∷ lines_in o) g) ∙ none_alone line))

-- ---- the first table

abbrev Found : Type 0
Found = List Text × TableSource

-- what is found behind lines that were passed
abbrev pub behind_passed : List Text → Option Found → Option Found
behind_passed passed found = option_map (λ (f : Found). (passed ++ f.0, f.1)) found

abbrev pub IsSeam : List Text → Text → Text → Type 0
IsSeam [] before line = before ≡ line
IsSeam (passed ∷ more) before line = before ≡ 10 ∷ line

-- a search has come to this line and those behind it, and this is the text from the LF before them on
pub record IsAt (text before line : Text) : Type 0 where
  pub passed : List Text
  pub found_is : table_in (text_lines text) ≡ behind_passed passed (table_in (text_lines line))
  pub split : text ≡ joined passed ++ before
  pub seam : IsSeam passed before line

none_passed : (found : Option Found) → found ≡ behind_passed [] found
none_passed None = refl
none_passed (Some found) = refl

pub at_first : (text : Text) → IsAt text text text
unfolding joined
at_first text = record { passed = []; found_is = none_passed (table_in (text_lines text)); split = refl; seam = refl }

pub rest_before : (text before line : Text) → IsAt text before line → IsRest before text
rest_before text before line at = record { front = joined at.passed; split = at.split }

-- a LF is found at the front
is_feed_by : (c : ℕ) (more next : Text) (b : Bool) → (c == 10) ≡ b
    → ◌≡◌ {A = Option Text} (Some next) (elim b [ true ↦ Some more | false ↦ None ])
    → c ∷ more ≡ 10 ∷ next
is_feed_by c more next true e f =
    let feed : c ≡ 10 = grind (arith, nat_tests) in
    let same : next ≡ more = cc in
    ap (λ (n : ℕ). n ∷ more) feed ∙ ap (λ (t : Text). 10 ∷ t) (sym same)
is_feed_by c more next false e f = absurd cc

pub feed_is : (end next : Text) → Some next ≡ is 10 end → end ≡ 10 ∷ next
feed_is [] next e = absurd cc
feed_is (c ∷ more) next e = is_feed_by c more next (c == 10) refl e

joined_more : (first : Text) (more : List Text) (line : Text) → joined ((first ∷ more) ++ line ∷ []) ≡ joined (first ∷ more) ++ 10 ∷ line
unfolding joined
joined_more first [] line = refl
joined_more first (next ∷ more) line =
    ap (λ (t : Text). first ++ 10 ∷ t) (joined_more next more line) ∙ sym (append_assoc first (10 ∷ joined (next ∷ more)) (10 ∷ line))

joined_one : (line : Text) → joined (line ∷ []) ≡ line
unfolding joined
joined_one line = refl

joined_none : joined [] ≡ []
unfolding joined
joined_none = refl

split_further : (text before line header end : Text) (passed : List Text) → text ≡ joined passed ++ before → IsSeam passed before line
    → line ≡ header ++ end → text ≡ joined (passed ++ header ∷ []) ++ end
split_further text before line header end [] e f g =
    e ∙ ap (λ (t : Text). t ++ before) joined_none ∙ f ∙ g ∙ ap (λ (t : Text). t ++ end) (sym (joined_one header))
split_further text before line header end (first ∷ more) e f g =
    e ∙ ap (λ (t : Text). joined (first ∷ more) ++ t) (f ∙ ap (λ (t : Text). 10 ∷ t) g)
    ∙ sym (append_assoc (joined (first ∷ more)) (10 ∷ header) end)
    ∙ ap (λ (t : Text). t ++ end) (sym (joined_more first more header))

seam_further : (passed : List Text) (header end next : Text) → end ≡ 10 ∷ next → IsSeam (passed ++ header ∷ []) end next
seam_further [] header end next e = e
seam_further (first ∷ more) header end next e = e

found_by : Text → Option TableSource → Option Found → Option Found
found_by line table found = elim table [
  | Some one ↦ Some ([], one)
  | None ↦ option_map (λ (f : Found). (line ∷ f.0, f.1)) found
]

in_by : (line next : Text) (more : List Text) (table : Option TableSource) → table ≡ table_with line next more
    → table_in (line ∷ next ∷ more) ≡ found_by line table (table_in (next ∷ more))
unfolding table_in found_by
in_by line next more table e = ap (λ (t : Option TableSource). found_by line t (table_in (next ∷ more))) (sym e)

no_source : (header delimiters : Text) (rows : List Text) → false ≡ is_some (columns_with header delimiters)
    → None ≡ table_with header delimiters rows
no_source header delimiters rows e = at (table_with header delimiters rows) (e
    ∙ ap (λ (o : Option Columns). is_some o) (sym (two_lines_begin header delimiters rows)))
  where
    at : (table : Option TableSource) → false ≡ is_some (option_map (λ (t : TableSource). t.columns) table) → None ≡ table
    at None f = refl
    at (Some table) f = absurd cc

some_source : (header delimiters : Text) (rows : List Text) → true ≡ is_some (columns_with header delimiters)
    → (source : TableSource) × (Some source ≡ table_with header delimiters rows)
some_source header delimiters rows e = at (table_with header delimiters rows) (e
    ∙ ap (λ (o : Option Columns). is_some o) (sym (two_lines_begin header delimiters rows)))
  where
    at : (table : Option TableSource) → true ≡ is_some (option_map (λ (t : TableSource). t.columns) table)
        → (source : TableSource) × (Some source ≡ table)
    at None f = absurd cc
    at (Some table) f = (table, refl)

passed_one : (passed : List Text) (header : Text) (found : Option Found)
    → behind_passed passed (found_by header None found) ≡ behind_passed (passed ++ header ∷ []) found
unfolding found_by
passed_one passed header None = refl
passed_one passed header (Some found) = ap (λ (l : List Text). Some (l, found.1)) (sym (append_assoc passed (header ∷ []) found.0))

pub at_next : (text before line header end next delimiters : Text) (rows : Option Text) → IsAt text before line → line ≡ header ++ end
    → Some next ≡ is 10 end → text_lines line ≡ header ∷ lines_in (is 10 end) → text_lines next ≡ delimiters ∷ lines_in rows
    → false ≡ is_some (columns_with header delimiters) → IsAt text end next
at_next text before line header end next delimiters rows at e f g h none =
    let lines : text_lines line ≡ header ∷ text_lines next = g ∙ ap (λ (o : Option Text). header ∷ lines_in o) (sym f) in
    let two : text_lines line ≡ header ∷ delimiters ∷ lines_in rows = lines ∙ ap (λ (l : List Text). header ∷ l) h in
    record {
      passed = at.passed ++ header ∷ [];
      found_is = at.found_is
          ∙ ap (behind_passed at.passed) (ap table_in two
          ∙ in_by header delimiters (lines_in rows) None (no_source header delimiters (lines_in rows) none)
          ∙ ap (λ (l : List Text). found_by header None (table_in l)) (sym h))
          ∙ passed_one at.passed header (table_in (text_lines next));
      split = split_further text before line header end at.passed at.split at.seam e;
      seam = seam_further at.passed header end next (feed_is end next f);
    }

one_is_none : (line : Text) → table_in (line ∷ []) ≡ None
unfolding table_in
one_is_none line = refl

pub not_found : (text before line : Text) (end : Text) (header : Text) → IsAt text before line → None ≡ is 10 end
    → text_lines line ≡ header ∷ lines_in (is 10 end) → table_in (text_lines text) ≡ None
not_found text before line end header at e g =
    at.found_is ∙ ap (behind_passed at.passed)
    (ap table_in (g ∙ ap (λ (o : Option Text). header ∷ lines_in o) (sym e)) ∙ one_is_none header)

-- its source is that of its lines
abbrev made_of : Text → List Text → Columns → TableSource
made_of header rows said = record {
  columns = said;
  header = cells_of_line header;
  rows = map (λ line. take (length said) (cells_of_line line)) rows;
}

source_by : (header : Text) (rows : List Text) (columns : Columns) (source : TableSource) (b : Bool)
    → Some source ≡ table_by header rows columns b → source ≡ made_of header rows columns
unfolding table_by
source_by header rows columns source true e = cc
source_by header rows columns source false e = absurd cc

source_at : (header delimiters : Text) (rows : List Text) (source : TableSource) (found : Option Columns)
    → alignments_of (cells_of_line delimiters) ≡ found → Some source ≡ table_among header rows found
    → source ≡ source_of header delimiters rows
unfolding table_among
source_at header delimiters rows source None e f = absurd cc
source_at header delimiters rows source (Some columns) e f =
    source_by header rows columns source (has_columns columns && (length (cells_of_line header) == length columns)) f
    ∙ ap (λ (said : Option Columns). made_of header rows (elim said [ Some found ↦ found | None ↦ [] ])) (sym e)

source_is : (header delimiters : Text) (rows : List Text) (source : TableSource) → Some source ≡ table_with header delimiters rows
    → source ≡ source_of header delimiters rows
unfolding table_with table_among table_by
source_is header delimiters rows source e = source_at header delimiters rows source (alignments_of (cells_of_line delimiters)) refl e

-- what is found
pub record IsFoundIn (text before header delimiters : Text) (rows : Option Text) : Type 0 where
  pub lines : List Text
  pub found_is : table_in (text_lines text) ≡ Some (lines, source_of header delimiters (lines_in rows))
  pub before_is : joined lines ≡ before

pub found_here : (text before line header end next delimiters front : Text) (rows : Option Text) → IsAt text before line
    → Some next ≡ is 10 end → text_lines line ≡ header ∷ lines_in (is 10 end) → text_lines next ≡ delimiters ∷ lines_in rows
    → true ≡ is_some (columns_with header delimiters) → text ≡ front ++ before → IsFoundIn text front header delimiters rows
unfolding found_by
found_here text before line header end next delimiters front rows at f g h some e =
    let source = some_source header delimiters (lines_in rows) some in
    let two : text_lines line ≡ header ∷ delimiters ∷ lines_in rows =
    g ∙ ap (λ (o : Option Text). header ∷ lines_in o) (sym f) ∙ ap (λ (l : List Text). header ∷ l) h in
    record {
      lines = at.passed;
      found_is = at.found_is
          ∙ ap (behind_passed at.passed) (ap table_in two ∙ in_by header delimiters (lines_in rows) (Some source.0) source.1)
          ∙ ap (λ (l : List Text). Some (l, source.0)) (append-nil at.passed)
          ∙ ap (λ (t : TableSource). Some (at.passed, t)) (source_is header delimiters (lines_in rows) source.0 source.1);
      before_is = append_cancel_right (joined at.passed) front before (sym at.split ∙ e);
    }

-- ---- what more lines change

split_last : (line : Text) (lines : List Text) → (front : List Text) × (line ∷ lines ≡ front ++ last_of (line ∷ lines) ∷ [])
unfolding last_of
split_last line [] = ([], refl)
split_last line (next ∷ more) =
    let found = split_last next more in
    (line ∷ found.0, ap (λ (l : List Text). line ∷ l) found.1)

pub grows_by_texts : GrowsByTexts
unfolding has_table
grows_by_texts text more =
    let some = some_lines text in
    let last : Text = last_line text in
    let found = split_last some.0 some.1 in
    let whole : text_lines text ≡ found.0 ++ last ∷ [] =
    some.2 ∙ found.1 ∙ ap (λ (l : List Text). found.0 ++ last_of l ∷ []) (sym some.2) in
    ap (λ (l : List Text). is_some (table_in l)) (lines_join text more ∙ ap (λ (l : List Text). l ++ text_lines more) whole
    ∙ append_assoc found.0 (last ∷ []) (text_lines more))
    ∙ grows_by_lines found.0 last (text_lines more)
    ∙ ap (λ (l : List Text). is_some (table_in l) || is_some (table_in (last ∷ text_lines more))) (sym whole)

-- ---- fewer is left

pub next_is_shorter : (line header end next : Text) → line ≡ header ++ end → Some next ≡ is 10 end → length next < length line
next_is_shorter line header end next e f =
    let feed : end ≡ 10 ∷ next = feed_is end next f in
    let size : length (header ++ end) ≡ length header + length end = length-append header end in
    let one : length end ≡ suc (length next) = ap (λ (t : Text). length t) feed in
    rw e (omega (arith, size, one))

-- ---- what the search says

pub found_tells : {A : Type 0} (found : Option A) (table : Option Found) (P : A → Type 0)
    → MatchOption found (table ≡ None) P → ((a : A) → P a → is_some table ≡ true) → is_some found ≡ is_some table
found_tells None table P h some = sym (ap (λ (t : Option Found). is_some t) h)
found_tells (Some a) table P h some = sym (some a h)
