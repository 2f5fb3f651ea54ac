-- The columns of a delimiter row, one cell after the other.
use Rattle.std.proofs.Common.{◌≡◌, ℕ, Bool, true, false, ◌==◌, List, [], ◌∷◌, ◌++◌, refl, ap, sym, ◌∙◌, Option, Some, None, length}
use Rattle.std.proofs.Common.{arith, ◌+◌, ◌<◌, ◌≤◌, append_assoc, length-append}
use Rattle.std.specs.Prelude.{◌&&◌, nat_le, map, take, option_map, option_and_then}
use Rattle.std.proofs.lemmas.Bool.Decides.{nat_tests}
use Rattle.std.proofs.lemmas.List.{append-nil}
use Rattle.doc_rules.specs.Characters.{Text}
use Rattle.doc_rules.specs.declared.alignment.Alignment.{Alignment}
use Rattle.doc_tables.specs.ColumnSteps.{some_columns, columns_of, columns_with}
use Rattle.doc_rules.specs.Tables.{alignment_of, alignments_of, has_columns, cells_of_line, TableSource, table_with}

abbrev pub Columns : Type 0
Columns = List Alignment

-- what is made already, before what is left
abbrev pub behind_made : Columns → Option Columns → Option Columns
behind_made made left = option_map (λ (t : Columns). made ++ t) left

-- ---- how many

many_by : (n : ℕ) (x y : Bool) → x ≡ nat_le 1 n → y ≡ nat_le n 100 → 100 < n → (x && y) ≡ false
many_by n true true e f g = absurd (grind (arith, nat_tests))
many_by n true false e f g = refl
many_by n false y e f g = refl

few_by : (n : ℕ) (x y : Bool) → x ≡ nat_le 1 n → y ≡ nat_le n 100 → 0 < n → n ≤ 100 → (x && y) ≡ true
few_by n true true e f g h = refl
few_by n true false e f g h = absurd (grind (arith, nat_tests))
few_by n false y e f g h = absurd (grind (arith, nat_tests))

abbrev pub columns_by : Columns → Bool → Option Columns
columns_by columns b = elim b [ true ↦ Some columns | false ↦ None ]

too_many : (columns : Columns) → 100 < length columns → some_columns columns ≡ None
unfolding has_columns
too_many columns g =
    ap (columns_by columns) (many_by (length columns) (nat_le 1 (length columns)) (nat_le (length columns) 100) refl refl g)

enough : (columns : Columns) → 0 < length columns → length columns ≤ 100 → some_columns columns ≡ Some columns
unfolding has_columns
enough columns g h =
    ap (columns_by columns) (few_by (length columns) (nat_le 1 (length columns)) (nat_le (length columns) 100) refl refl g h)

-- ---- cell by cell

pub none_made : (made : Columns) (cells whole : List Text) → made ≡ [] → cells ≡ whole
    → columns_of whole ≡ option_and_then some_columns (behind_made made (alignments_of cells))
none_made made cells whole e f =
    at (alignments_of whole) ∙ ap (λ (m : Columns). option_and_then some_columns (behind_made m (alignments_of whole))) (sym e)
    ∙ ap (λ (l : List Text). option_and_then some_columns (behind_made made (alignments_of l))) (sym f)
  where
    at : (o : Option Columns) → option_and_then some_columns o ≡ option_and_then some_columns (behind_made [] o)
    at None = refl
    at (Some columns) = refl

alignments_by : Option Alignment → Option Columns → Option Columns
alignments_by found more = elim found [ None ↦ None | Some one ↦ option_map (λ rest. one ∷ rest) more ]

first_of : (cells more : List Text) (cell : Text) (found : Option Alignment) → cells ≡ cell ∷ more → found ≡ alignment_of cell
    → alignments_of cells ≡ alignments_by found (alignments_of more)
unfolding alignments_of alignments_by
first_of cells more cell found e f = ap alignments_of e ∙ ap (λ (o : Option Alignment). alignments_by o (alignments_of more)) (sym f)

pub no_more : (made : Columns) (whole : Option Columns) (cells more : List Text) (cell : Text)
    → whole ≡ option_and_then some_columns (behind_made made (alignments_of cells)) → cells ≡ cell ∷ more → length made ≡ 100 → None ≡ whole
unfolding alignments_by
no_more made whole cells more cell same e f =
    sym (same
    ∙ ap (λ (o : Option Columns). option_and_then some_columns (behind_made made o)) (first_of cells more cell (alignment_of cell) e refl)
    ∙ at (alignment_of cell) (alignments_of more))
  where
    at : (found : Option Alignment) (rest : Option Columns)
        → option_and_then some_columns (behind_made made (alignments_by found rest)) ≡ None
    at None rest = refl
    at (Some one) None = refl
    at (Some one) (Some rest) =
        let size : length (made ++ one ∷ rest) ≡ length made + length (one ∷ rest) = length-append made (one ∷ rest) in
        too_many (made ++ one ∷ rest) (omega (arith, size, f))

pub not_one : (made : Columns) (whole : Option Columns) (cells more : List Text) (cell : Text)
    → whole ≡ option_and_then some_columns (behind_made made (alignments_of cells)) → cells ≡ cell ∷ more → None ≡ alignment_of cell
    → None ≡ whole
unfolding alignments_by
not_one made whole cells more cell same e f =
    sym (same ∙ ap (λ (o : Option Columns). option_and_then some_columns (behind_made made o)) (first_of cells more cell None e f))

pub one_more : (made made' : Columns) (one : Alignment) (whole : Option Columns) (cells more : List Text) (cell : Text)
    → whole ≡ option_and_then some_columns (behind_made made (alignments_of cells)) → cells ≡ cell ∷ more → Some one ≡ alignment_of cell
    → made' ≡ made ++ one ∷ [] → whole ≡ option_and_then some_columns (behind_made made' (alignments_of more))
unfolding alignments_by
one_more made made' one whole cells more cell same e f g =
    same ∙ ap (λ (o : Option Columns). option_and_then some_columns (behind_made made o)) (first_of cells more cell (Some one) e f)
    ∙ ap (option_and_then some_columns) (at (alignments_of more))
    ∙ ap (λ (m : Columns). option_and_then some_columns (behind_made m (alignments_of more))) (sym g)
  where
    at : (rest : Option Columns) → behind_made made (alignments_by (Some one) rest) ≡ behind_made (made ++ one ∷ []) rest
    at None = refl
    at (Some columns) = ap Some (sym (append_assoc made (one ∷ []) columns))

all_by : (made : Columns) (whole : Option Columns) (cells : List Text)
    → whole ≡ option_and_then some_columns (behind_made made (alignments_of cells)) → cells ≡ [] → whole ≡ some_columns made
unfolding alignments_of
all_by made whole cells same e =
    same ∙ ap (λ (l : List Text). option_and_then some_columns (behind_made made (alignments_of l))) e
    ∙ ap some_columns (append-nil made)

pub all_made : (made : Columns) (whole : Option Columns) (cells : List Text)
    → whole ≡ option_and_then some_columns (behind_made made (alignments_of cells)) → cells ≡ [] → 0 < length made → length made ≤ 100
    → Some made ≡ whole
all_made made whole cells same e f g = sym (all_by made whole cells same e ∙ enough made f g)

pub none_at_all : (made : Columns) (whole : Option Columns) (cells : List Text)
    → whole ≡ option_and_then some_columns (behind_made made (alignments_of cells)) → cells ≡ [] → length made ≡ 0 → None ≡ whole
unfolding has_columns
none_at_all [] whole cells same e f = sym (all_by [] whole cells same e)
none_at_all (one ∷ made) whole cells same e f = absurd (omega (arith, f))

-- ---- with a header

unfoldable pub table_by : Text → List Text → Columns → Bool → Option TableSource
table_by header rows columns b = elim b [
  | false ↦ None
  | true ↦ Some (record {
    columns = columns;
    header = cells_of_line header;
    rows = map (λ line. take (length columns) (cells_of_line line)) rows;
  })
]

unfoldable pub table_among : Text → List Text → Option Columns → Option TableSource
table_among header rows found = elim found [
  | None ↦ None
  | Some columns ↦ table_by header rows columns (has_columns columns && (length (cells_of_line header) == length columns))
]

abbrev pub columns_in : Option TableSource → Option Columns
columns_in table = option_map (λ (t : TableSource). t.columns) table

begins : (header : Text) (columns : Columns) (x y : Bool) → columns_in (table_by header [] columns (x && y))
    ≡ option_and_then (λ (found : Columns). columns_by found y) (columns_by columns x)
unfolding table_by
begins header columns true true = refl
begins header columns true false = refl
begins header columns false y = refl

columns_of_table : (header delimiters : Text)
    → columns_with header delimiters ≡ columns_in (table_among header [] (alignments_of (cells_of_line delimiters)))
unfolding table_with table_among table_by
columns_of_table header delimiters = refl

-- no delimiter row, and so no table
pub no_row : (header delimiters : Text) → None ≡ columns_of (cells_of_line delimiters) → None ≡ columns_with header delimiters
unfolding table_among
no_row header delimiters e = sym (columns_of_table header delimiters ∙ at (alignments_of (cells_of_line delimiters)) e)
  where
    at : (found : Option Columns) → None ≡ option_and_then some_columns found → columns_in (table_among header [] found) ≡ None
    at None f = refl
    at (Some columns) f = of (has_columns columns) f
      where
        of : (x : Bool) → None ≡ columns_by columns x
            → columns_in (table_by header [] columns (x && (length (cells_of_line header) == length columns))) ≡ None
        of true g = absurd cc
        of false g = begins header columns false true

-- a delimiter row, with as many cells as the header or not
pub row_is : (header delimiters : Text) (columns : Columns) (n : ℕ) (y : Bool) → Some columns ≡ columns_of (cells_of_line delimiters)
    → n ≡ length columns → y ≡ (length (cells_of_line header) == n) → columns_by columns y ≡ columns_with header delimiters
unfolding table_among
row_is header delimiters columns n y e size f = sym (columns_of_table header delimiters ∙ at (alignments_of (cells_of_line delimiters)) e)
  where
    at : (found : Option Columns) → Some columns ≡ option_and_then some_columns found
        → columns_in (table_among header [] found) ≡ columns_by columns y
    at None g = absurd cc
    at (Some others) g = of (has_columns others) g
      where
        of : (x : Bool) → Some columns ≡ columns_by others x
            → columns_in (table_by header [] others (x && (length (cells_of_line header) == length others))) ≡ columns_by columns y
        of true h =
            let same : columns ≡ others = cc in
            begins header others true (length (cells_of_line header) == length others)
            ∙ ap (λ (c : Columns). columns_by c (length (cells_of_line header) == length c)) (sym same)
            ∙ ap (columns_by columns) (sym (f ∙ ap (λ (m : ℕ). length (cells_of_line header) == m) size))
        of false h = absurd cc

-- ---- columns that are counted alone

abbrev pub size_of : Option Columns → Option ℕ
size_of columns = option_map (λ (c : Columns). length c) columns

-- so many columns are made already, of these in all, before what is left
pub record AreCounted (whole left : Option Columns) (count : ℕ) : Type 0 where
  pub made : Columns
  pub size : length made ≡ count
  pub same : whole ≡ option_and_then some_columns (behind_made made left)

pub none_counted : (cells whole : List Text) → cells ≡ whole → AreCounted (columns_of whole) (alignments_of cells) 0
none_counted cells whole e = record { made = []; size = refl; same = none_made [] cells whole refl e }

pub one_counted : (one : Alignment) (whole : Option Columns) (cells more : List Text) (cell : Text) (n m : ℕ)
    → AreCounted whole (alignments_of cells) n → cells ≡ cell ∷ more → Some one ≡ alignment_of cell → m ≡ n + 1
    → AreCounted whole (alignments_of more) m
one_counted one whole cells more cell n m h e f g =
    let size : length (h.made ++ one ∷ []) ≡ length h.made + length (one ∷ []) = length-append h.made (one ∷ []) in
    record {
      made = h.made ++ one ∷ [];
      size = omega (arith, size, h.size, g);
      same = one_more h.made (h.made ++ one ∷ []) one whole cells more cell h.same e f refl;
    }

pub full_count : (whole : Option Columns) (cells more : List Text) (cell : Text) (n : ℕ)
    → AreCounted whole (alignments_of cells) n → cells ≡ cell ∷ more → n ≡ 100 → None ≡ size_of whole
full_count whole cells more cell n h e f = ap size_of (no_more h.made whole cells more cell h.same e (h.size ∙ f))

pub no_count : (whole : Option Columns) (cells more : List Text) (cell : Text) (n : ℕ)
    → AreCounted whole (alignments_of cells) n → cells ≡ cell ∷ more → None ≡ alignment_of cell → None ≡ size_of whole
no_count whole cells more cell n h e f = ap size_of (not_one h.made whole cells more cell h.same e f)

pub none_to_count : (whole : Option Columns) (cells : List Text) (n : ℕ) → AreCounted whole (alignments_of cells) n → cells ≡ [] → n ≡ 0
    → None ≡ size_of whole
none_to_count whole cells n h e f = ap size_of (none_at_all h.made whole cells h.same e (h.size ∙ f))

pub all_counted : (whole : Option Columns) (cells : List Text) (n : ℕ) → AreCounted whole (alignments_of cells) n → cells ≡ [] → 0 < n
    → n ≤ 100 → Some n ≡ size_of whole
all_counted whole cells n h e f g =
    ap Some (sym h.size) ∙ ap size_of (all_made h.made whole cells h.same e (omega (arith, h.size, f)) (omega (arith, h.size, g)))
