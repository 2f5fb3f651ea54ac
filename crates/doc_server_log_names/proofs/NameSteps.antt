-- Rows that are added one after the other.
use Rattle.std.proofs.Common.{◌≡◌, ◌+◌, ℕ, List, Bool, true, false, cond, bytes_eq, is_some, refl, ap, sym, ◌∙◌}
use Rattle.std.specs.Prelude.{Option, Some, None, option_copied, if◌then◌else◌}
use Rattle.std.specs.Borrow.{Bor}
use Rattle.std.specs.FinMap as map
use Rattle.std.specs.Cmp.Lexicographic.{slice_cmp, texts_ties}
use Rattle.std.specs.Ordering.{nat_cmp, eq_by_cmp}
use Rattle.std.specs.Option.{option_or}
use Rattle.std.proofs.lemmas.Cmp.{nat_list_cmp_total}
use Rattle.std.proofs.lemmas.Slice.Eq.{bytes_eq-Decides}
use Rattle.toml.specs.Data.{Data, Items}
use Rattle.doc_server_log_names.specs.declared.listed.ListedReader.{ListedReader}
use Rattle.doc_server_log_names.specs.Names.{AreNamesIn, IsWithRow, NameTable, digest_in, first_with, is_digest, name_in, row_with, rows_of}

none_more : {A : Type 0} (o : Option A) → o ≡ option_or o None
none_more None = refl
none_more (Some x) = refl

none_or : {A : Type 0} (o more : Option A) → is_some o ≡ false → more ≡ option_or o more
none_or None more h = refl
none_or (Some x) more h = absurd (cc)

abbrev pub listed_as : ℕ → Option (List ℕ) → ListedReader
listed_as n name = record { row = n; name = name }

abbrev pub listed : ℕ → Data → ListedReader
listed n row = listed_as n (name_in row)

-- a row of this digest, at another one or at the same
row_by : (n : ℕ) (row : Data) (own digest : List ℕ) → digest_in row ≡ Some own
    → row_with digest n row ≡ (if bytes_eq digest own then Some (listed n row) else None)
row_by n row own digest is = ap (λ found. if is_digest digest found then Some (listed n row) else None) is

-- another one is added
pub row_added : (old : NameTable) (n : ℕ) (row : Data) (own : List ℕ) → digest_in row ≡ Some own → is_some (map.get old own) ≡ false
    → IsWithRow old n row (map.insert old own (listed n row))
row_added old n row own is lacking digest =
    map.get-insert nat_list_cmp_total old own (listed n row) digest
    ∙ ap (λ b. cond b (Some (listed n row)) (map.get old digest)) (sym (texts_ties digest own))
    ∙ by (bytes_eq digest own) refl ∙ ap (option_or (map.get old digest)) (sym (row_by n row own digest is))
  where
    by : (b : Bool) → bytes_eq digest own ≡ b
        → cond b (Some (listed n row)) (map.get old digest)
        ≡ option_or (map.get old digest) (if b then Some (listed n row) else None)
    by true same = none_or (map.get old digest) (Some (listed n row))
        (ap (λ d. is_some (map.get old d)) ((bytes_eq-Decides digest own).0 same) ∙ lacking)
    by false other = none_more (map.get old digest)

-- what stands, and behind it the rows that are left, are all rows
abbrev pub Reached : NameTable → ℕ → Items → Items → Type 0
Reached names n left rows = (digest : List ℕ) → option_or (map.get names digest) (first_with digest n left) ≡ first_with digest 1 rows

pub reached_first : (names : NameTable) (rows : Items) → names ≡ map.empty → Reached names 1 rows rows
reached_first names rows none digest =
    ap (λ (names : NameTable). option_or (map.get names digest) (first_with digest 1 rows)) none
    ∙ ap (λ found. option_or found (first_with digest 1 rows)) (map.get-empty (slice_cmp nat_cmp) digest)

-- without rows nothing stands
pub no_rows : (names : NameTable) (tables : Option Items) → names ≡ map.empty → None ≡ tables → AreNamesIn (rows_of tables) names
no_rows names tables none is digest =
    ap (λ (names : NameTable). map.get names digest) none ∙ map.get-empty (slice_cmp nat_cmp) digest
    ∙ ap (λ tables. first_with digest 1 (rows_of tables)) is

-- what isn't found doesn't stand
pub lacks : (found : Option (Bor ListedReader)) (known : Option ListedReader) → option_copied found ≡ known → is_some found ≡ false
    → is_some known ≡ false
lacks None known is absent = ap is_some (sym is)
lacks (Some x) known is absent = absurd (cc)
