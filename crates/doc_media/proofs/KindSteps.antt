-- A kind is sought row by row.
use Rattle.std.proofs.Common.{◌≡◌, ℕ, ◌+◌, ◌<◌, List, Bool, true, false, Some, length, get_or, drop, sym, ap, ◌∙◌, Bor}
use Rattle.std.specs.Str.{str_eq_ignore_ascii_case}
use Rattle.std.proofs.lemmas.Bool.{cond-true, cond-false}
use Rattle.std.proofs.lemmas.List.{drop_more}
use Rattle.doc_media.specs.declared.kind.MediaKind.{MediaKind}
use Rattle.doc_media.specs.Kinds.{kind_in, rows_of}

module _ (rows : List (Bor (List ℕ) × MediaKind)) (extension : List ℕ) (i : ℕ) (none : Bor (List ℕ) × MediaKind) (test : Bool)
    (so_far : kind_in (rows_of rows) extension ≡ kind_in (rows_of (drop i rows)) extension) (within : i < length rows)
    (tested : test ≡ str_eq_ignore_ascii_case extension (get_or rows i none).0.now) where
  pub kind_found : test ≡ true → Some (get_or rows i none).1 ≡ kind_in (rows_of rows) extension
  kind_found is =
      sym (so_far ∙ ap (λ l. kind_in (rows_of l) extension) (drop_more rows i none within) ∙ cond-true _ _ _ (sym tested ∙ is))

  pub kind_not_found : test ≡ false → kind_in (rows_of rows) extension ≡ kind_in (rows_of (drop (i + 1) rows)) extension
  kind_not_found is =
      so_far ∙ ap (λ l. kind_in (rows_of l) extension) (drop_more rows i none within) ∙ cond-false _ _ _ (sym tested ∙ is)
