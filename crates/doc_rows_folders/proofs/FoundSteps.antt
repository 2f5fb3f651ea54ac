-- What looks into rows find, as what stands in a folder.
use Rattle.std.proofs.Common.{◌≡◌, ℕ, List, ap, sym, ◌∙◌, true}
use Rattle.std.specs.Prelude.{Option, Some, Result, Ok, Err, IfOk}
use Rattle.doc_people.specs.Folders.{keys}
use Rattle.doc_people.specs.Views.{paths}
use Rattle.doc_people.proofs.KeyLaws.{paths_rise}
use Rattle.doc_store_readers.specs.Sites.{Site, view_of}
use Rattle.doc_store_readers.specs.declared.reader.Reader.{Reader}
use Rattle.doc_rows.specs.Looks.{first_from, last_before}
use Rattle.doc_rows_folders.specs.Starts.{first_start, is_whole, key_found, last_start}
use Rattle.doc_rows_folders.proofs.FolderLaws.{first_key_is, last_key_is}

module _ {E : Type 0} (site : Site) (reader : Reader) (folder text start : List ℕ) (seen : Option (List ℕ)) where
  pub first_is_found : (result : Result (Option (List ℕ)) E) → start ≡ first_start folder text
      → seen ≡ first_from start (paths (view_of site (Some reader))) → IfOk result (λ key. key ≡ key_found folder seen)
      → IfOk result (λ found. found ≡ first_from text (keys (view_of site (Some reader)) folder))
  first_is_found (Ok key) at look is =
      is ∙ ap (key_found folder) (look ∙ ap (λ s. first_from s (paths (view_of site (Some reader)))) at)
      ∙ sym (first_key_is (view_of site (Some reader)) folder text (paths_rise site (Some reader)))
  first_is_found (Err e) at look is = is

  pub last_is_found : (result : Result (Option (List ℕ)) E) → is_whole folder ≡ true → start ≡ last_start folder text
      → seen ≡ last_before start (paths (view_of site (Some reader))) → IfOk result (λ key. key ≡ key_found folder seen)
      → IfOk result (λ found. found ≡ last_before text (keys (view_of site (Some reader)) folder))
  last_is_found (Ok key) whole at look is =
      is ∙ ap (key_found folder) (look ∙ ap (λ s. last_before s (paths (view_of site (Some reader)))) at)
      ∙ sym (last_key_is (view_of site (Some reader)) folder text (paths_rise site (Some reader)) whole)
  last_is_found (Err e) whole at look is = is
