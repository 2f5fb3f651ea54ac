-- Folders in which a page is begun.
use Rattle.std.proofs.Common.{◌≡◌, ℕ, ◌<◌, List, [], ◌∷◌, ◌++◌, length, take, Bool, true, false, arith, refl, ap, suc, sym, ◌∙◌, subst}
use Rattle.std.specs.Prelude.{◌-◌, ◌&&◌, slice_get, Option, Some, None, if◌then◌else◌}
use Rattle.std.specs.List.{list_any, slice_split}
use Rattle.std.specs.Str.{is_utf8}
use Rattle.std.proofs.Math.Seq.{take-length, take-suc}
use Rattle.std.proofs.lemmas.Bool.Decides.{nat_tests}
use Rattle.std.proofs.lemmas.Option.{get_or_from_slice_get, slice_get_within}
use Rattle.doc_http_targets.specs.WrittenFolders.{folder_written, holds_slash, if_folder, is_slash, is_slash_at, with_slashes, without_last}

abbrev pub ends : List ℕ → Bool
ends text = is_slash_at (slice_get text (length text - 1))

-- what ends in a slash is what stands before it, and the slash
ending_by : (text : List ℕ) (last : Option ℕ) → slice_get text (length text - 1) ≡ last → is_slash_at last ≡ true
    → (front : List ℕ) × (text ≡ front ++ (47 ∷ []))
ending_by text None at is = absurd (no is)
  where
    no : false ≡ true → ⊥
    no h = cc
ending_by text (Some b) at is =
    let within : length text - 1 < length text = slice_get_within text (length text - 1) b at in
    let slash : b ≡ 47 = grind (arith, nat_tests, is) in
    let more : length text ≡ suc (length text - 1) = omega arith in (
      take (length text - 1) text,
      sym (take-length text) ∙ ap (λ n. take n text) more ∙ take-suc text (length text - 1) 0 within
          ∙ ap (λ d. take (length text - 1) text ++ (d ∷ [])) (get_or_from_slice_get text (length text - 1) b 0 at ∙ slash),
    )

pub ending : (text : List ℕ) → ends text ≡ true → (front : List ℕ) × (text ≡ front ++ (47 ∷ []))
ending text is = ending_by text (slice_get text (length text - 1)) refl is

-- a folder that is written ends in a slash
folder_by : (text folder : List ℕ) (utf8 slash : Bool) → ends text ≡ slash → (if utf8 && slash then Some text else None) ≡ Some folder
    → ends folder ≡ true
folder_by text folder true true is some = let same : text ≡ folder = cc in subst (λ t. ends t ≡ true) same is
folder_by text folder true false is some = cc
folder_by text folder false slash is some = cc

parts_by : (text folder : List ℕ) (holds : Bool) → (if holds then None else if_folder text) ≡ Some folder → ends folder ≡ true
parts_by text folder true some = cc
parts_by text folder false some = folder_by text folder (is_utf8 text) (ends text) refl some

pub folder_ends : (written folder : List ℕ) → Some folder ≡ folder_written written → ends folder ≡ true
unfolding folder_written
folder_ends written folder is =
    let parts = slice_split is_slash written in
    parts_by (without_last (with_slashes parts)) folder (list_any holds_slash parts) (sym is)
