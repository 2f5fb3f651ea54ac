-- Texts that are written for looks, by their parts around a slash.
use Rattle.std.proofs.Common.{◌≡◌, ◌≢◌, ℕ, suc, ◌<◌, ◌-◌, List, [], ◌∷◌, ◌++◌, length, get_or, take, drop, Bool, true, false}
use Rattle.std.proofs.Common.{refl, ap, sym, ◌∙◌, arith, append_assoc, eqb-true}
use Rattle.std.specs.Prelude.{◌==◌, Option, Some, None, Result, Ok, Err, IfOk, MatchOption, option_copied, if◌then◌else◌}
use Rattle.std.specs.Borrow.{Bor}
use Rattle.std.specs.Str.Pattern.{FindsTextPrefix, StripsPrefix}
use Rattle.std.proofs.lemmas.Bool.{true≢false}
use Rattle.std.proofs.lemmas.Option.{none-some, same_Some}
use Rattle.std.proofs.lemmas.Str.Pattern.{starts_text}
use Rattle.doc_page_parts.specs.Pages.{is_empty}
use Rattle.doc_people.specs.Folders.{is_below, is_slash, key, through_slash}
use Rattle.doc_people.specs.Navigation.{is_before}
use Rattle.doc_rows_folders.proofs.FolderLaws.{below_more}
use Rattle.doc_rows_folders.specs.Starts.{end_of, ends_in_slash, first_start, is_whole, key_found, last_start, rest_below, start_below, start_in}

-- no byte is a slash
abbrev pub HasNone : List ℕ → Type 0
HasNone text = (i : ℕ) → i < length text → get_or text i 0 ≢ 47

no_slash : (b : ℕ) → b ≢ 47 → is_slash b ≡ false
no_slash b differs = by (is_slash b) refl
  where
    by : (s : Bool) → is_slash b ≡ s → s ≡ false
    by true e = absurd (differs (eqb-true b 47 e))
    by false e = refl

first_is_none : (b : ℕ) (rest : List ℕ) → HasNone (b ∷ rest) → is_slash b ≡ false
first_is_none b rest none = no_slash b (none 0 (omega arith))

rest_has_none : (b : ℕ) (rest : List ℕ) → HasNone (b ∷ rest) → HasNone rest
rest_has_none b rest none = λ i within. none (suc i) (omega arith)

pub part_of_none : (text : List ℕ) → HasNone text → through_slash text ≡ text
part_of_none [] none = refl
part_of_none (b ∷ rest) none =
    ap (λ s. b ∷ (if s then [] else through_slash rest)) (first_is_none b rest none)
    ∙ ap (λ t. b ∷ t) (part_of_none rest (rest_has_none b rest none))

pub part_of_split : (before behind : List ℕ) → HasNone before → through_slash (before ++ 47 ∷ behind) ≡ before ++ 47 ∷ []
part_of_split [] behind none = refl
part_of_split (b ∷ before) behind none =
    ap (λ s. b ∷ (if s then [] else through_slash (before ++ 47 ∷ behind))) (first_is_none b before none)
    ∙ ap (λ t. b ∷ t) (part_of_split before behind (rest_has_none b before none))

abbrev start_by : Bool → ℕ → List ℕ → List ℕ
start_by s b rest = if s then (if is_empty rest then b ∷ [] else 48 ∷ []) else b ∷ start_in rest

pub start_of_none : (text : List ℕ) → HasNone text → start_in text ≡ text
start_of_none [] none = refl
start_of_none (b ∷ rest) none =
    ap (λ s. start_by s b rest) (first_is_none b rest none) ∙ ap (λ t. b ∷ t) (start_of_none rest (rest_has_none b rest none))

pub start_at_end : (before : List ℕ) → HasNone before → start_in (before ++ 47 ∷ []) ≡ before ++ 47 ∷ []
start_at_end [] none = refl
start_at_end (b ∷ before) none =
    ap (λ s. start_by s b (before ++ 47 ∷ [])) (first_is_none b before none)
    ∙ ap (λ t. b ∷ t) (start_at_end before (rest_has_none b before none))

pub start_of_split : (before : List ℕ) (c : ℕ) (behind : List ℕ) → HasNone before
    → start_in (before ++ 47 ∷ c ∷ behind) ≡ before ++ 48 ∷ []
start_of_split [] c behind none = refl
start_of_split (b ∷ before) c behind none =
    ap (λ s. start_by s b (before ++ 47 ∷ c ∷ behind)) (first_is_none b before none)
    ∙ ap (λ t. b ∷ t) (start_of_split before c behind (rest_has_none b before none))

-- ---- what stands in a folder

found_by : (folder part rest : List ℕ) (b : Bool) → Some rest ≡ (if b then Some part else None)
    → Some (folder ++ through_slash rest) ≡ (if b then Some (folder ++ through_slash part) else None)
found_by folder part rest true e = ap (λ t. Some (folder ++ through_slash t)) (same_Some rest part e)
found_by folder part rest false e = absurd (none-some rest (sym e))

pub found_some : (folder path rest : List ℕ) → Some rest ≡ rest_below folder path
    → Some (folder ++ through_slash rest) ≡ key_found folder (Some path)
found_some folder path rest e = found_by folder (drop (length folder) path) rest (is_below folder path) e

none_by : (part : List ℕ) (b : Bool) → None ≡ (if b then Some part else None) → b ≡ false
none_by part true e = absurd (none-some part e)
none_by part false e = refl

pub outside : (folder text : List ℕ) → rest_below folder text ≡ None → is_below folder text ≡ false
outside folder text e = none_by (drop (length folder) text) (is_below folder text) (sym e)

pub found_none : (folder path : List ℕ) → None ≡ rest_below folder path → None ≡ key_found folder (Some path)
found_none folder path e = ap (λ b. if b then Some (key folder path) else None) (sym (outside folder path (sym e)))

-- ---- texts to look from

inside_by : (folder part rest other : List ℕ) (b : Bool) → Some rest ≡ (if b then Some part else None)
    → folder ++ start_in rest ≡ (if b then folder ++ start_in part else other)
inside_by folder part rest other true e = ap (λ t. folder ++ start_in t) (same_Some rest part e)
inside_by folder part rest other false e = absurd (none-some rest (sym e))

module _ (folder text : List ℕ) where
  pub first_inside : (rest : List ℕ) → Some rest ≡ rest_below folder text → folder ++ start_in rest ≡ first_start folder text
  first_inside rest e =
      inside_by folder (drop (length folder) text) rest (if is_before text folder then folder else text) (is_below folder text) e

  pub last_inside : (rest : List ℕ) → Some rest ≡ rest_below folder text → folder ++ start_in rest ≡ last_start folder text
  last_inside rest e =
      inside_by folder (drop (length folder) text) rest (if is_before text folder then folder else end_of folder) (is_below folder text) e

  module _ (none : rest_below folder text ≡ None) where
    pub first_before : is_before text folder ≡ true → folder ≡ first_start folder text
    first_before less =
        ap (λ b. if b then folder else text) (sym less)
        ∙ ap (λ b. if b then start_below folder text else (if is_before text folder then folder else text)) (sym (outside folder text none))

    pub first_behind : is_before text folder ≡ false → text ≡ first_start folder text
    first_behind more =
        ap (λ b. if b then folder else text) (sym more)
        ∙ ap (λ b. if b then start_below folder text else (if is_before text folder then folder else text)) (sym (outside folder text none))

    pub last_in_front : is_before text folder ≡ true → folder ≡ last_start folder text
    last_in_front less =
        ap (λ b. if b then folder else end_of folder) (sym less)
        ∙ ap (λ b. if b then start_below folder text else (if is_before text folder then folder else end_of folder))
        (sym (outside folder text none))

    pub last_behind : is_before text folder ≡ false → end_of folder ≡ last_start folder text
    last_behind more =
        ap (λ b. if b then folder else end_of folder) (sym more)
        ∙ ap (λ b. if b then start_below folder text else (if is_before text folder then folder else end_of folder))
        (sym (outside folder text none))

-- ---- the end of a folder

pub end_is : (name : List ℕ) → name ++ 48 ∷ [] ≡ end_of (name ++ 47 ∷ [])
end_is [] = refl
end_is (b ∷ []) = refl
end_is (b ∷ c ∷ name) = ap (λ t. b ∷ t) (end_is (c ∷ name))

pub ends_there : (name : List ℕ) → ends_in_slash (name ++ 47 ∷ []) ≡ true
ends_there [] = refl
ends_there (b ∷ []) = refl
ends_there (b ∷ c ∷ name) = ends_there (c ∷ name)

pub ending : (folder : List ℕ) → ends_in_slash folder ≡ true → (name : List ℕ) × (folder ≡ name ++ 47 ∷ [])
ending [] ends = absurd (true≢false (sym ends))
ending (b ∷ []) ends = ([], ap (λ c. c ∷ []) (eqb-true b 47 ends))
ending (b ∷ c ∷ folder) ends = let more = ending (c ∷ folder) ends in (b ∷ more.0, ap (λ t. b ∷ t) more.1)

-- a text outside of a whole folder: that isn't the empty one
pub whole_ends : (folder text : List ℕ) → rest_below folder text ≡ None → is_whole folder ≡ true → ends_in_slash folder ≡ true
whole_ends [] text none whole = absurd (true≢false (outside [] text none))
whole_ends (b ∷ folder) text none whole = whole

whole_there : (name : List ℕ) → is_whole (name ++ 47 ∷ []) ≡ true
whole_there [] = refl
whole_there (b ∷ name) = ends_there (b ∷ name)

pub whole_by : (folder : List ℕ) (r : Bool) → (length folder == 0) ≡ false
    → (r ≡ true → folder ≡ take (length folder - 1) folder ++ 47 ∷ []) × ((front : List ℕ) → folder ≡ front ++ 47 ∷ [] → r ≡ true)
    → r ≡ is_whole folder
whole_by [] r some facts = absurd (true≢false some)
whole_by (b ∷ folder) true some facts = sym (ap is_whole (facts.0 refl) ∙ whole_there (take (length (b ∷ folder) - 1) (b ∷ folder)))
whole_by (b ∷ folder) false some facts = by (ends_in_slash (b ∷ folder)) refl
  where
    by : (e : Bool) → ends_in_slash (b ∷ folder) ≡ e → false ≡ e
    by true e = let end = ending (b ∷ folder) e in facts.1 end.0 end.1
    by false e = refl

-- what is stripped off a text
pub stripped : (folder text : List ℕ) (r : Option (Bor (List ℕ))) → MatchOption r (FindsTextPrefix folder text None)
    (λ x. StripsPrefix (FindsTextPrefix folder) text x.now) → option_copied r ≡ rest_below folder text
stripped folder text None h =
    ap (λ b. if b then Some (drop (length folder) text) else None) (starts_text false folder text h)
stripped folder text (Some x) h =
    ap Some (h.2 ∙ ap (λ n. drop n text) h.1.0)
    ∙ ap (λ b. if b then Some (drop (length folder) text) else None)
    (sym (ap (is_below folder) h.1.1 ∙ below_more folder (drop h.0 text)))

pub start_at_slash : (before behind : List ℕ) → HasNone before → (length behind == 0) ≡ true
    → start_in (before ++ 47 ∷ behind) ≡ before ++ 47 ∷ []
start_at_slash before [] none empty = start_at_end before none
start_at_slash before (c ∷ behind) none empty =
    let zero : length (c ∷ behind) ≡ 0 = eqb-true (length (c ∷ behind)) 0 empty in absurd (omega arith)

pub start_past_slash : (before behind : List ℕ) → HasNone before → (length behind == 0) ≡ false
    → start_in (before ++ 47 ∷ behind) ≡ before ++ 48 ∷ []
start_past_slash before [] none some = absurd (true≢false some)
start_past_slash before (c ∷ behind) none some = start_of_split before c behind none

pub ok_by : {X E : Type 0} (r : Result X E) (shown : X → List ℕ) (a b : List ℕ) → a ≡ b → IfOk r (λ x. shown x ≡ a)
    → IfOk r (λ x. shown x ≡ b)
ok_by (Ok x) shown a b same is = is ∙ same
ok_by (Err e) shown a b same is = is

-- two texts that are added, one behind the other
pub both_added : (out first second whole mid new : List ℕ) → mid ≡ out ++ first → new ≡ mid ++ second → whole ≡ first ++ second
    → new ≡ out ++ whole
both_added out first second whole mid new e f same =
    f ∙ ap (λ s. s ++ second) e ∙ append_assoc out first second ∙ ap (λ t. out ++ t) (sym same)
