-- What is made of a store is made of one with fewer puts, with the same effect: stamps decide nothing while one is left.
use Rattle.std.proofs.Common.{◌≡◌, ◌≤◌, ◌+◌, ℕ, List, Bool, true, false, length, refl, ap, sym, subst, arith}
use Rattle.std.specs.Prelude.{nat_le, nat_lt, not, ◌&&◌, ◌||◌, Option, Some, None, option_map, Result, Ok, Err, if◌then◌else◌}
use Rattle.std.specs.FinMap as map
use Rattle.std.proofs.lemmas.Bool.Decides.{nat_tests}
use Rattle.doc_store_readers.specs.Maps.{TextMap}
use Rattle.doc_store_readers.specs.Pages.{Page}
use Rattle.doc_store_readers.specs.Sites.{Site}
use Rattle.doc_store.specs.Store.{StoreState, alias_limit, aliases_after, effect_of, fits, move_fits, moved_by, page_limit, put_by}
use Rattle.doc_store.specs.Store.{put_limit, remove_page, text_limit, with_move, with_page}
use Rattle.doc_store.specs.declared.moving.MoveError.{MoveError}
use Rattle.doc_store.specs.declared.moving.MoveError.TheVariants as move_errors
use Rattle.doc_store.specs.declared.site_edit.SiteEdit.{SiteEdit}
use Rattle.doc_store.specs.declared.site_edit.SiteEdit.TheVariants as site_edits
use Rattle.doc_store.specs.declared.store.EditError.{EditError}
use Rattle.doc_store.specs.declared.store.EditError.TheVariants.{Taken, TooLong, StoreFull}
use Rattle.doc_media.specs.Media.{Media}
use Rattle.doc_hub.specs.Worlds.{has_medium}
use Rattle.doc_server_script.specs.Replays.{unless_refused}
use Rattle.doc_server_restore.specs.Restores.{made, unstamped}

pub no_some : {X : Type 0} (x : X) → None ≡ Some x → ⊥
no_some x is = cc

pub same_some : {X : Type 0} (x y : X) → Some x ≡ Some y → x ≡ y
same_some x y is = cc

err_ok : {X E : Type 0} (e : E) (x : X) → ◌≡◌ {A = Result X E} (Err e) (Ok x) → ⊥
err_ok e x is = cc

-- ---- the tests of a store

not_full : (limit a b : ℕ) → a ≤ b → nat_le limit b ≡ false → nat_le limit a ≡ false
not_full limit a b fewer is = grind (arith, nat_tests)

abbrev unless_full : Bool → Result (Unit {0}) EditError
unless_full full = if full then Err StoreFull else Ok tt

put_by_tests : (long crowded full less : Bool) → (full ≡ false → less ≡ false)
    → ◌≡◌ {A = Result (Unit {0}) EditError} (if long then Err TooLong else (if crowded || full then Err StoreFull else Ok tt)) (Ok tt)
    → ◌≡◌ {A = Result (Unit {0}) EditError} (if long then Err TooLong else (if crowded || less then Err StoreFull else Ok tt)) (Ok tt)
put_by_tests true crowded full less fewer is = is
put_by_tests false true full less fewer is = is
put_by_tests false false true less fewer is = absurd (err_ok StoreFull tt is)
put_by_tests false false false less fewer is = ap unless_full (fewer refl)

fits_fewer : (pages : ℕ) (stands : Bool) (a b : ℕ) (text : List ℕ) → a ≤ b → fits pages stands b text ≡ Ok tt
    → fits pages stands a text ≡ Ok tt
fits_fewer pages stands a b text fewer =
    put_by_tests (nat_lt text_limit (length text)) (not stands && nat_le page_limit pages) (nat_le put_limit b) (nat_le put_limit a)
    (not_full put_limit a b fewer)

may_fewer : (medium : Bool) (pages : ℕ) (stands : Bool) (a b : ℕ) (text : List ℕ) → a ≤ b
    → ◌≡◌ {A = Result (Unit {0}) EditError} (if medium then Err Taken else fits pages stands b text) (Ok tt)
    → ◌≡◌ {A = Result (Unit {0}) EditError} (if medium then Err Taken else fits pages stands a text) (Ok tt)
may_fewer true pages stands a b text fewer is = is
may_fewer false pages stands a b text fewer is = fits_fewer pages stands a b text fewer is

abbrev moves_unless_full : Bool → Result (Unit {0}) MoveError
moves_unless_full full = if full then Err move_errors.StoreFull else Ok tt

move_by_tests : (stands taken crowded full less : Bool) → (full ≡ false → less ≡ false)
    → ◌≡◌ {A = Result (Unit {0}) MoveError} (if not stands then Err move_errors.NoPage
    else (if taken then Err move_errors.Taken else (if crowded || full then Err move_errors.StoreFull else Ok tt)))
    (Ok tt)
    → ◌≡◌ {A = Result (Unit {0}) MoveError} (if not stands then Err move_errors.NoPage
    else (if taken then Err move_errors.Taken else (if crowded || less then Err move_errors.StoreFull else Ok tt)))
    (Ok tt)
move_by_tests false taken crowded full less fewer is = is
move_by_tests true true crowded full less fewer is = is
move_by_tests true false true full less fewer is = is
move_by_tests true false false true less fewer is = absurd (err_ok move_errors.StoreFull tt is)
move_by_tests true false false false less fewer is = ap moves_unless_full (fewer refl)

move_fits_fewer : (stands taken : Bool) (aliases a b : ℕ) → a ≤ b → move_fits stands taken aliases b ≡ Ok tt
    → move_fits stands taken aliases a ≡ Ok tt
move_fits_fewer stands taken aliases a b fewer =
    move_by_tests stands taken (nat_lt alias_limit aliases) (nat_le put_limit b) (nat_le put_limit a) (not_full put_limit a b fewer)

-- ---- two stores of one site

-- a store with the same site and no more puts is made
abbrev pub Comes : StoreState → Option StoreState → Type 0
Comes t found = (r : StoreState) × (found ≡ Some r) × (r.site ≡ t.site) × (r.puts ≤ t.puts)

abbrev After : {X E : Type 0} → StoreState × Result X E → Option StoreState
After given = option_map unstamped (unless_refused given.0 given.1)

one_more : (a b : ℕ) → a ≤ b → a + 1 ≤ b + 1
one_more a b fewer = omega (arith, fewer)

module _ (site : Site) (stamps others : TextMap ℕ) (a b : ℕ) (fewer : a ≤ b) where
  abbrev one : StoreState
  one = record { site = site; stamps = others; puts = a }

  abbrev other : StoreState
  other = record { site = site; stamps = stamps; puts = b }

  put_comes : (medium : Bool) (path : List ℕ) (page : Page) (t : StoreState) (stands : Bool) (said : Result (Unit {0}) EditError)
      → ◌≡◌ {A = Result (Unit {0}) EditError} (if medium then Err Taken else fits (map.len site.pages) stands b page.text) said
      → After (put_by other path page stands said) ≡ Some t
      → Comes t (After (put_by one path page stands (if medium then Err Taken else fits (map.len site.pages) stands a page.text)))
  put_comes medium path page t stands (Err e) fine is = absurd (no_some t is)
  put_comes medium path page t stands (Ok done) fine is =
      let same : unstamped (with_page other path page) ≡ t = same_some (unstamped (with_page other path page)) t is in (
        unstamped (with_page one path page),
        ap (λ said. After (put_by one path page stands said)) (may_fewer medium (map.len site.pages) stands a b page.text fewer fine),
        ap (λ (s : StoreState). s.site) same,
        subst (λ n. a + 1 ≤ n) (ap (λ (s : StoreState). s.puts) same) (one_more a b fewer),
      )

  move_comes : (from to : List ℕ) (t : StoreState) (stands taken : Bool) (aliases : ℕ) (said : Result (Unit {0}) MoveError)
      → move_fits stands taken aliases b ≡ said → After (moved_by other from to said) ≡ Some t
      → Comes t (After (moved_by one from to (move_fits stands taken aliases a)))
  move_comes from to t stands taken aliases (Err e) fine is = absurd (no_some t is)
  move_comes from to t stands taken aliases (Ok done) fine is =
      let same : unstamped (with_move other from to) ≡ t = same_some (unstamped (with_move other from to)) t is in (
        unstamped (with_move one from to),
        ap (λ said. After (moved_by one from to said)) (move_fits_fewer stands taken aliases a b fewer fine),
        ap (λ (s : StoreState). s.site) same,
        subst (λ n. a + 1 ≤ n) (ap (λ (s : StoreState). s.puts) same) (one_more a b fewer),
      )

  abbrev removed : StoreState → List ℕ → Bool → StoreState
  removed store path stands =
      if stands then record { site = effect_of store.site (remove_page path); stamps = map.remove store.stamps path; puts = store.puts }
      else store

  removal_comes : (path : List ℕ) (t : StoreState) (stands : Bool) → Some (unstamped (removed other path stands)) ≡ Some t
      → Comes t (Some (unstamped (removed one path stands)))
  removal_comes path t true is =
      let same : unstamped (removed other path true) ≡ t = same_some (unstamped (removed other path true)) t is in (
        unstamped (removed one path true),
        refl,
        ap (λ (s : StoreState). s.site) same,
        subst (λ n. a ≤ n) (ap (λ (s : StoreState). s.puts) same) fewer,
      )
  removal_comes path t false is =
      let same : unstamped other ≡ t = same_some (unstamped other) t is in
      (unstamped one, refl, ap (λ (s : StoreState). s.site) same, subst (λ n. a ≤ n) (ap (λ (s : StoreState). s.puts) same) fewer)

  edit_comes : (media : Media) (edit : SiteEdit) (t : StoreState) → made media other edit ≡ Some t → Comes t (made media one edit)
  edit_comes media (site_edits.Put path groups text) t is =
      let page : Page = record { groups = groups; text = text } in
      let stands : Bool = map.contains_key site.pages path in
      let medium : Bool = has_medium media path in
      put_comes medium path page t stands (if medium then Err Taken else fits (map.len site.pages) stands b text) refl is
  edit_comes media (site_edits.Remove path) t is = removal_comes path t (map.contains_key site.pages path) is
  edit_comes media (site_edits.Move from to) t is =
      let stands : Bool = map.contains_key site.pages from in
      let taken : Bool = map.contains_key site.pages to || has_medium media to in
      let aliases : ℕ = map.len (aliases_after site.aliases from to) in
      move_comes from to t stands taken aliases (move_fits stands taken aliases b) refl is

-- an edit that one store accepts, another of the same site accepts, of which no more puts are known
pub made_with_fewer : (media : Media) (u s t : StoreState) (edit : SiteEdit) → s.site ≡ u.site → s.puts ≤ u.puts
    → made media u edit ≡ Some t → Comes t (made media s edit)
made_with_fewer media u s t edit same fewer is =
    subst (λ (site : Site). Comes t (made media (record { site = site; stamps = s.stamps; puts = s.puts }) edit)) (sym same)
    (edit_comes u.site u.stamps s.stamps s.puts u.puts fewer media edit t is)
