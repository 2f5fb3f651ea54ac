-- Edits that bring no page to the path of a medium keep media and pages apart.
use Rattle.std.proofs.Common.{◌≡◌, ℕ, List, [], ◌∷◌, Bool, true, false, cond, is_some, not, refl, ap, sym, ◌∙◌}
use Rattle.std.specs.Prelude.{◌||◌, Option, Some, None, option_map, Result, Ok, Err, ⊤, if◌then◌else◌}
use Rattle.std.specs.FinMap as map
use Rattle.std.specs.List.{list_all, list_any}
use Rattle.std.proofs.lemmas.Bool.{and_parts}
use Rattle.doc_page_parts.proofs.Bools.{clash}
use Rattle.doc_store_readers.specs.Maps.{TextMap, map_values}
use Rattle.doc_store_readers.specs.Pages.{Page}
use Rattle.doc_store_readers.specs.Sites.{Site, may_see_at, visible_to, page_of_alias}
use Rattle.doc_store_readers.specs.declared.reader.Reader.{Reader}
use Rattle.doc_store_readers.proofs.KeySteps.{contains_set, contains_taken, same_from, same_key}
use Rattle.doc_store_readers.proofs.MapValues.{get-map_values}
use Rattle.doc_store_readers.proofs.ViewLaw.{get-visible_aliases, get-visible_pages}
use Rattle.doc_store.specs.Names.{is_name}
use Rattle.doc_store.specs.Store.{StoreState, aliases_after, effect_of, goal_after, is_goal, move_fits, move_page}
use Rattle.doc_store.specs.Store.{remove_page, set_page, with_key_at}
use Rattle.doc_store.specs.declared.moving.MoveError.{MoveError}
use Rattle.doc_store.specs.declared.moving.MoveError.TheVariants as move_errors
use Rattle.doc_store.specs.declared.store.EditError.{EditError}
use Rattle.doc_store.specs.declared.store.EditError.TheVariants as edit_errors
use Rattle.doc_store.proofs.StoreSteps.{get-without_goal, taken_out}
use Rattle.doc_media.specs.Media.{Media, media_visible_to, site_of_media}
use Rattle.doc_hub_replies.specs.Edits.{regrouped, store_after}
use Rattle.doc_hub_replies.specs.Edit.{Edit}
use Rattle.doc_hub_replies.specs.Edit.TheVariants as edits
use Rattle.doc_hub.specs.Worlds.{IsApart, are_apart, has_medium}

-- a put that is not refused is at the path of no medium, and fits in the store
pub put_is_free : (medium : Bool) (fits : Result (Unit {0}) EditError)
    → ◌≡◌ {A = Result (Unit {0}) EditError} (if medium then Err edit_errors.Taken else fits) (Ok tt) → (medium ≡ false) × (fits ≡ Ok tt)
put_is_free true fits e = absurd (unlike e)
  where
    unlike : ◌≡◌ {A = Result (Unit {0}) EditError} (Err edit_errors.Taken) (Ok tt) → ⊥
    unlike h = cc
put_is_free false fits e = (refl, e)

-- a move that is not refused is of a page that stands to the path of no medium, and the store takes it
pub move_is_free : (stands taken medium : Bool) (aliases puts : ℕ) → move_fits stands (taken || medium) aliases puts ≡ Ok tt
    → (stands ≡ true) × (medium ≡ false) × (move_fits stands taken aliases puts ≡ Ok tt)
move_is_free false taken medium aliases puts e = absurd (unlike e)
  where
    unlike : ◌≡◌ {A = Result (Unit {0}) MoveError} (Err move_errors.NoPage) (Ok tt) → ⊥
    unlike h = cc
move_is_free true true medium aliases puts e = absurd (unlike e)
  where
    unlike : ◌≡◌ {A = Result (Unit {0}) MoveError} (Err move_errors.Taken) (Ok tt) → ⊥
    unlike h = cc
move_is_free true false true aliases puts e = absurd (unlike e)
  where
    unlike : ◌≡◌ {A = Result (Unit {0}) MoveError} (Err move_errors.Taken) (Ok tt) → ⊥
    unlike h = cc
move_is_free true false false aliases puts e = (refl, refl, e)

-- ---- media that are set

all_of : (p : List ℕ → Bool) (paths : List (List ℕ)) (q : List ℕ) → list_all p paths ≡ true → list_any (same_key q) paths ≡ true
    → p q ≡ true
all_of p [] q all found = absurd (clash false found refl)
all_of p (path ∷ paths) q all found =
    let parts = and_parts (p path) (list_all p paths) all in by (same_key q path) refl parts.0 (λ more. all_of p paths q parts.1 more)
  where
    by : (t : Bool) → same_key q path ≡ t → p path ≡ true → (list_any (same_key q) paths ≡ true → p q ≡ true) → p q ≡ true
    by true same here rest = ap p (same_from q path same) ∙ here
    by false other here rest = rest (sym (ap (λ t. t || list_any (same_key q) paths) other) ∙ found)

no_name : (site : Site) (q : List ℕ) → not (is_name site q) ≡ true
    → (map.contains_key site.pages q ≡ false) × (map.contains_key site.aliases q ≡ false)
no_name site q is = by (map.contains_key site.pages q) (map.contains_key site.aliases q) is
  where
    by : (page alias : Bool) → not (page || alias) ≡ true → (page ≡ false) × (alias ≡ false)
    by false false e = (refl, refl)
    by false true e = absurd (clash false e refl)
    by true alias e = absurd (clash false e refl)

-- media none of whose paths is a name of the site are apart from it
pub apart_of : (site : Site) (media : Media) → are_apart site media ≡ true → IsApart site media
apart_of site None is = record {
  pages = λ path medium. absurd (clash false medium refl);
  aliases = λ path medium. absurd (clash false medium refl);
}
apart_of site (Some held) is = record { pages = λ path medium. (at path medium).0; aliases = λ path medium. (at path medium).1 }
  where
    at : (path : List ℕ) → map.contains_key held path ≡ true
        → (map.contains_key site.pages path ≡ false) × (map.contains_key site.aliases path ≡ false)
    at path medium =
        no_name site path
        (all_of (λ path. not (is_name site path)) (map.keys held) path is (sym (map.contains_key-keys held path) ∙ medium))

still_some : {X Y : Type 0} (f : X → Y) (o : Option X) → is_some (option_map f o) ≡ is_some o
still_some f None = refl
still_some f (Some x) = refl

fewer : {X : Type 0} (o : Option X) (t : Bool) → is_some o ≡ false → is_some (cond t o None) ≡ false
fewer o true none = none
fewer o false none = refl

module _ (media : Media) where
  -- no medium stands at a key of the map
  abbrev pub Clear : {X : Type 0} → TextMap X → Type 0
  Clear m = (q : List ℕ) → has_medium media q ≡ true → map.contains_key m q ≡ false

  apart_from : (q path : List ℕ) → has_medium media q ≡ true → has_medium media path ≡ false → same_key q path ≡ false
  apart_from q path medium free = by (same_key q path) refl
    where
      by : (t : Bool) → same_key q path ≡ t → t ≡ false
      by true same = absurd (clash (has_medium media path) (sym (ap (has_medium media) (same_from q path same)) ∙ medium) free)
      by false e = refl

  pub set_clear : {X : Type 0} (m : TextMap X) (k : List ℕ) (x : X) → has_medium media k ≡ false → Clear m → Clear (map.insert m k x)
  set_clear m k x free clear q medium =
      contains_set m k x q ∙ ap (λ t. cond t true (map.contains_key m q)) (apart_from q k medium free) ∙ clear q medium

  pub taken_clear : {X : Type 0} (m : TextMap X) (k : List ℕ) → Clear m → Clear (map.remove m k)
  taken_clear m k clear q medium = contains_taken m k q ∙ by (same_key q k)
    where
      by : (t : Bool) → cond t false (map.contains_key m q) ≡ false
      by true = refl
      by false = clear q medium

  pub mapped_clear : {X Y : Type 0} (f : X → Y) (m : TextMap X) → Clear m → Clear (map_values f m)
  mapped_clear f m clear q medium = ap is_some (get-map_values f m q) ∙ still_some f (map.get m q) ∙ clear q medium

  -- a key of the map is the path of no medium
  pub key_free : {X : Type 0} (m : TextMap X) (path : List ℕ) → Clear m → map.contains_key m path ≡ true → has_medium media path ≡ false
  key_free m path clear stands = by (has_medium media path) refl
    where
      by : (t : Bool) → has_medium media path ≡ t → t ≡ false
      by true medium = absurd (clash (map.contains_key m path) stands (clear path medium))
      by false e = refl

  -- a page that stands is at the path of no medium
  pub stands_free : (site : Site) (path : List ℕ) → IsApart site media → map.contains_key site.pages path ≡ true
      → has_medium media path ≡ false
  stands_free site path apart stands = key_free site.pages path apart.pages stands

  pub put_apart : (site : Site) (path : List ℕ) (page : Page) → has_medium media path ≡ false → IsApart site media
      → IsApart (effect_of site (set_page path page)) media
  put_apart site path page free apart = record {
    pages = set_clear site.pages path page free apart.pages;
    aliases = taken_clear site.aliases path apart.aliases;
  }

  pub remove_apart : (site : Site) (path : List ℕ) → IsApart site media → IsApart (effect_of site (remove_page path)) media
  remove_apart site path apart = record {
    pages = taken_clear site.pages path apart.pages;
    aliases = λ q medium. ap is_some (get-without_goal site.aliases path q)
        ∙ fewer (map.get site.aliases q) (not (is_goal path (map.get site.aliases q))) (apart.aliases q medium);
  }

  keyed_clear : (pages : TextMap Page) (from to : List ℕ) (found : Option Page) → has_medium media to ≡ false → Clear pages
      → Clear (with_key_at pages from to found)
  keyed_clear pages from to None free clear = clear
  keyed_clear pages from to (Some page) free clear =
      set_clear (map.remove pages from) to page free (taken_clear pages from clear)

  aliases_clear : (aliases : TextMap (List ℕ)) (from to : List ℕ) → has_medium media from ≡ false → Clear aliases
      → Clear (aliases_after aliases from to)
  unfolding aliases_after
  aliases_clear aliases from to free clear =
      set_clear (map_values (goal_after from to) (map.remove aliases to)) from to free
      (mapped_clear (goal_after from to) (map.remove aliases to) (taken_clear aliases to clear))

  pub move_apart : (site : Site) (from to : List ℕ) → map.contains_key site.pages from ≡ true → has_medium media to ≡ false
      → IsApart site media → IsApart (effect_of site (move_page from to)) media
  move_apart site from to stands free apart = record {
    pages = keyed_clear site.pages from to (map.get site.pages from) free apart.pages;
    aliases = aliases_clear site.aliases from to (stands_free site from apart stands) apart.aliases;
  }

  -- ---- in a store

  pub removed_apart : (store : StoreState) (path : List ℕ) (stands : Bool) → IsApart store.site media
      → IsApart (if stands then taken_out store path else store).site media
  removed_apart store path true apart = remove_apart store.site path apart
  removed_apart store path false apart = apart

  regrouped_apart : (store : StoreState) (path : List ℕ) (groups : List (List ℕ)) (found : Option Page)
      → map.get store.site.pages path ≡ found
      → IsApart store.site media → IsApart (regrouped store path groups found).site media
  regrouped_apart store path groups None stood apart = apart
  regrouped_apart store path groups (Some page) stood apart =
      put_apart store.site path (record page { groups = groups }) (stands_free store.site path apart (ap is_some stood)) apart

-- an edit brings no page to the path of a medium
abbrev pub StaysFree : Media → Option Edit → Type 0
StaysFree media (Some (edits.Put path groups)) = has_medium media path ≡ false
StaysFree media (Some (edits.Move from to)) = has_medium media to ≡ false
StaysFree media edit = ⊤

-- whether it stands where it is taken from
abbrev pub StandsThere : Site → Option Edit → Type 0
StandsThere site (Some (edits.Move from to)) = map.contains_key site.pages from ≡ true
StandsThere site edit = ⊤

pub edit_apart : (media : Media) (store : StoreState) (text : List ℕ) (edit : Option Edit) → StaysFree media edit
    → StandsThere store.site edit → IsApart store.site media → IsApart (store_after store text edit).site media
edit_apart media store text None free stands apart = apart
edit_apart media store text (Some (edits.Put path groups)) free stands apart =
    put_apart media store.site path (record { groups = groups; text = text }) free apart
edit_apart media store text (Some (edits.Regroup path groups)) free stands apart =
    regrouped_apart media store path groups (map.get store.site.pages path) refl apart
edit_apart media store text (Some (edits.Move from to)) free stands apart = move_apart media store.site from to stands free apart
edit_apart media store text (Some (edits.Remove path)) free stands apart =
    removed_apart media store path (map.contains_key store.site.pages path) apart

-- ---- what a reader sees

-- what a reader sees of both is apart where both are
pub seen_apart : (site : Site) (media : Media) (reader : Option Reader) → IsApart site media
    → IsApart (visible_to site reader) (media_visible_to media reader)
seen_apart site media reader apart = record {
  pages = λ q medium. ap is_some (get-visible_pages site reader q)
      ∙ fewer (map.get site.pages q) (may_see_at reader (map.get site.pages q)) (apart.pages q (stood media q medium));
  aliases = λ q medium. ap is_some (get-visible_aliases site reader q)
      ∙ fewer (map.get site.aliases q) (may_see_at reader (page_of_alias site q)) (apart.aliases q (stood media q medium));
}
  where
    some_of : (o : Option Page) (t : Bool) → is_some (cond t o None) ≡ true → is_some o ≡ true
    some_of o true is = is
    some_of o false is = absurd (unlike is)
      where
        unlike : false ≡ true → ⊥
        unlike h = cc

    stood : (m : Media) (q : List ℕ) → has_medium (media_visible_to m reader) q ≡ true → has_medium m q ≡ true
    stood None q medium = medium
    stood (Some held) q medium =
        some_of (map.get held q) (may_see_at reader (map.get held q))
        (sym (ap is_some (get-visible_pages (site_of_media held) reader q)) ∙ medium)
