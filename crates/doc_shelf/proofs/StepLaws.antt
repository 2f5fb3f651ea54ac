-- Rows in step with the edits of a store.
use Rattle.std.proofs.Common.{◌≡◌, ℕ, List, Bool, true, false, cond, refl, ap, sym, subst, ◌∙◌}
use Rattle.std.specs.Prelude.{Option, Some, None, Result, Ok, Err, IfSome, OnErr, is_some, option_map, if◌then◌else◌}
use Rattle.std.specs.FinMap as map
use Rattle.std.specs.Cmp.Lexicographic.{slice_cmp}
use Rattle.std.specs.Ordering.{nat_cmp}
use Rattle.std.proofs.lemmas.Bool.{true≢false}
use Rattle.std.proofs.lemmas.Cmp.{nat_list_cmp_total}
use Rattle.std.proofs.lemmas.Map.Lookups.{exact_bytes}
use Rattle.doc_rows.proofs.PlaceLaws.{no_rows}
use Rattle.doc_rows.specs.Rows.{TextSet}
use Rattle.doc_rows_links.specs.LinkRows.{AreTargets, IsWiderByLinks, LinkRowMap, Linking, rows_or_none, writes_at, writing}
use Rattle.doc_shelf.specs.Shelves.{ArePeopleRows, IsStanding}
use Rattle.doc_shelf.specs.declared.page_change.PageChange.{PageChange}
use Rattle.doc_shelf.specs.declared.people_rows.PeopleRows.{PeopleRows}
use Rattle.doc_store.proofs.StampLaw.{move_needs}
use Rattle.doc_store.proofs.StoreSteps.{taken_out}
use Rattle.doc_store.specs.Store.{StoreState, aliases_after, may_move, with_key_at, with_move, without_page}
use Rattle.doc_store_readers.proofs.KeySteps.{get_set, get_taken, same_from, same_key}
use Rattle.doc_store_readers.specs.Maps.{TextMap}
use Rattle.doc_store_readers.specs.Pages.{Page}

-- what holds anyhow holds of an error
pub also_on_err : {X E P : Type 0} (r : Result X E) → P → OnErr r P
also_on_err (Ok x) p = tt
also_on_err (Err e) p = p

-- what holds of something, where it is there
pub of_some : {X : Type 0} (P : X → Type 0) (o : Option X) (x : X) → o ≡ Some x → IfSome o P → P x
of_some P o x is p = subst (λ q. IfSome q P) is p

-- ---- no pages

abbrev no_pages : TextMap Page
no_pages = map.empty

-- no page writes a target
none_writes : (linking : Linking) (target : List ℕ) → writing linking no_pages target ≡ no_pages
none_writes linking target =
    map.same_map nat_list_cmp_total exact_bytes (writing linking no_pages target) no_pages (λ q.
    map.get-retain_keys no_pages writes q (λ x t. silent x ∙ sym (silent q))
    ∙ ap (λ b. cond b (map.get no_pages q) None) (silent q) ∙ sym (map.get-empty (slice_cmp nat_cmp) q))
  where
    writes : List ℕ → Bool
    writes q = writes_at linking target q (map.get no_pages q)

    silent : (q : List ℕ) → writes q ≡ false
    silent q = ap (writes_at linking target q) (map.get-empty (slice_cmp nat_cmp) q)

pub no_people_rows : (linking : Linking) (pages : TextMap Page) (rows : PeopleRows) → pages ≡ map.empty
    → rows ≡ record { by_group = map.empty; by_link = map.empty } → ArePeopleRows linking pages rows
no_people_rows linking pages rows none empty = record {
  by_group = no_rows pages rows.by_group none (ap (λ r. r.by_group) empty);
  by_link = record {
    each = λ target.
        no_rows (writing linking pages target) _ (ap (λ p. writing linking p target) none ∙ none_writes linking target)
        (ap (λ r. rows_or_none (map.get r.by_link target)) empty ∙ ap rows_or_none (map.get-empty (slice_cmp nat_cmp) target));
  };
}

-- ---- what stands where a page is set

module _ (linking : Linking) (pages : TextMap Page) (path : List ℕ) where
  pub none_stands : (change : PageChange) → change.before ≡ None → change.old ≡ map.empty → None ≡ map.get pages path
      → IsStanding linking pages path change
  none_stands change before old none = record {
    groups = ap (option_map (λ page. page.groups)) (sym none) ∙ sym before;
    links = λ target.
        ap (λ t. map.contains_key t target) old ∙ ap is_some (map.get-empty (slice_cmp nat_cmp) target)
        ∙ ap (writes_at linking target path) none;
  }

  pub one_stands : (change : PageChange) (page : Page) → Some page ≡ map.get pages path → change.before ≡ Some page.groups
      → AreTargets (linking path page) change.old → IsStanding linking pages path change
  one_stands change page found before old = record {
    groups = ap (option_map (λ page. page.groups)) (sym found) ∙ sym before;
    links = λ target. old target ∙ ap (writes_at linking target path) found;
  }

-- what a change says of rows by link, where its parts are lent
module _ (linking : Linking) (pages : TextMap Page) (path : List ℕ) (change : PageChange) (groups names : List (List ℕ))
    (before : Option (List (List ℕ))) (old new : TextSet) (e : before ≡ change.before) (f : old ≡ change.old) (g : names ≡ groups)
    (h : new ≡ change.new) where
  abbrev Parts : Type 0
  Parts = Option (List (List ℕ)) × (TextSet × (List (List ℕ) × TextSet))

  abbrev wider_by : LinkRowMap → Parts → Type 0
  wider_by rows parts = IsWiderByLinks linking pages path parts.0 parts.1.0 parts.1.1.0 parts.1.1.1 rows

  same_parts : ◌≡◌ {A = Parts} (before, (old, (names, new))) (change.before, (change.old, (groups, change.new)))
  same_parts = λ i. (e i, (f i, (g i, h i)))

  pub lent_wider : (rows : LinkRowMap) → IsWiderByLinks linking pages path change.before change.old groups change.new rows
      → IsWiderByLinks linking pages path before old names new rows
  lent_wider rows wider = subst (wider_by rows) (sym same_parts) wider

  pub own_wider : (rows : LinkRowMap) → IsWiderByLinks linking pages path before old names new rows
      → IsWiderByLinks linking pages path change.before change.old groups change.new rows
  own_wider rows wider = subst (wider_by rows) same_parts wider

-- ---- removals

module _ (linking : Linking) (store : StoreState) (path : List ℕ) (rows : PeopleRows)
    (are : ArePeopleRows linking store.site.pages rows) where
  -- no page stood there
  pub none_removed : None ≡ map.get store.site.pages path → ArePeopleRows linking (without_page store path).site.pages rows
  none_removed none = subst (λ b. ArePeopleRows linking (if b then taken_out store path else store).site.pages rows) (ap is_some none) are

  pub one_removed : (page : Page) (left : PeopleRows) → Some page ≡ map.get store.site.pages path
      → ArePeopleRows linking (map.remove store.site.pages path) left → ArePeopleRows linking (without_page store path).site.pages left
  one_removed page left found lifted =
      subst (λ b. ArePeopleRows linking (if b then taken_out store path else store).site.pages left) (ap is_some found) lifted

-- ---- moves

there_is_none : (o : Option Page) → is_some o ≡ false → o ≡ None
there_is_none None none = refl
there_is_none (Some page) none = absurd (true≢false none)

module _ (old : StoreState) (from to : List ℕ) (may : may_move old from to ≡ Ok tt) where
  needs : (map.contains_key old.site.pages from ≡ true) × (map.contains_key old.site.pages to ≡ false)
  needs = move_needs (map.contains_key old.site.pages from) (map.contains_key old.site.pages to)
      (map.len (aliases_after old.site.aliases from to)) old.puts may

  -- no page stands where one may be moved to
  pub none_there : None ≡ map.get old.site.pages to
  none_there = sym (there_is_none (map.get old.site.pages to) needs.1)

  module _ (page : Page) (found : map.get old.site.pages from ≡ Some page) where
    apart : (q : List ℕ) → same_key q from ≡ true → same_key q to ≡ true → ⊥
    apart q e f =
        true≢false (sym needs.0 ∙ ap (map.contains_key old.site.pages) (sym (same_from q from e) ∙ same_from q to f) ∙ needs.1)

    -- set and taken out, or the other way round
    either_way : map.remove (map.insert old.site.pages to page) from ≡ map.insert (map.remove old.site.pages from) to page
    either_way = map.same_map nat_list_cmp_total exact_bytes _ _ (λ q.
        get_taken (map.insert old.site.pages to page) from q ∙ ap (cond (same_key q from) None) (get_set old.site.pages to page q)
        ∙ by q (same_key q from) refl (same_key q to) refl (map.get old.site.pages q)
        ∙ ap (cond (same_key q to) (Some page)) (sym (get_taken old.site.pages from q))
        ∙ sym (get_set (map.remove old.site.pages from) to page q))
      where
        by : (q : List ℕ) (a : Bool) → same_key q from ≡ a → (b : Bool) → same_key q to ≡ b → (o : Option Page)
            → cond a None (cond b (Some page) o) ≡ cond b (Some page) (cond a None o)
        by q true e true f o = absurd (apart q e f)
        by q true e false f o = refl
        by q false e b f o = refl

    -- the page stands where it stood, also once it is set where it goes
    pub found_still : map.get (map.insert old.site.pages to page) from ≡ Some page
    found_still = get_set old.site.pages to page from ∙ by (same_key from to)
      where
        by : (b : Bool) → cond b (Some page) (map.get old.site.pages from) ≡ Some page
        by true = refl
        by false = found

    pub moved_to : (linking : Linking) (left : PeopleRows)
        → ArePeopleRows linking (map.remove (map.insert old.site.pages to page) from) left
        → ArePeopleRows linking (with_move old from to).site.pages left
    moved_to linking left are =
        subst (λ o. ArePeopleRows linking (with_key_at old.site.pages from to o) left) (sym found)
        (subst (λ pages. ArePeopleRows linking pages left) either_way are)
