-- What a store holds, and the state that contracts see, step by step.
use Rattle.std.proofs.Common.{◌≡◌, ℕ, ◌+◌, ◌-◌, ◌^◌, ◌<◌, List, Bool, true, false, IsTrue, length, is_some, refl, ap, sym, ◌∙◌, subst, arith}
use Rattle.std.specs.Prelude.{Option, Some, None, option_map, Result, Ok, Err, not, ◌&&◌, ◌||◌, nat_le, nat_lt, if◌then◌else◌}
use Rattle.std.proofs.lemmas.Bool.Decides.{nat_tests}
use Rattle.std.specs.FinMap as map
use Rattle.doc_store.specs.declared.moving.MoveError.{MoveError}
use Rattle.doc_store.specs.declared.store.EditError.{EditError}
use Rattle.doc_store.specs.declared.store.EditError.TheVariants.{TooLong, StoreFull}
use Rattle.doc_store.specs.declared.store.Put.{Put}
use Rattle.doc_store.specs.declared.store.Put.TheVariants.{Created, Replaced}
use Rattle.doc_store_readers.proofs.MapValues.{contains-map_values, entries-map_values, get-map_values, is_some-option_map}
use Rattle.doc_store_readers.proofs.MapValues.{map_values-empty, map_values-insert, map_values-remove}
use Rattle.doc_store.proofs.PageSteps.{is_true}
use Rattle.doc_store.proofs.StampLaw.{move_needs}
use Rattle.doc_store.proofs.StoreSteps.{move_stays, put_stays, remove_stays, taken_out}
use Rattle.doc_store_readers.specs.Maps.{TextMap, map_values}
use Rattle.doc_store_pages.specs.MoveSteps.{restamped, with_stamped, with_stamped_at}
use Rattle.doc_store_readers.specs.Pages.{Page, StampedPage, without_stamps}
use Rattle.doc_store.specs.Store.{StoreState, IsStore, empty_store, state_of, with_page, put_by, fits, fits_in, without_goal, without_page}
use Rattle.doc_store.specs.Store.{text_limit, page_limit, put_limit, aliases_after, may_move, move_fits, with_key_at, with_move, moved_by, moved_in}
use Rattle.doc_page_parts.proofs.Bools.{clash}
use Rattle.doc_page_parts.proofs.Options.{is_some_false, is_some_true}

-- ---- a new store

pub nothing_stored : (pages : TextMap StampedPage) (aliases : TextMap (List ℕ)) → pages ≡ map.empty → aliases ≡ map.empty
    → state_of pages aliases 0 ≡ empty_store
nothing_stored pages aliases p a = λ i. record {
  site = record { pages = (ap (map_values (λ p. p.page)) p ∙ map_values-empty (λ p. p.page)) i; aliases = a i };
  stamps = (ap (map_values (λ p. p.stamp)) p ∙ map_values-empty (λ p. p.stamp)) i;
  puts = 0;
}

-- ---- the pages in their order

pub pages_listed : (pages : TextMap StampedPage) (aliases : TextMap (List ℕ)) (puts : ℕ) (now : StoreState)
    (entries : List (List ℕ × StampedPage)) → state_of pages aliases puts ≡ now → entries ≡ map.entries pages
    → without_stamps entries ≡ map.entries now.site.pages
pages_listed pages aliases puts now entries view_is are =
    ap without_stamps are ∙ sym (entries-map_values (λ p. p.page) pages) ∙ ap (λ s. map.entries s.site.pages) view_is

-- ---- a page is set

module _ (pages pages' : TextMap StampedPage) (aliases aliases' : TextMap (List ℕ)) (puts : ℕ) (old : StoreState) (path : List ℕ)
    (page : Page) (one : StampedPage)
    (view_is : state_of pages aliases puts ≡ old) (one_is : one ≡ record { page = page; stamp = puts })
    (pages_are : pages' ≡ map.insert pages path one) (aliases_are : aliases' ≡ map.remove aliases path) where
  pub state_put : state_of pages' aliases' (puts + 1) ≡ with_page old path page
  state_put =
      let set : pages' ≡ map.insert pages path (record { page = page; stamp = puts }) = pages_are ∙ ap (map.insert pages path) one_is in
      let new_pages = ap (map_values (λ p. p.page)) set ∙ map_values-insert (λ p. p.page) pages path (record { page = page; stamp = puts })
      in
      let new_stamps = ap (map_values (λ p. p.stamp)) set
      ∙ map_values-insert (λ p. p.stamp) pages path (record { page = page; stamp = puts }) in
      let state : state_of pages' aliases' (puts + 1) ≡ with_page (state_of pages aliases puts) path page =
      λ i. record { site = record { pages = new_pages i; aliases = aliases_are i }; stamps = new_stamps i; puts = puts + 1 } in
      state ∙ ap (λ s. with_page s path page) view_is

  pub store_put : IsStore (state_of pages aliases puts) → IsStore (state_of pages' aliases' (puts + 1))
  store_put is = subst IsStore (sym state_put) (put_stays old path page (subst IsStore view_is is))

  -- the stamp of the page that stood there, and whether one did
  pub stamp_before : (before : Option ℕ) → before ≡ option_map (λ p. p.stamp) (map.get pages path) → before ≡ map.get old.stamps path
  stamp_before before is = is ∙ sym (get-map_values (λ p. p.stamp) pages path) ∙ ap (λ s. map.get s.stamps path) view_is

  pub stood_before : (before : Option ℕ) → before ≡ option_map (λ p. p.stamp) (map.get pages path)
      → is_some before ≡ map.contains_key old.site.pages path
  stood_before before is =
      ap is_some is ∙ is_some-option_map (λ p. p.stamp) (map.get pages path) ∙ sym (contains-map_values (λ p. p.page) pages path)
      ∙ ap (λ s. map.contains_key s.site.pages path) view_is

-- where a put fits, a stamp is left
pub stamp_left : (pages : ℕ) (stands : Bool) (puts : ℕ) (text : List ℕ) → fits pages stands puts text ≡ Ok tt → puts + 1 < 2 ^ 64
unfolding put_limit
stamp_left pages stands puts text fine =
    below puts (by (nat_lt text_limit (length text)) (not stands && nat_le page_limit pages) (nat_le put_limit puts) fine)
  where
    not_fine : {A : Type 0} (e : EditError) → ◌≡◌ {A = Result (Unit {0}) EditError} (Err e) (Ok tt) → A
    not_fine e is = cc

    by : (long full out : Bool)
        → ◌≡◌ {A = Result (Unit {0}) EditError} (if long then Err TooLong else (if full || out then Err StoreFull else Ok tt)) (Ok tt)
        → out ≡ false
    by true full out is = not_fine TooLong is
    by false true out is = not_fine StoreFull is
    by false false true is = not_fine StoreFull is
    by false false false is = refl

    below : (puts : ℕ) → nat_le (2 ^ 64 - 1) puts ≡ false → puts + 1 < 2 ^ 64
    below puts is = grind (arith, nat_tests)

-- what a put that fits is, of the page that stood there or of none
pub put_gives : (old new : StoreState) (path text : List ℕ) (page : Page) (said : Result (Unit {0}) EditError) (stood : Bool)
    → said ≡ fits_in old path text → said ≡ Ok tt → stood ≡ map.contains_key old.site.pages path → new ≡ with_page old path page
    → ◌≡◌ {A = StoreState × Result Put EditError} (put_by old path page (map.contains_key old.site.pages path) (fits_in old path text))
    (new, Ok (if stood then Replaced else Created))
put_gives old new path text page said stood answer ok is made =
    ap (put_by old path page (map.contains_key old.site.pages path)) (sym answer ∙ ok)
    ∙ (λ i. (sym made i, Ok (if sym is i then Replaced else Created)))

pub fits_is : (pages : TextMap StampedPage) (aliases : TextMap (List ℕ)) (puts : ℕ) (old : StoreState) (path text : List ℕ) (n : ℕ)
    (stands : Bool) (result : Result (Unit {0}) EditError)
    → state_of pages aliases puts ≡ old → n ≡ map.len pages → map.len pages ≡ map.len (map_values (λ p. p.page) pages)
    → stands ≡ map.contains_key pages path → result ≡ fits n stands puts text → result ≡ fits_in old path text
fits_is pages aliases puts old path text n stands result view_is len same_len contains said =
    said
    ∙ (λ i. fits ((len ∙ same_len) i) ((contains ∙ sym (contains-map_values (λ p. p.page) pages path)) i) puts text)
    ∙ ap (λ s. fits_in s path text) view_is

-- ---- a page is removed

module _ (pages pages' : TextMap StampedPage) (aliases aliases' : TextMap (List ℕ)) (puts : ℕ) (old : StoreState) (path : List ℕ)
    (view_is : state_of pages aliases puts ≡ old) (pages_are : pages' ≡ map.remove pages path)
    (aliases_are : aliases' ≡ without_goal aliases path) where
  state_removed : state_of pages' aliases' puts ≡ taken_out old path
  state_removed =
      let new_pages = ap (map_values (λ p. p.page)) pages_are ∙ map_values-remove (λ p. p.page) pages path in
      let new_stamps = ap (map_values (λ p. p.stamp)) pages_are ∙ map_values-remove (λ p. p.stamp) pages path in
      let state : state_of pages' aliases' puts ≡ taken_out (state_of pages aliases puts) path =
      λ i. record { site = record { pages = new_pages i; aliases = aliases_are i }; stamps = new_stamps i; puts = puts } in
      state ∙ ap (λ s. taken_out s path) view_is

  pub store_removed : IsStore (state_of pages aliases puts) → IsStore (state_of pages' aliases' puts)
  store_removed is = subst IsStore (sym state_removed) (remove_stays old path (subst IsStore view_is is))

  pub removed_gives : map.contains_key pages path ≡ true → state_of pages' aliases' puts ≡ without_page old path
  removed_gives stands =
      state_removed
      ∙ ap (λ b. if b then taken_out old path else old) (sym (ap (λ s. map.contains_key s.site.pages path) (sym view_is)
      ∙ contains-map_values (λ p. p.page) pages path ∙ stands))

pub stands_in : (pages : TextMap StampedPage) (aliases : TextMap (List ℕ)) (puts : ℕ) (old : StoreState) (path : List ℕ)
    → state_of pages aliases puts ≡ old → map.contains_key pages path ≡ map.contains_key old.site.pages path
stands_in pages aliases puts old path view_is = sym (contains-map_values (λ p. p.page) pages path)
    ∙ ap (λ s. map.contains_key s.site.pages path) view_is

pub nothing_removed : (pages : TextMap StampedPage) (aliases : TextMap (List ℕ)) (puts : ℕ) (old : StoreState) (path : List ℕ)
    → state_of pages aliases puts ≡ old → map.contains_key pages path ≡ false
    → state_of pages aliases puts ≡ without_page old path
nothing_removed pages aliases puts old path view_is none =
    view_is ∙ ap (λ b. if b then taken_out old path else old) (sym (sym (stands_in pages aliases puts old path view_is) ∙ none))

-- ---- a page is got

pub page_got : {A : Type 0} (pages : TextMap StampedPage) (aliases : TextMap (List ℕ)) (puts : ℕ) (old : StoreState) (path : List ℕ)
    (view : A → StampedPage) (found : Option A)
    → state_of pages aliases puts ≡ old → option_map view found ≡ map.get pages path
    → option_map (λ a. (view a).page) found ≡ map.get old.site.pages path
page_got {A = A} pages aliases puts old path view found view_is got =
    twice found ∙ ap (option_map (λ p. p.page)) got ∙ sym (get-map_values (λ p. p.page) pages path)
    ∙ ap (λ s. map.get s.site.pages path) view_is
  where
    twice : (o : Option A) → option_map (λ a. (view a).page) o ≡ option_map (λ p. p.page) (option_map view o)
    twice None = refl
    twice (Some a) = refl

pub stamp_got : {A : Type 0} (pages : TextMap StampedPage) (aliases : TextMap (List ℕ)) (puts : ℕ) (old : StoreState) (path : List ℕ)
    (view : A → StampedPage) (found : Option A)
    → state_of pages aliases puts ≡ old → option_map view found ≡ map.get pages path
    → option_map (λ a. (view a).stamp) found ≡ map.get old.stamps path
stamp_got {A = A} pages aliases puts old path view found view_is got =
    twice found ∙ ap (option_map (λ p. p.stamp)) got ∙ sym (get-map_values (λ p. p.stamp) pages path)
    ∙ ap (λ s. map.get s.stamps path) view_is
  where
    twice : (o : Option A) → option_map (λ a. (view a).stamp) o ≡ option_map (λ p. p.stamp) (option_map view o)
    twice None = refl
    twice (Some a) = refl

-- ---- a page is moved

changed : {X : Type 0} (f : StampedPage → X) (pages pages' : TextMap StampedPage) (from to : List ℕ) (page : StampedPage)
    → pages' ≡ map.insert (map.remove pages from) to page
    → map_values f pages' ≡ map.insert (map.remove (map_values f pages) from) to (f page)
changed f pages pages' from to page set =
    ap (map_values f) set ∙ map_values-insert f (map.remove pages from) to page
    ∙ ap (λ m. map.insert m to (f page)) (map_values-remove f pages from)

module _ (pages pages' : TextMap StampedPage) (aliases aliases' : TextMap (List ℕ)) (puts : ℕ) (from to : List ℕ)
    (stands : map.contains_key pages from ≡ true)
    (pages_are : pages' ≡ with_stamped pages from to puts) (aliases_are : aliases' ≡ aliases_after aliases from to) where
  moved_state : state_of pages' aliases' (puts + 1) ≡ with_move (state_of pages aliases puts) from to
  moved_state =
      let found = is_some_true (map.get pages from) stands in
      let page = found.0 in
      let set : pages' ≡ map.insert (map.remove pages from) to (restamped puts page) = pages_are
      ∙ ap (with_stamped_at pages from to puts) found.1 in
      let there = get-map_values (λ p. p.page) pages from ∙ ap (option_map (λ p. p.page)) found.1 in
      λ i. record {
        site = record {
          pages = (changed (λ p. p.page) pages pages' from to (restamped puts page) set
              ∙ ap (with_key_at (map_values (λ p. p.page) pages) from to) (sym there)) i;
          aliases = aliases_are i;
        };
        stamps = changed (λ p. p.stamp) pages pages' from to (restamped puts page) set i;
        puts = puts + 1;
      }

-- the path of a page is no alias
pub alias_of_none : (pages : TextMap StampedPage) (aliases : TextMap (List ℕ)) (puts : ℕ) (path : List ℕ)
    → map.contains_key pages path ≡ true → IsStore (state_of pages aliases puts) → map.get aliases path ≡ None
alias_of_none pages aliases puts path stands is = by (map.get aliases path) refl
  where
    by : (o : Option (List ℕ)) → map.get aliases path ≡ o → o ≡ None
    by None e = refl
    by (Some goal) e = absurd (clash (map.contains_key pages path) stands (sym (contains-map_values (λ p. p.page) pages path)
        ∙ is.site.apart path goal e))

-- what a move needs, once it is not refused
module _ (pages : TextMap StampedPage) (aliases : TextMap (List ℕ)) (puts : ℕ) (old : StoreState) (from to : List ℕ)
    (said : Result (Unit {0}) MoveError)
    (view_is : state_of pages aliases puts ≡ old) (answer : said ≡ may_move old from to) (ok : said ≡ Ok tt) where
  needs : (map.contains_key old.site.pages from ≡ true) × (map.contains_key old.site.pages to ≡ false)
  needs = move_needs (map.contains_key old.site.pages from) (map.contains_key old.site.pages to)
      (map.len (aliases_after old.site.aliases from to)) old.puts (sym answer ∙ ok)

  from_stands : map.contains_key pages from ≡ true
  from_stands = stands_in pages aliases puts old from view_is ∙ needs.0

  pub move_stands : IsTrue (map.contains_key pages from)
  move_stands = is_true (map.contains_key pages from) from_stands

  pub move_free : map.get pages to ≡ None
  move_free = is_some_false (map.get pages to) (stands_in pages aliases puts old to view_is ∙ needs.1)

  pub move_unled : IsStore (state_of pages aliases puts) → (alias : List ℕ) → map.get aliases alias ≡ Some to → ⊥
  move_unled is alias e = clash (map.contains_key (map_values (λ p. p.page) pages) to) (is.site.lead alias to e)
      (contains-map_values (λ p. p.page) pages to ∙ ap is_some move_free)

  pub move_named : IsStore (state_of pages aliases puts) → map.get aliases from ≡ None
  move_named is = alias_of_none pages aliases puts from from_stands is

  module _ (pages' : TextMap StampedPage) (aliases' : TextMap (List ℕ)) (pages_are : pages' ≡ with_stamped pages from to puts)
      (aliases_are : aliases' ≡ aliases_after aliases from to) where
    state_moved : state_of pages' aliases' (puts + 1) ≡ with_move old from to
    state_moved = moved_state pages pages' aliases aliases' puts from to from_stands pages_are aliases_are
        ∙ ap (λ s. with_move s from to) view_is

    pub store_moved : IsStore (state_of pages aliases puts) → IsStore (state_of pages' aliases' (puts + 1))
    store_moved is = subst IsStore (sym state_moved) (move_stays old from to (subst IsStore view_is is) needs.0 needs.1)

    pub move_gives : ◌≡◌ {A = StoreState × Result (Unit {0}) MoveError} (moved_in old from to) (state_of pages' aliases' (puts + 1), Ok tt)
    move_gives = ap (moved_by old from to) (sym answer ∙ ok) ∙ (λ i. (sym state_moved i, Ok tt))

pub may_move_is : (pages : TextMap StampedPage) (aliases : TextMap (List ℕ)) (puts : ℕ) (old : StoreState) (from to : List ℕ)
    (stands taken : Bool) (n : ℕ) (result : Result (Unit {0}) MoveError)
    → state_of pages aliases puts ≡ old → stands ≡ map.contains_key pages from → taken ≡ map.contains_key pages to
    → (map.contains_key pages from ≡ true → n ≡ map.len (aliases_after aliases from to)) → result ≡ move_fits stands taken n puts
    → result ≡ may_move old from to
may_move_is pages aliases puts old from to stands taken n result view_is stands_is taken_is count said =
    said
    ∙ (λ i. move_fits ((stands_is ∙ stands_in pages aliases puts old from view_is) i)
    ((taken_is ∙ stands_in pages aliases puts old to view_is) i) n puts)
    ∙ by (map.contains_key old.site.pages from) refl
    ∙ ap (λ m. move_fits (map.contains_key old.site.pages from) (map.contains_key old.site.pages to)
    (map.len (aliases_after aliases from to)) m) (ap (λ s. s.puts) view_is)
    ∙ ap (λ m. move_fits (map.contains_key old.site.pages from) (map.contains_key old.site.pages to) (map.len (aliases_after m from to))
    old.puts) (ap (λ s. s.site.aliases) view_is)
  where
    by : (b : Bool) → map.contains_key old.site.pages from ≡ b
        → move_fits b (map.contains_key old.site.pages to) n puts ≡ move_fits b (map.contains_key old.site.pages to)
        (map.len (aliases_after aliases from to)) puts
    by false e = refl
    by true e = ap (λ m. move_fits true (map.contains_key old.site.pages to) m puts)
        (count (stands_in pages aliases puts old from view_is ∙ e))
