-- One map by path and stamp, through the edits of a store.
use Rattle.std.proofs.Common.{◌≡◌, ℕ, ◌<◌, List, Bool, true, false, cond, ◌&&◌, ◌==◌, is_some, refl, ap, sym, subst, ◌∙◌}
use Rattle.std.specs.Prelude.{Option, Some, None, option_map, if◌then◌else◌}
use Rattle.std.specs.Cmp.{unsigned_tied}
use Rattle.std.specs.FinMap as map
use Rattle.std.proofs.Math.Nat.{lt_irrefl}
use Rattle.std.proofs.lemmas.Bool.{both_ways}
use Rattle.doc_index_tables.specs.Maps.{PairMap}
use Rattle.doc_index_tables.specs.TableSteps.{same_number}
use Rattle.doc_index_tables.proofs.CountSteps.{number_is, number_itself}
use Rattle.doc_index_tables.proofs.PairSteps.{both_same, pairs_total}
use Rattle.doc_page_parts.specs.declared.rendered.Rendered.{Rendered}
use Rattle.doc_store_readers.proofs.KeySteps.{get_set, get_taken, same_from, same_itself, same_key}
use Rattle.doc_store_readers.specs.Maps.{TextMap}
use Rattle.doc_store_readers.specs.Pages.{Page}
use Rattle.doc_store.specs.Store.{StoreState, IsStore, effect_of, remove_page, with_key_at, with_move, with_page, without_page}
use Rattle.doc_shelf_pages.specs.Shelves.{Knows, page_under}
use Rattle.doc_shelf_pages.specs.Held.{rendered_under}
use Rattle.doc_shelf_pages.specs.Views.{Renders}

-- what is known once what stood under a path and a stamp, if any, was let go
abbrev pub gone : {X : Type 0} → PairMap X → List ℕ → Option ℕ → PairMap X
gone held path None = held
gone held path (Some stamp) = map.remove held (path, stamp)

module _ {X : Type 0} (held : PairMap X) where
  -- under another path nothing is changed
  set_apart : (path other : List ℕ) (stamp at : ℕ) (value : X) → same_key other path ≡ false
      → map.get (map.insert held (path, stamp) value) (other, at) ≡ map.get held (other, at)
  set_apart path other stamp at value apart =
      map.get-insert pairs_total held (path, stamp) value (other, at)
      ∙ ap (λ b. cond b (Some value) (map.get held (other, at)))
      (both_same (other, at) (path, stamp) ∙ ap (λ b. b && same_number at stamp) apart)

  taken_apart : (path other : List ℕ) (stamp at : ℕ) → same_key other path ≡ false
      → map.get (map.remove held (path, stamp)) (other, at) ≡ map.get held (other, at)
  taken_apart path other stamp at apart =
      map.get-remove pairs_total held (path, stamp) (other, at)
      ∙ ap (λ b. cond b None (map.get held (other, at)))
      (both_same (other, at) (path, stamp) ∙ ap (λ b. b && same_number at stamp) apart)

  gone_apart : (path other : List ℕ) (present : Option ℕ) (at : ℕ) → same_key other path ≡ false
      → map.get (gone held path present) (other, at) ≡ map.get held (other, at)
  gone_apart path other None at apart = refl
  gone_apart path other (Some stamp) at apart = taken_apart path other stamp at apart

  -- under the path itself the stamp decides
  set_here : (path : List ℕ) (stamp at : ℕ) (value : X)
      → map.get (map.insert held (path, stamp) value) (path, at) ≡ cond (at == stamp) (Some value) (map.get held (path, at))
  set_here path stamp at value =
      map.get-insert pairs_total held (path, stamp) value (path, at)
      ∙ ap (λ b. cond b (Some value) (map.get held (path, at)))
      (both_same (path, at) (path, stamp) ∙ ap (λ b. b && same_number at stamp) (same_itself path) ∙ unsigned_tied at stamp)

  taken_here : (path : List ℕ) (stamp at : ℕ)
      → map.get (map.remove held (path, stamp)) (path, at) ≡ cond (at == stamp) None (map.get held (path, at))
  taken_here path stamp at =
      map.get-remove pairs_total held (path, stamp) (path, at)
      ∙ ap (λ b. cond b None (map.get held (path, at)))
      (both_same (path, at) (path, stamp) ∙ ap (λ b. b && same_number at stamp) (same_itself path) ∙ unsigned_tied at stamp)

-- what stands in a map after a set and a removal
module _ {X : Type 0} (m : TextMap X) where
  pub get_own : (k : List ℕ) (v : X) → map.get (map.insert m k v) k ≡ Some v
  get_own k v = get_set m k v k ∙ ap (λ b. cond b (Some v) (map.get m k)) (same_itself k)

  pub get_other : (k : List ℕ) (v : X) (q : List ℕ) → same_key q k ≡ false → map.get (map.insert m k v) q ≡ map.get m q
  get_other k v q apart = get_set m k v q ∙ ap (λ b. cond b (Some v) (map.get m q)) apart

  pub get_gone : (k : List ℕ) → map.get (map.remove m k) k ≡ None
  get_gone k = get_taken m k k ∙ ap (λ b. cond b None (map.get m k)) (same_itself k)

  pub get_left : (k q : List ℕ) → same_key q k ≡ false → map.get (map.remove m k) q ≡ map.get m q
  get_left k q apart = get_taken m k q ∙ ap (λ b. cond b None (map.get m q)) apart

-- numbers that differ
pub later_is_other : (a b : ℕ) → a < b → (b == a) ≡ false
later_is_other a b less = by (b == a) refl
  where
    by : (c : Bool) → (b == a) ≡ c → c ≡ false
    by true same = absurd (lt_irrefl a (subst (λ n. a < n) (number_is b a (unsigned_tied b a ∙ same)) less))
    by false other = refl

module _ (render : Renders) where
  -- under another stamp than the present one nothing stands
  pub under_none : (stamp : ℕ) (present : Option ℕ) → rendered_under render stamp present None ≡ None
  under_none stamp None = refl
  under_none stamp (Some present) = refl

  pub under_other : (stamp present : ℕ) (page : Option Page) → (stamp == present) ≡ false
      → rendered_under render stamp (Some present) page ≡ None
  under_other stamp present None other = refl
  under_other stamp present (Some page) other = ap (λ b. if b then Some (render page.text) else None) other

  pub under_own : (stamp : ℕ) (page : Page) → rendered_under render stamp (Some stamp) (Some page) ≡ Some (render page.text)
  under_own stamp page = ap (λ b. if b then Some (render page.text) else None) (sym (unsigned_tied stamp stamp) ∙ number_itself stamp)

  -- under the next stamp nothing stands
  pub nothing_next : (store : StoreState) (path : List ℕ) → IsStore store → page_under render store path store.puts ≡ None
  nothing_next store path is = by (map.get store.stamps path) refl
    where
      by : (present : Option ℕ) → map.get store.stamps path ≡ present
          → rendered_under render store.puts present (map.get store.site.pages path) ≡ None
      by None e = refl
      by (Some present) e =
          under_other store.puts present (map.get store.site.pages path) (later_is_other present store.puts (is.below path present e))

module _ {X : Type 0} (known : List ℕ → Rendered → X) (render : Renders) (store : StoreState) (is : IsStore store) (held : PairMap X)
    (knows : Knows known render store held) where
  -- what is known under a path and a stamp, by what the path has
  abbrev known_by : List ℕ → ℕ → Option ℕ → Option Page → Option X
  known_by path at present page = option_map (known path) (rendered_under render at present page)

  -- where the path has no stamp nothing is known of it
  none_known : (path : List ℕ) (at : ℕ) → map.get store.stamps path ≡ None → map.get held (path, at) ≡ None
  none_known path at none = knows path at ∙ ap (λ s. known_by path at s (map.get store.site.pages path)) none

  -- and under another stamp than its own nothing
  other_known : (path : List ℕ) (at present : ℕ) → map.get store.stamps path ≡ Some present → (at == present) ≡ false
      → map.get held (path, at) ≡ None
  other_known path at present stamped other =
      knows path at
      ∙ ap (λ s. known_by path at s (map.get store.site.pages path)) stamped
      ∙ ap (option_map (known path)) (under_other render at present (map.get store.site.pages path) other)

  -- once it is let go nothing is known of a path
  none_left : (path : List ℕ) (at : ℕ) (present : Option ℕ) → map.get store.stamps path ≡ present
      → map.get (gone held path present) (path, at) ≡ None
  none_left path at None stamped = none_known path at stamped
  none_left path at (Some present) stamped = taken_here held path present at ∙ by (at == present) refl
    where
      by : (b : Bool) → (at == present) ≡ b → cond b None (map.get held (path, at)) ≡ None
      by true same = refl
      by false other = other_known path at present stamped other

  -- what is known under the next stamp alone
  next_known : (path : List ℕ) (page : Page) (at : ℕ) → cond (at == store.puts) (Some (known path (render page.text))) None
      ≡ known_by path at (Some store.puts) (Some page)
  next_known path page at = by (at == store.puts)
    where
      by : (b : Bool) → cond b (Some (known path (render page.text))) None
          ≡ option_map (known path) (if b then Some (render page.text) else None)
      by true = refl
      by false = refl

  -- ---- a put

  module _ (path : List ℕ) (page : Page) where
    abbrev value : X
    value = known path (render page.text)

    abbrev added : PairMap X
    added = map.insert held (path, store.puts) value

    put_left : (at : ℕ) (present : Option ℕ) → map.get store.stamps path ≡ present
        → map.get (gone added path present) (path, at) ≡ cond (at == store.puts) (Some value) None
    put_left at None stamped = set_here held path store.puts at value
        ∙ ap (cond (at == store.puts) (Some value)) (none_known path at stamped)
    put_left at (Some present) stamped =
        taken_here added path present at
        ∙ ap (cond (at == present) None) (set_here held path store.puts at value)
        ∙ by (at == present) (at == store.puts) refl refl
      where
        by : (b c : Bool) → (at == present) ≡ b → (at == store.puts) ≡ c
            → cond b None (cond c (Some value) (map.get held (path, at))) ≡ cond c (Some value) None
        by true true same next =
            absurd (both_ways (at == present)
            (ap (λ n. n == present) (number_is at store.puts (unsigned_tied at store.puts ∙ next))
            ∙ later_is_other present store.puts (is.below path present stamped)) same)
        by true false same other = refl
        by false true other next = refl
        by false false other last = other_known path at present stamped other

    abbrev after_put : StoreState
    after_put = with_page store path page

    put_here : (at : ℕ) → map.get (gone added path (map.get store.stamps path)) (path, at)
        ≡ option_map (known path) (page_under render after_put path at)
    put_here at =
        put_left at (map.get store.stamps path) refl
        ∙ next_known path page at
        ∙ ap (λ s. known_by path at s (Some page)) (sym (get_own store.stamps path store.puts))
        ∙ ap (known_by path at (map.get after_put.stamps path)) (sym (get_own store.site.pages path page))

    put_apart : (other : List ℕ) (at : ℕ) → same_key other path ≡ false
        → map.get (gone added path (map.get store.stamps path)) (other, at) ≡ option_map (known other)
        (page_under render after_put other at)
    put_apart other at apart =
        gone_apart added path other (map.get store.stamps path) at apart
        ∙ set_apart held path other store.puts at value apart
        ∙ knows other at
        ∙ ap (λ s. known_by other at s (map.get store.site.pages other)) (sym (get_other store.stamps path store.puts other apart))
        ∙ ap (known_by other at (map.get after_put.stamps other)) (sym (get_other store.site.pages path page other apart))

    pub put_knows : Knows known render after_put (gone added path (map.get store.stamps path))
    put_knows other at = by (same_key other path) refl
      where
        by : (b : Bool) → same_key other path ≡ b
            → map.get (gone added path (map.get store.stamps path)) (other, at) ≡ option_map (known other)
            (page_under render after_put other at)
        by true same =
            subst (λ q. map.get (gone added path (map.get store.stamps path)) (q, at)
            ≡ option_map (known q) (page_under render after_put q at)) (sym (same_from other path same)) (put_here at)
        by false apart = put_apart other at apart

  -- ---- a removal

  module _ (path : List ℕ) where
    abbrev after_removal : Bool → StoreState
    after_removal b =
        if b
        then record { site = effect_of store.site (remove_page path); stamps = map.remove store.stamps path; puts = store.puts }
        else store

    taken_knows : Knows known render (after_removal true) (gone held path (map.get store.stamps path))
    taken_knows other at = by (same_key other path) refl
      where
        by : (b : Bool) → same_key other path ≡ b
            → map.get (gone held path (map.get store.stamps path)) (other, at)
            ≡ option_map (known other) (page_under render (after_removal true) other at)
        by true same =
            subst (λ q. map.get (gone held path (map.get store.stamps path)) (q, at)
            ≡ option_map (known q) (page_under render (after_removal true) q at)) (sym (same_from other path same))
            (none_left path at (map.get store.stamps path) refl
            ∙ ap (λ s. known_by path at s (map.get (map.remove store.site.pages path) path)) (sym (get_gone store.stamps path)))
        by false apart =
            gone_apart held path other (map.get store.stamps path) at apart
            ∙ knows other at
            ∙ ap (λ s. known_by other at s (map.get store.site.pages other)) (sym (get_left store.stamps path other apart))
            ∙ ap (known_by other at (map.get (map.remove store.stamps path) other)) (sym (get_left store.site.pages path other apart))

    unstamped : (present : Option ℕ) → is_some present ≡ false → present ≡ None
    unstamped None none = refl
    unstamped (Some stamp) none = absurd (both_ways true none refl)

    removed_by : (b : Bool) → map.contains_key store.site.pages path ≡ b
        → Knows known render (after_removal b) (gone held path (map.get store.stamps path))
    removed_by true stands = taken_knows
    removed_by false absent =
        subst (λ present. Knows known render store (gone held path present))
        (sym (unstamped (map.get store.stamps path) (is.stamped path ∙ absent))) knows

    pub removal_knows : Knows known render (without_page store path) (gone held path (map.get store.stamps path))
    removal_knows = removed_by (map.contains_key store.site.pages path) refl

  -- ---- a move

  module _ (from to : List ℕ) (stamp : ℕ) (page : Page) (stamped : map.get store.stamps from ≡ Some stamp)
      (stands : map.get store.site.pages from ≡ Some page) (free : map.get store.site.pages to ≡ None) where
    abbrev moved_value : X
    moved_value = known to (render page.text)

    abbrev carried_over : PairMap X
    carried_over = map.insert held (to, store.puts) moved_value

    abbrev after_move : StoreState
    after_move = with_move store from to

    abbrev pages_after : TextMap Page
    pages_after = map.insert (map.remove store.site.pages from) to page

    pages_are : after_move.site.pages ≡ pages_after
    pages_are = ap (with_key_at store.site.pages from to) stands

    no_stamp : map.get store.stamps to ≡ None
    no_stamp = unstamped to (map.get store.stamps to) (is.stamped to ∙ ap is_some free)

    differ : (a b : List ℕ) → map.get store.site.pages a ≡ Some page → map.get store.site.pages b ≡ None → same_key a b ≡ false
    differ a b has none = by (same_key a b) refl
      where
        by : (c : Bool) → same_key a b ≡ c → c ≡ false
        by true same = absurd (both_ways true (sym (ap is_some has) ∙ ap (λ q. map.contains_key store.site.pages q) (same_from a b same)
            ∙ ap is_some none) refl)
        by false apart = refl

    from_to : same_key from to ≡ false
    from_to = differ from to stands free

    to_from : same_key to from ≡ false
    to_from = by (same_key to from) refl
      where
        by : (c : Bool) → same_key to from ≡ c → c ≡ false
        by true same = absurd (both_ways (same_key from to) from_to (ap (λ q. same_key from q) (same_from to from same) ∙ same_itself from))
        by false apart = refl

    abbrev left : PairMap X
    left = map.remove carried_over (from, stamp)

    at_to : (at : ℕ) → map.get left (to, at) ≡ option_map (known to) (page_under render after_move to at)
    at_to at =
        taken_apart carried_over from to stamp at to_from
        ∙ set_here held to store.puts at moved_value
        ∙ ap (cond (at == store.puts) (Some moved_value)) (none_known to at no_stamp)
        ∙ next_known to page at
        ∙ ap (λ s. known_by to at s (Some page)) (sym (get_own (map.remove store.stamps from) to store.puts))
        ∙ ap (known_by to at (map.get after_move.stamps to))
        (sym (get_own (map.remove store.site.pages from) to page) ∙ ap (λ m. map.get m to) (sym pages_are))

    at_from : (at : ℕ) → map.get left (from, at) ≡ option_map (known from) (page_under render after_move from at)
    at_from at =
        taken_here carried_over from stamp at
        ∙ ap (cond (at == stamp) None) (set_apart held to from store.puts at moved_value from_to)
        ∙ by (at == stamp) refl
        ∙ ap (λ s. known_by from at s (map.get after_move.site.pages from))
        (sym (get_other (map.remove store.stamps from) to store.puts from from_to ∙ get_gone store.stamps from))
      where
        by : (b : Bool) → (at == stamp) ≡ b → cond b None (map.get held (from, at)) ≡ None
        by true same = refl
        by false other = other_known from at stamp stamped other

    at_other : (other : List ℕ) (at : ℕ) → same_key other to ≡ false → same_key other from ≡ false
        → map.get left (other, at) ≡ option_map (known other) (page_under render after_move other at)
    at_other other at apart away =
        taken_apart carried_over from other stamp at away
        ∙ set_apart held to other store.puts at moved_value apart
        ∙ knows other at
        ∙ ap (λ s. known_by other at s (map.get store.site.pages other))
        (sym (get_other (map.remove store.stamps from) to store.puts other apart ∙ get_left store.stamps from other away))
        ∙ ap (known_by other at (map.get after_move.stamps other))
        (sym (get_other (map.remove store.site.pages from) to page other apart ∙ get_left store.site.pages from other away)
        ∙ ap (λ m. map.get m other) (sym pages_are))

    pub move_knows : Knows known render after_move left
    move_knows other at = by (same_key other to) (same_key other from) refl refl
      where
        by : (b c : Bool) → same_key other to ≡ b → same_key other from ≡ c
            → map.get left (other, at) ≡ option_map (known other) (page_under render after_move other at)
        by true c same d =
            subst (λ q. map.get left (q, at) ≡ option_map (known q) (page_under render after_move q at)) (sym (same_from other to same))
            (at_to at)
        by false true apart same =
            subst (λ q. map.get left (q, at) ≡ option_map (known q) (page_under render after_move q at)) (sym (same_from other from same))
            (at_from at)
        by false false apart away = at_other other at apart away
