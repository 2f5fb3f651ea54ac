-- Stores whose maps are written out as lists of entries, on which examples compute.
use Rattle.std.proofs.Common.{◌≡◌, ℕ, ◌+◌, List, [], ◌∷◌, map as mapped, Bool, true, false, cond, not, bytes_eq, is_some, refl, ap, sym}
use Rattle.std.proofs.Common.{◌∙◌}
use Rattle.std.specs.Prelude.{Option, Some, None, option_map, Result, Ok, Err, nat_lt, nat_le, ◌||◌, if◌then◌else◌}
use Rattle.std.specs.Cmp.{eq_by_cmp_equiv}
use Rattle.std.specs.Cmp.Lexicographic.{slice_cmp}
use Rattle.std.specs.FinMap as map
use Rattle.std.specs.FinMap.Entries.{find, where_key, find-where_key}
use Rattle.std.specs.List.{filter}
use Rattle.std.specs.List.Sorted.{IsStrictlySortedBy}
use Rattle.std.specs.Map.{keys_of}
use Rattle.std.specs.Ordering.{nat_cmp}
use Rattle.std.proofs.lemmas.Cmp.{nat_list_cmp_total}
use Rattle.std.proofs.lemmas.Map.Lookups.{exact_bytes}
use Rattle.doc_store.specs.declared.moving.MoveError.{MoveError}
use Rattle.doc_store.specs.declared.moving.MoveError.TheVariants as move_errors
use Rattle.doc_store.specs.declared.store.EditError.{EditError}
use Rattle.doc_store.specs.declared.store.Put.{Put}
use Rattle.doc_store.specs.declared.store.Put.TheVariants.{Created, Replaced}
use Rattle.doc_store.proofs.AliasSteps.{goals_removed}
use Rattle.doc_store_readers.proofs.KeySteps.{same_key}
use Rattle.doc_store_readers.proofs.MapValues.{find-changed, get-map_values}
use Rattle.doc_store_readers.specs.Maps.{TextMap, map_values}
use Rattle.doc_store_readers.specs.Pages.{Page}
use Rattle.doc_store.specs.Store.{StoreState, put_into, put_by, fits, without_goal, without_page, goal_after, aliases_after, alias_limit}
use Rattle.doc_store.specs.Store.{put_limit, move_fits, moved_by, moved_in, with_key_at}

abbrev pub Entries : Type 0 → Type 0
Entries X = List (List ℕ × X)

abbrev pub made : {X : Type 0} → Entries X → TextMap X
made entries = map.from_entries entries

abbrev pub at : {X : Type 0} → List ℕ → Entries X → Option X
at path entries = find (slice_cmp nat_cmp) path entries

abbrev pub has : {X : Type 0} → List ℕ → Entries X → Bool
has path entries = is_some (at path entries)

abbrev pub without : {X : Type 0} → List ℕ → Entries X → Entries X
without path entries = where_key (slice_cmp nat_cmp) (λ k. not (same_key path k)) entries

abbrev pub store_of : Entries Page → Entries (List ℕ) → Entries ℕ → ℕ → StoreState
store_of pages aliases stamps puts = record {
  site = record { pages = made pages; aliases = made aliases };
  stamps = made stamps;
  puts = puts;
}

-- ---- maps of entries

get-made : {X : Type 0} (entries : Entries X) (path : List ℕ) → map.get (made entries) path ≡ at path entries
get-made entries path = map.get-from_entries nat_list_cmp_total entries path

pub has-made : {X : Type 0} (entries : Entries X) (path : List ℕ) → map.contains_key (made entries) path ≡ has path entries
has-made entries path = ap is_some (get-made entries path)

pub removed-made : {X : Type 0} (entries : Entries X) (path : List ℕ) → map.remove (made entries) path ≡ made (without path entries)
removed-made {X = X} entries path = map.same_map nat_list_cmp_total exact_bytes _ _ (λ q.
    map.get-remove nat_list_cmp_total (made entries) path q
    ∙ ap (cond (same_key q path) None) (get-made entries q)
    ∙ turned (same_key q path) (at q entries)
    ∙ ap (λ b. cond (not b) (at q entries) None) ((eq_by_cmp_equiv nat_list_cmp_total).symm q path)
    ∙ sym (find-where_key (slice_cmp nat_cmp) (λ k. not (same_key path k)) q
    (λ x tied. ap (λ k. not (same_key path k)) (sym (exact_bytes q x tied))) entries)
    ∙ sym (get-made (without path entries) q))
  where
    turned : (b : Bool) (o : Option X) → cond b None o ≡ cond (not b) o None
    turned true o = refl
    turned false o = refl

changed-made : {X Y : Type 0} (f : X → Y) (entries : Entries X)
    → map_values f (made entries) ≡ made (mapped (λ entry. (entry.0, f entry.1)) entries)
changed-made f entries = map.same_map nat_list_cmp_total exact_bytes _ _ (λ q.
    get-map_values f (made entries) q ∙ ap (option_map f) (get-made entries q) ∙ sym (find-changed f q entries)
    ∙ sym (get-made (mapped (λ entry. (entry.0, f entry.1)) entries) q))

pub len-none : (X : Type 0) → map.len (made {X = X} []) ≡ 0
len-none X = map.len-empty (slice_cmp nat_cmp) X

pub len-more : {X : Type 0} (path : List ℕ) (value : X) (entries : Entries X) (n : ℕ) → has path entries ≡ false
    → map.len (made entries) ≡ n → map.len (made ((path, value) ∷ entries)) ≡ n + 1
len-more path value entries n new e =
    map.len-insert nat_list_cmp_total (made entries) path value
    ∙ ap (λ b. cond b (map.len (made entries)) (map.len (made entries) + 1)) (has-made entries path ∙ new) ∙ ap (λ m. m + 1) e

-- ---- edits

abbrev pub moved_aliases : Entries (List ℕ) → List ℕ → List ℕ → Entries (List ℕ)
moved_aliases aliases from to = (from, to) ∷ mapped (λ entry. (entry.0, goal_after from to entry.1)) (without to aliases)

aliases-made : (aliases : Entries (List ℕ)) (from to : List ℕ) → aliases_after (made aliases) from to ≡ made (moved_aliases aliases from to)
unfolding aliases_after
aliases-made aliases from to =
    ap (λ m. map.insert (map_values (goal_after from to) m) from to) (removed-made aliases to)
    ∙ ap (λ m. map.insert m from to) (changed-made (goal_after from to) (without to aliases))

module _ (pages : Entries Page) (aliases : Entries (List ℕ)) (stamps : Entries ℕ) (puts : ℕ) where
  abbrev before : StoreState
  before = store_of pages aliases stamps puts

  pub no_page_on : (from to : List ℕ) → has from pages ≡ false
      → ◌≡◌ {A = StoreState × Result (Unit {0}) MoveError} (moved_in before from to) (before, Err move_errors.NoPage)
  no_page_on from to none = ap (λ b. moved_by before from to
      (move_fits b (map.contains_key (made pages) to) (map.len (aliases_after (made aliases) from to)) puts)) (has-made pages from ∙ none)

  pub taken_on : (from to : List ℕ) → has from pages ≡ true → has to pages ≡ true
      → ◌≡◌ {A = StoreState × Result (Unit {0}) MoveError} (moved_in before from to) (before, Err move_errors.Taken)
  taken_on from to stands taken =
      λ i. moved_by before from to (move_fits ((has-made pages from ∙ stands) i) ((has-made pages to ∙ taken) i)
      (map.len (aliases_after (made aliases) from to)) puts)

  pub full_on : (from to : List ℕ) (n : ℕ) → has from pages ≡ true → has to pages ≡ false
      → map.len (made (moved_aliases aliases from to)) ≡ n → (nat_lt alias_limit n || nat_le put_limit puts) ≡ true
      → ◌≡◌ {A = StoreState × Result (Unit {0}) MoveError} (moved_in before from to) (before, Err move_errors.StoreFull)
  full_on from to n stands free count full =
      (λ i. moved_by before from to (move_fits ((has-made pages from ∙ stands) i) ((has-made pages to ∙ free) i)
      ((ap map.len (aliases-made aliases from to) ∙ count) i) puts))
      ∙ ap (λ b. moved_by before from to (if b then Err move_errors.StoreFull else Ok tt)) full

  pub moved_on : (from to : List ℕ) (page : Page) (n : ℕ) → at from pages ≡ Some page → has to pages ≡ false
      → map.len (made (moved_aliases aliases from to)) ≡ n → (nat_lt alias_limit n || nat_le put_limit puts) ≡ false
      → ◌≡◌ {A = StoreState × Result (Unit {0}) MoveError} (moved_in before from to)
      (store_of ((to, page) ∷ without from pages) (moved_aliases aliases from to) ((to, puts) ∷ without from stamps) (puts + 1), Ok tt)
  moved_on from to page n stands free count room =
      (λ i. moved_by before from to (move_fits ((has-made pages from ∙ ap is_some stands) i) ((has-made pages to ∙ free) i)
      ((ap map.len (aliases-made aliases from to) ∙ count) i) puts))
      ∙ ap (λ b. moved_by before from to (if b then Err move_errors.StoreFull else Ok tt)) room
      ∙ (λ i. (
        record {
          site = record {
            pages = (ap (with_key_at (made pages) from to) (get-made pages from ∙ stands)
                ∙ ap (λ m. map.insert m to page) (removed-made pages from)) i;
            aliases = aliases-made aliases from to i;
          };
          stamps = ap (λ m. map.insert m to puts) (removed-made stamps from) i;
          puts = puts + 1;
        },
        Ok tt,
      ))

  pub put_on : (path : List ℕ) (groups : List (List ℕ)) (text : List ℕ) (stands : Bool) (n : ℕ) → has path pages ≡ stands
      → map.len (made pages) ≡ n → fits n stands puts text ≡ Ok tt
      → ◌≡◌ {A = StoreState × Result Put EditError} (put_into before path groups text) (
        store_of ((path, record { groups = groups; text = text }) ∷ pages) (without path aliases) ((path, puts) ∷ stamps) (puts + 1),
        Ok
            (if stands then Replaced else Created),
      )
  put_on path groups text stands n there count room =
      (λ i. put_by before path (record { groups = groups; text = text }) ((has-made pages path ∙ there) i)
      (fits (count i) ((has-made pages path ∙ there) i) puts text))
      ∙ ap (put_by before path (record { groups = groups; text = text }) stands) room
      ∙ (λ i. (
        record {
          site = record { pages = made ((path, record { groups = groups; text = text }) ∷ pages); aliases = removed-made aliases path i };
          stamps = made ((path, puts) ∷ stamps);
          puts = puts + 1;
        },
        Ok (if stands then Replaced else Created),
      ))

  pub removed_on : (path : List ℕ) → has path pages ≡ true → IsStrictlySortedBy (slice_cmp nat_cmp) (keys_of aliases)
      → without_page before path ≡ store_of (without path pages) (filter (λ e. not (bytes_eq e.1 path)) aliases) (without path stamps) puts
  removed_on path stands sorted =
      ap (λ b. if b then record {
        site = record { pages = map.remove (made pages) path; aliases = without_goal (made aliases) path };
        stamps = map.remove (made stamps) path;
        puts = puts;
      } else before) (has-made pages path ∙ stands)
      ∙ (λ i. record {
        site = record {
          pages = removed-made pages path i;
          aliases = sym
              (goals_removed aliases (filter (λ e. not (bytes_eq e.1 path)) aliases) path sorted refl) i;
        };
        stamps = removed-made stamps path i;
        puts = puts;
      })

  pub not_removed_on : (path : List ℕ) → has path pages ≡ false → without_page before path ≡ before
  not_removed_on path none =
      ap (λ b. if b then record {
        site = record { pages = map.remove (made pages) path; aliases = without_goal (made aliases) path };
        stamps = map.remove (made stamps) path;
        puts = puts;
      } else before) (has-made pages path ∙ none)
