-- Steps of the pages, of which each is counted by its groups.
use Rattle.std.proofs.Common.{◌≡◌, ℕ, ◌+◌, ◌<◌, ◌≤◌, ◌^◌, suc, List, [], ◌∷◌, Bool, true, false}
use Rattle.std.proofs.Common.{cond, IsTrue, is_err, is_some, length, map as mapped, refl, ap, ap₂, sym, subst, ◌∙◌, arith}
use Rattle.std.specs.Prelude.{Option, Some, None, Result, Ok, Err, IfOk, OnOk, OnErr, Vec, filter, option_map, slice_index_or, sum_by, ◌||◌}
use Rattle.std.specs.FinMap as map
use Rattle.std.specs.Cmp.Lexicographic.{slice_cmp}
use Rattle.std.specs.List.Sorted.{IsStrictlySortedBy}
use Rattle.std.specs.Map.{keys_of, values_of}
use Rattle.std.specs.Ordering.{nat_cmp}
use Rattle.std.proofs.lemmas.Cmp.{nat_list_cmp_total}
use Rattle.std.proofs.lemmas.List.Sums.{sum_by-cons}
use Rattle.std.proofs.lemmas.Map.Entries.{length-values_of}
use Rattle.std.proofs.lemmas.Map.Lookups.{exact_bytes}
use Rattle.std.proofs.lemmas.Option.{none-some, same_Some}
use Rattle.doc_store.proofs.CountSteps.{AreSums, SetMap, groups_exact, groups_itself, groups_total, met_counted, no_values}
use Rattle.doc_store.proofs.NumberSteps.{none_there, same_counts}
use Rattle.doc_store.proofs.SumSteps.{none_to_take, sum_new, sum_set, sum_taken, taken_again}
use Rattle.doc_store.specs.declared.group_sets.GroupSet.{GroupSet}
use Rattle.doc_store.specs.GroupSets.{AreCounts, AreNumbered, Keeps, NumberedSets, groups_at, groups_cmp, met_at, no_sets, number_met, number_with}
use Rattle.doc_store.specs.GroupSets.{one_more, same_groups, sees_groups, set_of, slot_at}
use Rattle.doc_store.specs.Store.{with_key, with_key_at}
use Rattle.doc_store_pages.specs.MoveSteps.{restamped, with_stamped, with_stamped_at}
use Rattle.doc_page_parts.proofs.Maps.{entries_in_order, is_sorted_keys}
use Rattle.doc_store_readers.proofs.KeySteps.{get_set, get_taken, not_none, same_key, stood}
use Rattle.doc_store_readers.proofs.MapValues.{entries-map_values, get-map_values}
use Rattle.doc_store_readers.specs.declared.reader.Reader.{Reader}
use Rattle.doc_store_readers.specs.Groups.{meet}
use Rattle.doc_store_readers.specs.Maps.{TextMap, map_values}
use Rattle.doc_store_readers.specs.Pages.{Page, StampedPage}
use Rattle.doc_store_readers.specs.Sites.{may_see}

swapped : (a b n : ℕ) → a + (b + n) ≡ b + (a + n)
swapped a b n = omega arith

-- whether a page has these groups, as a number
abbrev one : List (List ℕ) → StampedPage → ℕ
one groups page = cond (same_groups groups page.page.groups) 1 0

-- what is counted in the pages of a map
abbrev pub Counted : NumberedSets → TextMap StampedPage → Type 0
Counted sets pages = AreCounts sets (number_with (map.values pages))

-- what is counted in these pages and one more
abbrev pub CountedBeside : NumberedSets → StampedPage → TextMap StampedPage → Type 0
CountedBeside sets page pages = AreCounts sets (one_more page.page.groups (number_with (map.values pages)))

module _ (sets : NumberedSets) (pages : TextMap StampedPage) (path : List ℕ) where
  pub counted_new : (page : StampedPage) → map.get pages path ≡ None → CountedBeside sets page pages
      → Counted sets (map.insert pages path page)
  counted_new page none = same_counts sets _ _ (λ groups. sym (sum_new nat_list_cmp_total exact_bytes (one groups) pages path page none))

  pub counted_set : (page old : StampedPage) → map.get pages path ≡ Some old → CountedBeside sets page pages
      → CountedBeside sets old (map.insert pages path page)
  counted_set page old found = same_counts sets _ _ (λ groups.
      ap (λ n. one groups page + n) (sum_taken nat_list_cmp_total exact_bytes (one groups) pages path old found)
      ∙ swapped (one groups page) (one groups old) _
      ∙ ap (λ n. one groups old + n) (sym (sum_set nat_list_cmp_total exact_bytes (one groups) pages path page)))

  pub counted_taken : (page : StampedPage) → map.get pages path ≡ Some page → Counted sets pages
      → CountedBeside sets page (map.remove pages path)
  counted_taken page found = same_counts sets _ _ (λ groups. sum_taken nat_list_cmp_total exact_bytes (one groups) pages path page found)

module _ (sets : NumberedSets) (pages : TextMap StampedPage) (from to : List ℕ) (stamp : ℕ) where
  renamed : (page room : StampedPage) → map.get pages from ≡ Some page → map.get (map.remove pages from) to ≡ Some room
      → Counted sets pages → CountedBeside sets room (map.insert (map.remove pages from) to (restamped stamp page))
  renamed page room found free = same_counts sets _ _ (λ groups.
      sum_taken nat_list_cmp_total exact_bytes (one groups) pages from page found
      ∙ ap (λ n. one groups page + n) (sum_taken nat_list_cmp_total exact_bytes (one groups) (map.remove pages from) to room free)
      ∙ swapped (one groups page) (one groups room) _
      ∙ ap (λ n. one groups room + n)
      (sym (sum_set nat_list_cmp_total exact_bytes (one groups) (map.remove pages from) to (restamped stamp page))))

  pub counted_renamed : (room : StampedPage) → Some room ≡ map.get pages to → IsTrue (map.contains_key pages from)
      → IsTrue (map.contains_key (map.remove pages from) to) → Counted sets pages
      → CountedBeside sets room (with_stamped pages from to stamp)
  counted_renamed room there stands free counts = by (map.get pages from) refl (map.get (map.remove pages from) to) refl stands free
    where
      by : (found : Option StampedPage) → map.get pages from ≡ found → (place : Option StampedPage)
          → map.get (map.remove pages from) to ≡ place → IsTrue (is_some found) → IsTrue (is_some place)
          → CountedBeside sets room (with_stamped_at pages from to stamp found)
      by None e place f s t = absurd cc
      by (Some page) e None f s t = absurd cc
      by (Some page) e (Some other) f s t =
          let same : other ≡ room = same_Some other room (sym ((stood pages from to other f).1) ∙ sym there) in
          renamed page room e (f ∙ ap Some same) counts

pub room_stands : (pages : TextMap StampedPage) (from to : List ℕ) → None ≡ map.get pages to
    → IsTrue (map.contains_key (map.remove pages from) to) → ⊥
room_stands pages from to none free = by (map.get (map.remove pages from) to) refl free
  where
    by : (place : Option StampedPage) → map.get (map.remove pages from) to ≡ place → IsTrue (is_some place) → ⊥
    by None f t = cc
    by (Some other) f t = not_none other (none ∙ (stood pages from to other f).1)

-- ---- sets by their names

-- a set, one without pages in place of nothing
abbrev shown_set : Option GroupSet → GroupSet
shown_set None = record { groups = []; pages = 0 }
shown_set (Some set) = set

abbrev changed_entries : {X Y : Type 0} → (X → Y) → List (List (List ℕ) × X) → List (List (List ℕ) × Y)
changed_entries change entries = mapped (λ entry. (entry.0, change entry.1)) entries

sets_of : NumberedSets → SetMap
sets_of sets = map.from_entries (changed_entries (λ n. shown_set (slot_at sets n)) (map.entries sets.numbers))

module _ {X Y : Type 0} (f : X → Y) where
  found_changed : (q : List (List ℕ)) (es : List (List (List ℕ) × X))
      → map.find groups_cmp q (changed_entries f es) ≡ option_map f (map.find groups_cmp q es)
  found_changed q [] = refl
  found_changed q (e ∷ es) = ap (cond (same_groups q e.0) (Some (f e.1))) (found_changed q es) ∙ by (same_groups q e.0)
    where
      by : (b : Bool) → cond b (Some (f e.1)) (option_map f (map.find groups_cmp q es))
          ≡ option_map f (cond b (Some e.1) (map.find groups_cmp q es))
      by true = refl
      by false = refl

  keys_changed : (es : List (List (List ℕ) × X)) → keys_of (changed_entries f es) ≡ keys_of es
  keys_changed [] = refl
  keys_changed (e ∷ es) = ap (λ keys. e.0 ∷ keys) (keys_changed es)

  sum_changed : (weight : Y → ℕ) (weigh : X → ℕ) → ((x : X) → weigh x ≡ weight (f x)) → (es : List (List (List ℕ) × X))
      → sum_by weigh (values_of es) ≡ sum_by weight (values_of (changed_entries f es))
  sum_changed weight weigh same [] = refl
  sum_changed weight weigh same (e ∷ es) =
      sum_by-cons weigh e.1 (values_of es) ∙ ap₂ (λ a b. a + b) (same e.1) (sum_changed weight weigh same es)
      ∙ sym (sum_by-cons weight (f e.1) (values_of (changed_entries f es)))

met_shown : (ours : List (List ℕ)) (set : Option GroupSet) → met_at ours set ≡ number_met ours (shown_set set)
met_shown ours None = by (meet ours [])
  where
    by : (b : Bool) → ◌≡◌ {A = ℕ} 0 (cond b 0 0)
    by true = refl
    by false = refl
met_shown ours (Some set) = refl

are_sums : (sets : NumberedSets) (number : List (List ℕ) → ℕ) → AreCounts sets number → AreSums (sets_of sets) number
unfolding sets_of
are_sums sets number counts groups =
    map.get-from_entries groups_total (changed_entries (λ n. shown_set (slot_at sets n)) (map.entries sets.numbers)) groups
    ∙ found_changed (λ n. shown_set (slot_at sets n)) groups (map.entries sets.numbers)
    ∙ ap (option_map (λ n. shown_set (slot_at sets n))) (sym (map.get-entries sets.numbers groups))
    ∙ by (map.get sets.numbers groups) (set_of groups (number groups)) (counts.each groups)
  where
    by : (n : Option ℕ) (set : Option GroupSet) → option_map (slot_at sets) n ≡ option_map Some set
        → option_map (λ m. shown_set (slot_at sets m)) n ≡ set
    by None None e = refl
    by None (Some set) e = absurd cc
    by (Some n) None e = absurd cc
    by (Some n) (Some set) e = ap (λ o. Some (shown_set o)) (same_Some (slot_at sets n) (Some set) e)

sums_are : (ours : List (List ℕ)) (sets : NumberedSets) → sum_by (λ number. met_at ours (slot_at sets number)) (map.values sets.numbers)
    ≡ sum_by (number_met ours) (map.values (sets_of sets))
unfolding sets_of
sums_are ours sets =
    let shown : ℕ → GroupSet = λ n. shown_set (slot_at sets n) in
    let es = map.entries sets.numbers in
    sum_changed shown (number_met ours) (λ n. met_at ours (slot_at sets n)) (λ n. met_shown ours (slot_at sets n)) es
    ∙ ap (λ entries. sum_by (number_met ours) (values_of entries))
    (sym (entries_in_order groups_total groups_exact (changed_entries shown es)
    (subst (IsStrictlySortedBy groups_cmp) (sym (keys_changed shown es)) (is_sorted_keys groups_cmp es (map.entries_sorted sets.numbers)))))

-- ---- how many pages are seen

all_kept : (pages : List StampedPage) → length pages ≡ length (filter (λ page. true) pages)
all_kept [] = refl
all_kept (page ∷ rest) = ap (λ n. suc n) (all_kept rest)

few_kept : (p : StampedPage → Bool) (pages : List StampedPage) → length (filter p pages) ≤ length pages
few_kept p [] = omega arith
few_kept p (page ∷ rest) = by (p page) (filter p rest) (few_kept p rest)
  where
    by : (b : Bool) (some : List StampedPage) → length some ≤ length rest → length (cond b (page ∷ some) some) ≤ suc (length rest)
    by true some few = omega (arith, few)
    by false some few = omega (arith, few)

len_is : (pages : TextMap StampedPage) → map.len pages ≡ length (map.values pages)
len_is pages = map.len-entries pages ∙ sym (length-values_of (map.entries pages))

module _ (reader : Reader) (pages : TextMap StampedPage) where
  abbrev seen_by : Bool → ℕ
  seen_by owner = length (filter (λ page. owner || meet reader.groups page.page.groups) (map.values pages))

  -- an owner sees all
  pub owner_sees : reader.owner ≡ true → map.len pages ≡ length (filter (λ page. may_see (Some reader) page.page) (map.values pages))
  owner_sees is = len_is pages ∙ all_kept (map.values pages) ∙ ap seen_by (sym is)

  module _ (sets : NumberedSets) (counts : Counted sets pages) where
    -- others see the pages whose groups meet theirs
    pub reader_sees : reader.owner ≡ false → sum_by (λ number. met_at reader.groups (slot_at sets number)) (map.values sets.numbers)
        ≡ length (filter (λ page. may_see (Some reader) page.page) (map.values pages))
    reader_sees is =
        sums_are reader.groups sets
        ∙ met_counted reader.groups (map.values pages) (sets_of sets) (are_sums sets (number_with (map.values pages)) counts)
        ∙ ap seen_by (sym is)

    -- and no more than there are
    pub few_seen : (all : ℕ) → all ≡ map.len pages → all < 2 ^ 63
        → sum_by (λ number. met_at reader.groups (slot_at sets number)) (map.values sets.numbers) < 2 ^ 64
    few_seen all is few = omega (
      arith,
      few,
      is,
      len_is pages,
      sums_are reader.groups sets,
      met_counted reader.groups (map.values pages) (sets_of sets) (are_sums sets (number_with (map.values pages)) counts),
      few_kept (λ page. meet reader.groups page.page.groups) (map.values pages),
    )

none_counted : Counted no_sets map.empty
none_counted =
    same_counts no_sets (λ groups. 0) _ (λ groups. ap (λ pages. number_with pages groups) (sym (no_values (slice_cmp nat_cmp)))) none_there

-- ---- numbers of pages' sets

abbrev Leads : TextMap StampedPage → TextMap ℕ → NumberedSets → Type 0
Leads pages numbers sets =
    (path : List ℕ) → option_map (groups_at sets) (map.get numbers path) ≡ option_map (λ page. Some page.page.groups) (map.get pages path)

-- a page that stands is counted
counted_there : (pages : TextMap StampedPage) (path : List ℕ) (page : StampedPage) → map.get pages path ≡ Some page
    → 0 < number_with (map.values pages) page.page.groups
counted_there pages path page found =
    let all = sum_taken nat_list_cmp_total exact_bytes (one page.page.groups) pages path page found in
    let this : one page.page.groups page ≡ 1 = ap (λ b. cond b 1 0) (groups_itself page.page.groups) in
    omega (arith, all, this)

module _ (pages : TextMap StampedPage) (numbers : TextMap ℕ) (sets : NumberedSets) (leads : Leads pages numbers sets) where
  -- in sets in which those of the pages keep their numbers
  leads_kept : (new : NumberedSets) → Keeps sets new (number_with (map.values pages)) → Leads pages numbers new
  leads_kept new keeps path = by (map.get numbers path) (map.get pages path) refl (leads path)
    where
      by : (n : Option ℕ) (page : Option StampedPage) → map.get pages path ≡ page
          → option_map (groups_at sets) n ≡ option_map (λ p. Some p.page.groups) page
          → option_map (groups_at new) n ≡ option_map (λ p. Some p.page.groups) page
      by None None f e = refl
      by None (Some page) f e = absurd cc
      by (Some n) None f e = absurd cc
      by (Some n) (Some page) f e =
          ap Some (keeps n page.page.groups (same_Some (groups_at sets n) (Some page.page.groups) e) (counted_there pages path page f))

  leads_set : (path : List ℕ) (page : StampedPage) (n : ℕ) → groups_at sets n ≡ Some page.page.groups
      → Leads (map.insert pages path page) (map.insert numbers path n) sets
  leads_set path page n is q =
      ap (option_map (groups_at sets)) (get_set numbers path n q) ∙ by (same_key q path)
      ∙ ap (option_map (λ p. Some p.page.groups)) (sym (get_set pages path page q))
    where
      by : (b : Bool) → option_map (groups_at sets) (cond b (Some n) (map.get numbers q))
          ≡ option_map (λ p. Some p.page.groups) (cond b (Some page) (map.get pages q))
      by true = ap Some is
      by false = leads q

  leads_taken : (path : List ℕ) → Leads (map.remove pages path) (map.remove numbers path) sets
  leads_taken path q =
      ap (option_map (groups_at sets)) (get_taken numbers path q) ∙ by (same_key q path)
      ∙ ap (option_map (λ p. Some p.page.groups)) (sym (get_taken pages path q))
    where
      by : (b : Bool) → option_map (groups_at sets) (cond b None (map.get numbers q))
          ≡ option_map (λ p. Some p.page.groups) (cond b None (map.get pages q))
      by true = refl
      by false = leads q

  same_paths : (path : List ℕ) → map.contains_key numbers path ≡ map.contains_key pages path
  same_paths path = by (map.get numbers path) (map.get pages path) (leads path)
    where
      by : (n : Option ℕ) (page : Option StampedPage) → option_map (groups_at sets) n ≡ option_map (λ p. Some p.page.groups) page
          → is_some n ≡ is_some page
      by None None e = refl
      by None (Some page) e = absurd cc
      by (Some n) None e = absurd cc
      by (Some n) (Some page) e = refl

leads_renamed : (pages : TextMap StampedPage) (numbers : TextMap ℕ) (sets : NumberedSets) → Leads pages numbers sets
    → (from to : List ℕ) (stamp : ℕ) → Leads (with_stamped pages from to stamp) (with_key numbers from to) sets
leads_renamed pages numbers sets leads from to stamp = by (map.get numbers from) (map.get pages from) (leads from)
  where
    by : (n : Option ℕ) (page : Option StampedPage) → option_map (groups_at sets) n ≡ option_map (λ p. Some p.page.groups) page
        → Leads (with_stamped_at pages from to stamp page) (with_key_at numbers from to n) sets
    by None None e = leads
    by None (Some page) e = absurd cc
    by (Some n) None e = absurd cc
    by (Some n) (Some page) e =
        leads_set (map.remove pages from) (map.remove numbers from) sets (leads_taken pages numbers sets leads from) to
        (restamped stamp page) n (same_Some (groups_at sets n) (Some page.page.groups) e)

-- ---- what pages and their numbers are behind each edit

pub none_numbered : AreNumbered map.empty map.empty no_sets
none_numbered = record {
  counts = none_counted;
  leads = λ path.
      ap (option_map (groups_at no_sets)) (map.get-empty (slice_cmp nat_cmp) path)
      ∙ ap (option_map (λ page. Some page.page.groups)) (sym (map.get-empty (slice_cmp nat_cmp) path));
}

module _ (pages : TextMap StampedPage) (numbers : TextMap ℕ) (sets : NumberedSets) (are : AreNumbered pages numbers sets) where
  -- a page more is counted, for a page that comes or is refused
  module _ (path : List ℕ) (page : StampedPage) (more : NumberedSets) (n : ℕ)
      (counts : (number : List (List ℕ) → ℕ) → AreCounts sets number → AreCounts more (one_more page.page.groups number))
      (at : (number : List (List ℕ) → ℕ) → AreCounts sets number → groups_at more n ≡ Some page.page.groups)
      (kept : (number : List (List ℕ) → ℕ) → Keeps sets more number) where
    abbrev number : List (List ℕ) → ℕ
    number = number_with (map.values pages)

    leads_there : Leads pages numbers more
    leads_there = leads_kept pages numbers sets are.leads more (kept number)

    pub numbered_new : map.get pages path ≡ None → AreNumbered (map.insert pages path page) (map.insert numbers path n) more
    numbered_new none = record {
      counts = counted_new more pages path page none (counts number are.counts);
      leads = leads_set pages numbers more leads_there path page n (at number are.counts);
    }

    pub numbered_refused : (new : NumberedSets)
        → ((numbers : List (List ℕ) → ℕ) → AreCounts more (one_more page.page.groups numbers) → AreCounts new numbers)
        → ((numbers : List (List ℕ) → ℕ) → AreCounts more (one_more page.page.groups numbers) → Keeps more new numbers)
        → AreNumbered pages numbers new
    numbered_refused new left keeps = record {
      counts = left number (counts number are.counts);
      leads = leads_kept pages numbers more leads_there new (keeps number (counts number are.counts));
    }

    pub numbered_set : (old : StampedPage) → map.get pages path ≡ Some old → (new : NumberedSets)
        → ((numbers : List (List ℕ) → ℕ) → AreCounts more (one_more old.page.groups numbers) → AreCounts new numbers)
        → ((numbers : List (List ℕ) → ℕ) → AreCounts more (one_more old.page.groups numbers) → Keeps more new numbers)
        → AreNumbered (map.insert pages path page) (map.insert numbers path n) new
    numbered_set old found new left keeps =
        let all : CountedBeside more old (map.insert pages path page) =
        counted_set more pages path page old found (counts number are.counts) in
        let behind = number_with (map.values (map.insert pages path page)) in
        record {
          counts = left behind all;
          leads = leads_kept (map.insert pages path page) (map.insert numbers path n) more
              (leads_set pages numbers more leads_there path page n (at number are.counts)) new (keeps behind all);
        }

  pub numbered_taken : (path : List ℕ) (page : StampedPage) → map.get pages path ≡ Some page → (new : NumberedSets)
      → ((numbers : List (List ℕ) → ℕ) → AreCounts sets (one_more page.page.groups numbers) → AreCounts new numbers)
      → ((numbers : List (List ℕ) → ℕ) → AreCounts sets (one_more page.page.groups numbers) → Keeps sets new numbers)
      → AreNumbered (map.remove pages path) (map.remove numbers path) new
  numbered_taken path page found new left keeps =
      let all : CountedBeside sets page (map.remove pages path) = counted_taken sets pages path page found are.counts in
      let behind = number_with (map.values (map.remove pages path)) in
      record {
        counts = left behind all;
        leads = leads_kept (map.remove pages path) (map.remove numbers path) sets
            (leads_taken pages numbers sets are.leads path) new (keeps behind all);
      }

  pub numbered_renamed : (from to : List ℕ) (stamp : ℕ) (room : StampedPage) → Some room ≡ map.get pages to
      → IsTrue (map.contains_key pages from) → IsTrue (map.contains_key (map.remove pages from) to) → (new : NumberedSets)
      → ((numbers : List (List ℕ) → ℕ) → AreCounts sets (one_more room.page.groups numbers) → AreCounts new numbers)
      → ((numbers : List (List ℕ) → ℕ) → AreCounts sets (one_more room.page.groups numbers) → Keeps sets new numbers)
      → AreNumbered (with_stamped pages from to stamp) (with_key numbers from to) new
  numbered_renamed from to stamp room there stands free new left keeps =
      let all : CountedBeside sets room (with_stamped pages from to stamp) =
      counted_renamed sets pages from to stamp room there stands free are.counts in
      let behind = number_with (map.values (with_stamped pages from to stamp)) in
      record {
        counts = left behind all;
        leads = leads_kept (with_stamped pages from to stamp) (with_key numbers from to) sets
            (leads_renamed pages numbers sets are.leads from to stamp) new (keeps behind all);
      }

  pub room_numbered : (from to : List ℕ) → map.contains_key (map.remove numbers from) to ≡ map.contains_key (map.remove pages from) to
  room_numbered from to =
      same_paths (map.remove pages from) (map.remove numbers from) sets (leads_taken pages numbers sets are.leads from) to

-- ---- flags of pages

module _ (reader : Reader) (pages : TextMap StampedPage) (numbers : TextMap ℕ) (sets : NumberedSets)
    (are : AreNumbered pages numbers sets) where
  same_groups_at : map_values (groups_at sets) numbers ≡ map_values (λ page. Some page.page.groups) pages
  same_groups_at = map.same_map nat_list_cmp_total exact_bytes _ _ (λ path.
      get-map_values (groups_at sets) numbers path ∙ are.leads path ∙ sym (get-map_values (λ page. Some page.page.groups) pages path))

  by_numbers : (seen : List Bool) → ((n : ℕ) → slice_index_or seen n false ≡ sees_groups reader (groups_at sets n))
      → (es : List (List ℕ × ℕ)) → mapped (λ n. slice_index_or seen n false) (values_of es)
      ≡ mapped (λ (e : List ℕ × Option (List (List ℕ))). sees_groups reader e.1) (mapped (λ e. (e.0, groups_at sets e.1)) es)
  by_numbers seen says [] = refl
  by_numbers seen says (e ∷ es) = ap₂ (λ flag flags. flag ∷ flags) (says e.1) (by_numbers seen says es)

  by_pages : (es : List (List ℕ × StampedPage))
      → mapped (λ (e : List ℕ × Option (List (List ℕ))). sees_groups reader e.1) (mapped (λ e. (e.0, Some e.1.page.groups)) es)
      ≡ mapped (λ (page : List ℕ × Page). may_see (Some reader) page.1) (mapped (λ e. (e.0, e.1.page)) es)
  by_pages [] = refl
  by_pages (e ∷ es) = ap (λ flags. may_see (Some reader) e.1.page ∷ flags) (by_pages es)

  pub flags_are : (seen : List Bool) → ((n : ℕ) → slice_index_or seen n false ≡ sees_groups reader (groups_at sets n))
      → mapped (λ n. slice_index_or seen n false) (map.values numbers)
      ≡ mapped (λ page. may_see (Some reader) page.1) (map.entries (map_values (λ p. p.page) pages))
  flags_are seen says =
      by_numbers seen says (map.entries numbers)
      ∙ ap (mapped (λ (e : List ℕ × Option (List (List ℕ))). sees_groups reader e.1))
      (sym (entries-map_values (groups_at sets) numbers) ∙ ap map.entries same_groups_at
      ∙ entries-map_values (λ page. Some page.page.groups) pages)
      ∙ by_pages (map.entries pages)
      ∙ ap (mapped (λ page. may_see (Some reader) page.1)) (sym (entries-map_values (λ p. p.page) pages))

-- flags that are given are others that they equal
pub told : {E A : Type 0} {all others : List Bool} (result : Result (Vec Bool A) E) → all ≡ others
    → IfOk result (λ flags. flags.items ≡ all) → IfOk result (λ flags. flags.items ≡ others)
told (Ok flags) same is = is ∙ same
told (Err e) same is = is

-- what comes and goes with the groups of a page, by other words for these
pub goes_by : (sets new : NumberedSets) (groups others : List (List ℕ)) → groups ≡ others
    → ((numbers : List (List ℕ) → ℕ) → AreCounts sets (one_more groups numbers) → AreCounts new numbers)
    → (numbers : List (List ℕ) → ℕ) → AreCounts sets (one_more others numbers) → AreCounts new numbers
goes_by sets new groups others same left numbers counts =
    left numbers (subst (λ g. AreCounts sets (one_more g numbers)) (sym same) counts)

pub keeps_by : (sets new : NumberedSets) (groups others : List (List ℕ)) → groups ≡ others
    → ((numbers : List (List ℕ) → ℕ) → AreCounts sets (one_more groups numbers) → Keeps sets new numbers)
    → (numbers : List (List ℕ) → ℕ) → AreCounts sets (one_more others numbers) → Keeps sets new numbers
keeps_by sets new groups others same left numbers counts =
    left numbers (subst (λ g. AreCounts sets (one_more g numbers)) (sym same) counts)

pub comes_by : (sets more : NumberedSets) (groups others : List (List ℕ)) → groups ≡ others
    → ((number : List (List ℕ) → ℕ) → AreCounts sets number → AreCounts more (one_more groups number))
    → (number : List (List ℕ) → ℕ) → AreCounts sets number → AreCounts more (one_more others number)
comes_by sets more groups others same counts number are =
    subst (λ g. AreCounts more (one_more g number)) same (counts number are)

pub stands_by : (sets more : NumberedSets) (n : ℕ) (groups others : List (List ℕ)) → groups ≡ others
    → ((number : List (List ℕ) → ℕ) → AreCounts sets number → groups_at more n ≡ Some groups)
    → (number : List (List ℕ) → ℕ) → AreCounts sets number → groups_at more n ≡ Some others
stands_by sets more n groups others same at number are = at number are ∙ ap Some same

-- what holds of a result by whether it is one
pub err_is : {X E : Type 0} {P : Type 0} (result : Result X E) → is_err result ≡ true → OnErr result P → P
err_is (Ok x) e p = absurd cc
err_is (Err x) e p = p

pub ok_is : {X E : Type 0} {P : Type 0} (result : Result X E) → is_err result ≡ false → OnOk result P → P
ok_is (Ok x) e p = p
ok_is (Err x) e p = absurd cc

-- a number that is put where no page stands, and taken again
pub put_and_taken : (pages : TextMap StampedPage) (numbers : TextMap ℕ) (sets : NumberedSets) → AreNumbered pages numbers sets
    → (path : List ℕ) (n : ℕ) (put taken : TextMap ℕ) → map.get pages path ≡ None → put ≡ map.insert numbers path n
    → taken ≡ map.remove put path → taken ≡ numbers
put_and_taken pages numbers sets are path n put taken none is was =
    was ∙ ap (λ m. map.remove m path) is ∙ taken_again nat_list_cmp_total exact_bytes numbers path n
    ∙ sym (none_to_take nat_list_cmp_total exact_bytes numbers path (by (map.get numbers path)
    (are.leads path ∙ ap (option_map (λ page. Some page.page.groups)) none)))
  where
    by : (o : Option ℕ) → option_map (groups_at sets) o ≡ None → o ≡ None
    by None e = refl
    by (Some m) e = absurd (none-some (groups_at sets m) (sym e))
