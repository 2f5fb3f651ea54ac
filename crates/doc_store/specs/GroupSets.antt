-- Words of how pages are counted by their groups: the different sets of groups, each with how many pages have it, and with a number.
use Rattle.std.specs.Prelude.{◌≡◌, ◌<◌, ℕ, zero, suc, ◌+◌, List, [], Bool, false, ◌||◌, map as mapped, count_by, option_map, slice_index_or, Vec, refl}
use Rattle.std.specs.Prelude.{Option, Some, None, if◌then◌else◌}
use Rattle.std.specs.Coded.{Coded, code_by, coded×, coded_list, coded_option, coded_ℕ}
use Rattle.std.specs.declared.cmp.Ordering.{Ordering}
use Rattle.std.specs.Cmp.Lexicographic.{slice_cmp}
use Rattle.std.specs.FinMap as map
use Rattle.std.specs.Ordering.{nat_cmp, eq_by_cmp}
use Rattle.doc_store.specs.declared.group_sets.GroupSet.{GroupSet}
use Rattle.doc_store_readers.specs.Groups.{meet}
use Rattle.doc_store_readers.specs.Maps.{TextMap}
use Rattle.doc_store_readers.specs.Pages.{StampedPage}
use Rattle.doc_store_readers.specs.declared.reader.Reader.{Reader}

-- the order of groups: that of the lists of their names
abbrev pub groups_cmp : List (List ℕ) → List (List ℕ) → Ordering
groups_cmp = slice_cmp (slice_cmp nat_cmp)

abbrev pub same_groups : List (List ℕ) → List (List ℕ) → Bool
same_groups = eq_by_cmp groups_cmp

-- numbers of sets of groups, each under its names
abbrev pub NumberMap : Type 0
NumberMap = map.FinMap groups_cmp ℕ

-- the numbers of sets of groups, and the sets by their numbers
pub record NumberedSets : Type 0 where
  pub numbers : NumberMap
  pub slots : List (Option GroupSet)

abbrev pub numbered_code : Coded GroupSet → Coded NumberedSets
numbered_code code =
    code_by (NumberMap × List (Option GroupSet))
    (coded× (map.code (coded_list (coded_list coded_ℕ)) coded_ℕ) (coded_list (coded_option code)))
    (λ s. (s.numbers, s.slots)) (λ p. record { numbers = p.0; slots = p.1 }) (λ _. refl)

abbrev pub no_sets : NumberedSets
no_sets = record { numbers = map.empty; slots = [] }

-- entries by lists of names, as contracts see them
abbrev pub sets_shown : {A X : Type 0} → List (Vec (List ℕ) A × X) → List (List (List ℕ) × X)
sets_shown entries = mapped (λ entry. (entry.0.items, entry.1)) entries

-- the set that has a number
abbrev pub slot_at : NumberedSets → ℕ → Option GroupSet
slot_at sets number = slice_index_or sets.slots number None

-- the groups of the set that has a number
abbrev pub groups_at : NumberedSets → ℕ → Option (List (List ℕ))
groups_at sets number = option_map (λ set. set.groups) (slot_at sets number)

-- how many of these pages have these groups
abbrev pub number_with : List StampedPage → List (List ℕ) → ℕ
number_with pages groups = count_by (λ page. same_groups groups page.page.groups) pages

-- the set of these groups, where some pages have it
abbrev pub set_of : List (List ℕ) → ℕ → Option GroupSet
set_of groups zero = None
set_of groups (suc pages) = Some (record { groups = groups; pages = suc pages })

-- Just those sets stand that pages have, each with how many do, and each has one number.
pub record AreCounts (sets : NumberedSets) (number : List (List ℕ) → ℕ) : Type 0 where
  pub each : (groups : List (List ℕ))
      → option_map (slot_at sets) (map.get sets.numbers groups) ≡ option_map Some (set_of groups (number groups))
  pub once : (slot : ℕ) (set : GroupSet) → slot_at sets slot ≡ Some set → map.get sets.numbers set.groups ≡ Some slot

-- Pages are counted by their groups, and just their paths have numbers, each that of the set of its page's groups.
pub record AreNumbered (pages : TextMap StampedPage) (numbers : TextMap ℕ) (sets : NumberedSets) : Type 0 where
  pub counts : AreCounts sets (number_with (map.values pages))
  pub leads : (path : List ℕ)
      → option_map (groups_at sets) (map.get numbers path) ≡ option_map (λ page. Some page.page.groups) (map.get pages path)

-- the numbers of pages with one page more that has these groups
abbrev pub one_more : List (List ℕ) → (List (List ℕ) → ℕ) → List (List ℕ) → ℕ
one_more groups number others = (if same_groups others groups then 1 else 0) + number others

-- each set that pages are counted with keeps its number
abbrev pub Keeps : NumberedSets → NumberedSets → (List (List ℕ) → ℕ) → Type 0
Keeps old new number =
    (slot : ℕ) (groups : List (List ℕ)) → groups_at old slot ≡ Some groups → 0 < number groups → groups_at new slot ≡ Some groups

-- how many pages of a set a reader of these groups sees
abbrev pub number_met : List (List ℕ) → GroupSet → ℕ
number_met groups set = if meet groups set.groups then set.pages else 0

-- how many of the pages with a set, where one stands
abbrev pub met_at : List (List ℕ) → Option GroupSet → ℕ
met_at groups None = 0
met_at groups (Some set) = number_met groups set

-- whether a reader sees pages with these groups, of which no page has none
abbrev pub sees_groups : Reader → Option (List (List ℕ)) → Bool
sees_groups reader None = false
sees_groups reader (Some groups) = reader.owner || meet reader.groups groups
