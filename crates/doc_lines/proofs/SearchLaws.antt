-- A binary search in a table whose names rise.
use Rattle.std.proofs.Common.{◌≡◌, ℕ, ◌+◌, ◌<◌, Bool, true, false, List, [], ◌∷◌, ◌++◌, length, take, drop, get_or, map, refl, ap, sym, ◌∙◌}
use Rattle.std.proofs.Common.{subst, arith, Some, None}
use Rattle.std.specs.Prelude.{◌&&◌, bytes_eq}
use Rattle.std.specs.List.{list_all}
use Rattle.std.specs.Cmp.Lexicographic.{slice_cmp}
use Rattle.std.specs.Ordering.{nat_cmp, is_eq, is_lt, ordering_reverse}
use Rattle.std.specs.declared.cmp.Ordering.TheVariants.{Less, Equal, Greater}
use Rattle.std.proofs.lemmas.Cmp.{nat_list_cmp_total, tied_itself}
use Rattle.std.proofs.lemmas.List.{take-append-drop, drop_more}
use Rattle.std.proofs.lemmas.List.Folds.{list_all-append}
use Rattle.std.proofs.lemmas.Map.Lookups.{exact_bytes}
use Rattle.std.proofs.lemmas.Map.Text.{is_eq-slice_cmp}
use Rattle.doc_rules.specs.Characters.{Text}
use Rattle.doc_rules.specs.Entities.{Entity, Table}
use Rattle.doc_rules.specs.Escapes.{find_entity}
use Rattle.doc_lines.specs.declared.entities.names.Row.{Row}
use Rattle.doc_lines.specs.Entities.{characters, row_entity, is_within, RisesFrom, Rises}
use Rattle.doc_lines.proofs.TableLaws.{choice, find_cons, find_none}
use Rattle.std.proofs.lemmas.Bool.{and_parts}
use Rattle.doc_page_parts.proofs.Orders.{is_lt_true}

-- ---- the order of names

abbrev Comes : Text → Text → Type 0
Comes xs ys = slice_cmp nat_cmp xs ys ≡ Less

comes_on : (xs ys zs : Text) → Comes xs ys → Comes ys zs → Comes xs zs
comes_on xs ys zs h k = nat_list_cmp_total.trans xs ys zs h k

-- a name that comes before or behind is another name
other_before : (xs ys : Text) → Comes xs ys → bytes_eq xs ys ≡ false
other_before xs ys h = sym (is_eq-slice_cmp xs ys) ∙ ap is_eq h

other_behind : (xs ys : Text) → Comes ys xs → bytes_eq xs ys ≡ false
other_behind xs ys h = sym (is_eq-slice_cmp xs ys) ∙ ap is_eq (nat_list_cmp_total.antisymm xs ys ∙ ap ordering_reverse h)

compare_itself : (xs : Text) → slice_cmp nat_cmp xs xs ≡ Equal
compare_itself xs = tied_itself nat_list_cmp_total xs

greater_comes : (xs ys : Text) → slice_cmp nat_cmp xs ys ≡ Greater → Comes ys xs
greater_comes xs ys h = nat_list_cmp_total.antisymm ys xs ∙ ap ordering_reverse h

-- ---- parts of a table whose names rise

rises_tail : (e : Entity) (T : Table) → RisesFrom e T → Rises T
rises_tail e [] h = tt
rises_tail e (f ∷ more) h = h.1

rises_from_front : (e : Entity) (xs ys : Table) → RisesFrom e (xs ++ ys) → RisesFrom e xs
rises_from_front e [] ys h = tt
rises_from_front e (x ∷ xs) ys h = (h.0, rises_from_front x xs ys h.1)

rises_front : (xs ys : Table) → Rises (xs ++ ys) → Rises xs
rises_front [] ys h = tt
rises_front (x ∷ xs) ys h = rises_from_front x xs ys h

rises_back : (xs : Table) (f : Entity) (ys : Table) → Rises (xs ++ f ∷ ys) → RisesFrom f ys
rises_back [] f ys h = h
rises_back (x ∷ xs) f ys h = rises_back xs f ys (rises_tail x (xs ++ f ∷ ys) h)

-- a name comes before each behind it
comes_before : (e : Entity) (xs : Table) (f : Entity) (ys : Table) → RisesFrom e (xs ++ f ∷ ys) → Comes e.0 f.0
comes_before e [] f ys h = h.0
comes_before e (x ∷ xs) f ys h = comes_on e.0 x.0 f.0 h.0 (comes_before x xs f ys h.1)

-- ---- one step of the search

miss : (e : Entity) (more : Table) (name : Text) → bytes_eq e.0 name ≡ false → find_entity (e ∷ more) name ≡ find_entity more name
miss e more name h = find_cons e more name ∙ ap (λ (b : Bool). choice b e.1 (find_entity more name)) h

find_behind : (xs : Table) (f : Entity) (ys : Table) (name : Text) → Rises (xs ++ f ∷ ys) → Comes f.0 name
    → find_entity (xs ++ f ∷ ys) name ≡ find_entity ys name
find_behind [] f ys name h less = miss f ys name (other_before f.0 name less)
find_behind (x ∷ xs) f ys name h less =
    miss x (xs ++ f ∷ ys) name (other_before x.0 name (comes_on x.0 f.0 name (comes_before x xs f ys h) less))
    ∙ find_behind xs f ys name (rises_tail x (xs ++ f ∷ ys) h) less

find_at : (xs : Table) (f : Entity) (ys : Table) (name : Text) → Rises (xs ++ f ∷ ys) → f.0 ≡ name
    → find_entity (xs ++ f ∷ ys) name ≡ Some f.1
find_at [] f ys name h same =
    let here : bytes_eq f.0 name ≡ true = sym (is_eq-slice_cmp f.0 name)
    ∙ ap is_eq (ap (λ n. slice_cmp nat_cmp n name) same ∙ compare_itself name) in
    find_cons f ys name ∙ ap (λ (b : Bool). choice b f.1 (find_entity ys name)) here
find_at (x ∷ xs) f ys name h same =
    miss x (xs ++ f ∷ ys) name (other_before x.0 name (ap (slice_cmp nat_cmp x.0) (sym same) ∙ comes_before x xs f ys h))
    ∙ find_at xs f ys name (rises_tail x (xs ++ f ∷ ys) h) same

none_behind : (f : Entity) (ys : Table) (name : Text) → RisesFrom f ys → Comes name f.0 → find_entity ys name ≡ None
none_behind f [] name h less = find_none name
none_behind f (y ∷ ys) name h less =
    let there : Comes name y.0 = comes_on name f.0 y.0 less h.0 in
    miss y ys name (other_behind y.0 name there) ∙ none_behind y ys name h.1 there

find_before : (xs : Table) (f : Entity) (ys : Table) (name : Text) → Rises (xs ++ f ∷ ys) → Comes name f.0
    → find_entity (xs ++ f ∷ ys) name ≡ find_entity xs name
find_before [] f ys name h less = miss f ys name (other_behind f.0 name less) ∙ none_behind f ys name h less ∙ sym (find_none name)
find_before (x ∷ xs) f ys name h less =
    find_cons x (xs ++ f ∷ ys) name
    ∙ ap (choice (bytes_eq x.0 name) x.1) (find_before xs f ys name (rises_tail x (xs ++ f ∷ ys) h) less)
    ∙ sym (find_cons x xs name)

-- ---- rows

rows_split : (rows : List Row) (m : ℕ) (d : Row) → m < length rows → rows ≡ take m rows ++ (get_or rows m d ∷ drop (m + 1) rows)
rows_split rows m d h = sym (take-append-drop m rows) ∙ ap (λ t. take m rows ++ t) (drop_more rows m d h)

map_append : (f : Row → Entity) (xs ys : List Row) → map f (xs ++ ys) ≡ map f xs ++ map f ys
map_append f [] ys = refl
map_append f (x ∷ xs) ys = ap (λ t. f x ∷ t) (map_append f xs ys)

-- the entities of rows, cut at one of them
table_split : (names : List ℕ) (rows : List Row) (m : ℕ) (d : Row) → m < length rows →
    map (row_entity names) rows ≡ map (row_entity names) (take m rows)
    ++ row_entity names (get_or rows m d) ∷ map (row_entity names) (drop (m + 1) rows)
table_split names rows m d h = ap (map (row_entity names)) (rows_split rows m d h)
    ∙ map_append (row_entity names) (take m rows) (get_or rows m d ∷ drop (m + 1) rows)

-- the parts of rows are in order where they are
pub front_rises : (names : List ℕ) (rows : List Row) (m : ℕ) (d : Row) → m < length rows → Rises (map (row_entity names) rows)
    → Rises (map (row_entity names) (take m rows))
front_rises names rows m d h rises = rises_front (map (row_entity names) (take m rows)) _ (subst Rises (table_split names rows m d h) rises)

pub back_rises : (names : List ℕ) (rows : List Row) (m : ℕ) (d : Row) → m < length rows → Rises (map (row_entity names) rows)
    → Rises (map (row_entity names) (drop (m + 1) rows))
back_rises names rows m d h rises =
    rises_tail (row_entity names (get_or rows m d)) (map (row_entity names) (drop (m + 1) rows))
    (rises_back (map (row_entity names) (take m rows)) (row_entity names (get_or rows m d)) (map (row_entity names) (drop (m + 1) rows))
    (subst Rises (table_split names rows m d h) rises))

within_split : (names : List ℕ) (rows : List Row) (m : ℕ) (d : Row) → m < length rows → list_all (is_within names) rows ≡ true →
    (list_all (is_within names) (take m rows) ≡ true) × (is_within names (get_or rows m d) ≡ true)
    × (list_all (is_within names) (drop (m + 1) rows) ≡ true)
within_split names rows m d h all =
    let parts = and_parts (list_all (is_within names) (take m rows)) _
    (sym (list_all-append (is_within names) (take m rows) (get_or rows m d ∷ drop (m + 1) rows))
    ∙ sym (ap (list_all (is_within names)) (rows_split rows m d h)) ∙ all) in
    let behind = and_parts (is_within names (get_or rows m d)) (list_all (is_within names) (drop (m + 1) rows)) parts.1 in
    (parts.0, behind.0, behind.1)

pub front_within : (names : List ℕ) (rows : List Row) (m : ℕ) (d : Row) → m < length rows → list_all (is_within names) rows ≡ true
    → list_all (is_within names) (take m rows) ≡ true
front_within names rows m d h all = (within_split names rows m d h all).0

pub back_within : (names : List ℕ) (rows : List Row) (m : ℕ) (d : Row) → m < length rows → list_all (is_within names) rows ≡ true
    → list_all (is_within names) (drop (m + 1) rows) ≡ true
back_within names rows m d h all = (within_split names rows m d h all).2

pub found_behind : (names : List ℕ) (rows : List Row) (m : ℕ) (d : Row) (name : Text) → m < length rows
    → Rises (map (row_entity names) rows) → slice_cmp nat_cmp (row_entity names (get_or rows m d)).0 name ≡ Less →
    find_entity (map (row_entity names) (drop (m + 1) rows)) name ≡ find_entity (map (row_entity names) rows) name
found_behind names rows m d name h rises less =
    sym (ap (λ (t : Table). find_entity t name) (table_split names rows m d h)
    ∙ find_behind (map (row_entity names) (take m rows)) (row_entity names (get_or rows m d)) (map (row_entity names) (drop (m + 1) rows))
    name (subst Rises (table_split names rows m d h) rises) less)

pub found_at : (names : List ℕ) (rows : List Row) (m : ℕ) (d : Row) (name : Text) → m < length rows → Rises (map (row_entity names) rows)
    → slice_cmp nat_cmp (row_entity names (get_or rows m d)).0 name ≡ Equal →
    Some (characters (get_or rows m d).2) ≡ find_entity (map (row_entity names) rows) name
found_at names rows m d name h rises same =
    sym (ap (λ (t : Table). find_entity t name) (table_split names rows m d h)
    ∙ find_at (map (row_entity names) (take m rows)) (row_entity names (get_or rows m d)) (map (row_entity names) (drop (m + 1) rows)) name
    (subst Rises (table_split names rows m d h) rises) (exact_bytes _ name same))

pub found_before : (names : List ℕ) (rows : List Row) (m : ℕ) (d : Row) (name : Text) → m < length rows
    → Rises (map (row_entity names) rows) → slice_cmp nat_cmp (row_entity names (get_or rows m d)).0 name ≡ Greater →
    find_entity (map (row_entity names) (take m rows)) name ≡ find_entity (map (row_entity names) rows) name
found_before names rows m d name h rises more =
    sym (ap (λ (t : Table). find_entity t name) (table_split names rows m d h)
    ∙ find_before (map (row_entity names) (take m rows)) (row_entity names (get_or rows m d)) (map (row_entity names) (drop (m + 1) rows))
    name (subst Rises (table_split names rows m d h) rises) (greater_comes _ name more))

pub found_nowhere : (names : List ℕ) (rows : List Row) (name : Text) → length rows ≡ 0
    → None ≡ find_entity (map (row_entity names) rows) name
found_nowhere names [] name h = sym (find_none name)
found_nowhere names (row ∷ rows) name h = absurd (omega arith)

-- ---- a test that names rise

abbrev pub rising_from : Entity → Table → Bool
rising_from e [] = true
rising_from e (f ∷ more) = is_lt (slice_cmp nat_cmp e.0 f.0) && rising_from f more

abbrev pub rising : Table → Bool
rising [] = true
rising (e ∷ more) = rising_from e more

from_rising_from : (e : Entity) (T : Table) → rising_from e T ≡ true → RisesFrom e T
from_rising_from e [] h = tt
from_rising_from e (f ∷ more) h =
    let parts = and_parts (is_lt (slice_cmp nat_cmp e.0 f.0)) (rising_from f more) h in
    (is_lt_true _ parts.0, from_rising_from f more parts.1)

pub from_rising : (T : Table) → rising T ≡ true → Rises T
from_rising [] h = tt
from_rising (e ∷ more) h = from_rising_from e more h
