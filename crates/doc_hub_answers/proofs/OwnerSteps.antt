-- An owner sees the whole site: its pages and how many they are, its aliases and how many they are after a move, where paths lead, and
-- whether a put of a text fits.
use Rattle.std.proofs.Common.{◌≡◌, ℕ, ◌+◌, List, Bool, true, false, cond, T, length, arith, refl, ap, sym, ◌∙◌}
use Rattle.std.specs.Prelude.{not, ◌&&◌, ◌||◌, nat_lt, nat_le, bytes_eq, filter, is_some, is_ok, Option, Some, None, Result, Ok, Err}
use Rattle.std.specs.Prelude.{option_and_then, if◌then◌else◌}
use Rattle.std.specs.Cmp.Lexicographic.{slice_cmp}
use Rattle.std.specs.FinMap as map
use Rattle.std.specs.FinMap.Entries.{find-where_key, is_sorted, is_sorted-where_key}
use Rattle.std.specs.Ordering.{nat_cmp}
use Rattle.std.proofs.lemmas.Bool.{and_parts}
use Rattle.std.proofs.lemmas.Bool.Decides.{nat_tests}
use Rattle.std.proofs.lemmas.Cmp.{nat_list_cmp_total}
use Rattle.std.proofs.lemmas.Map.Lookups.{exact_bytes}
use Rattle.doc_store_readers.specs.Groups.{meet}
use Rattle.doc_store_readers.specs.Maps.{TextMap}
use Rattle.doc_store_readers.specs.Pages.{Page}
use Rattle.doc_store_readers.specs.Sites.{IsSite, Site, goal_by, goal_in, goal_of, may_see_at, page_at, view_of, visible_to}
use Rattle.doc_store.specs.Store.{StoreState, aliases_after, fits, fits_in, text_limit, page_limit, put_limit}
use Rattle.doc_store_readers.specs.declared.reader.Reader.{Reader}
use Rattle.doc_store.specs.declared.store.EditError.{EditError}
use Rattle.doc_store.specs.declared.store.EditError.TheVariants.{TooLong, StoreFull}
use Rattle.doc_page_parts.proofs.Bools.{clash}
use Rattle.doc_store_readers.proofs.KeySteps.{bytes_eq_is, get_taken, same_key}
use Rattle.doc_store_readers.proofs.ViewLaw.{entry_at-entries, get-visible_aliases, get-visible_pages, goals_of_views}
use Rattle.doc_store.proofs.AliasSteps.{len-aliases_after}
use Rattle.doc_hub_answers.specs.Edits.{puts_left, puts_taken}
use Rattle.doc_hub_answers.specs.Replies.{has_room}

-- an owner may see whatever stands
owner_may : (reader : Reader) (page : Option Page) → reader.owner ≡ true → may_see_at (Some reader) page ≡ is_some page
owner_may reader None owns = refl
owner_may reader (Some page) owns = ap (λ owner. owner || meet reader.groups page.groups) owns

what_stands : (page : Option Page) → cond (is_some page) page None ≡ page
what_stands None = refl
what_stands (Some page) = refl

pub owner_sees_all : (site : Site) (reader : Reader) → reader.owner ≡ true → (visible_to site (Some reader)).pages ≡ site.pages
owner_sees_all site reader owns = map.same_map nat_list_cmp_total exact_bytes _ _ (λ path.
    get-visible_pages site (Some reader) path
    ∙ ap (λ sees. cond sees (map.get site.pages path) None) (owner_may reader (map.get site.pages path) owns)
    ∙ what_stands (map.get site.pages path))

-- the page of a path, and whether one stands there
pub owner_page : (site : Site) (reader : Reader) (path : List ℕ) → reader.owner ≡ true
    → page_at (view_of site (Some reader)).pages path ≡ map.get site.pages path
owner_page site reader path owns =
    entry_at-entries (visible_to site (Some reader)).pages path ∙ ap (λ pages. map.get pages path) (owner_sees_all site reader owns)

pub owner_stands : (site : Site) (reader : Reader) (path : List ℕ) → reader.owner ≡ true
    → is_some (page_at (view_of site (Some reader)).pages path) ≡ map.contains_key site.pages path
owner_stands site reader path owns = ap is_some (owner_page site reader path owns)

-- how many pages stand
pub owner_pages : (site : Site) (reader : Reader) → reader.owner ≡ true → length (view_of site (Some reader)).pages ≡ map.len site.pages
owner_pages site reader owns = ap (λ pages. length (map.entries pages)) (owner_sees_all site reader owns) ∙ sym (map.len-entries site.pages)

-- ---- aliases, each of which leads to a page

-- an alias is seen where its page stands
shown_alias : (site : Site) (reader : Reader) (alias : List ℕ) (goal : Option (List ℕ)) → reader.owner ≡ true → IsSite site
    → map.get site.aliases alias ≡ goal
    → cond (may_see_at (Some reader) (option_and_then (map.get site.pages) goal)) goal None ≡ goal
shown_alias site reader alias None owns is leads = none (may_see_at (Some reader) None)
  where
    none : (sees : Bool) → ◌≡◌ {A = Option (List ℕ)} (cond sees None None) None
    none true = refl
    none false = refl
shown_alias site reader alias (Some path) owns is leads =
    ap (λ sees. cond sees (Some path) None) (owner_may reader (map.get site.pages path) owns ∙ is.lead alias path leads)

pub owner_sees_aliases : (site : Site) (reader : Reader) → reader.owner ≡ true → IsSite site
    → (visible_to site (Some reader)).aliases ≡ site.aliases
owner_sees_aliases site reader owns is = map.same_map nat_list_cmp_total exact_bytes _ _ (λ alias.
    get-visible_aliases site (Some reader) alias ∙ shown_alias site reader alias (map.get site.aliases alias) owns is refl)

-- where a path leads an owner, it leads in the site
pub owner_goal : (site : Site) (reader : Reader) (path : List ℕ) → reader.owner ≡ true → IsSite site
    → goal_in (view_of site (Some reader)) path ≡ goal_of site path
owner_goal site reader path owns is =
    goals_of_views site (Some reader) path
    ∙ (λ i. goal_by path (map.get (owner_sees_all site reader owns i) path) (map.get (owner_sees_aliases site reader owns is i) path))

-- the entries of a map but for that of a key are as many as those of the map without it
others_of : {X : Type 0} (m : TextMap X) (key : List ℕ)
    → length (filter (λ entry. not (bytes_eq entry.0 key)) (map.entries m)) ≡ map.len (map.remove m key)
others_of {X = X} m key =
    ap length (sym (map.entries-from_sorted (slice_cmp nat_cmp) others in_order))
    ∙ sym (map.len-entries (map.from_sorted {R = slice_cmp nat_cmp} others)) ∙ ap map.len same
  where
    is_other : List ℕ → Bool
    is_other q = not (bytes_eq q key)

    others : List (List ℕ × X)
    others = filter (λ entry. is_other entry.0) (map.entries m)

    in_order : T (is_sorted (slice_cmp nat_cmp) others)
    in_order = is_sorted-where_key (slice_cmp nat_cmp) is_other (map.entries m) (map.entries_sorted m)

    turned : (same : Bool) (value : Option X) → cond (not same) value None ≡ cond same None value
    turned true value = refl
    turned false value = refl

    same : map.from_sorted {R = slice_cmp nat_cmp} others ≡ map.remove m key
    same = map.same_map nat_list_cmp_total exact_bytes _ _ (λ q.
        map.get-from_sorted (slice_cmp nat_cmp) others q in_order
        ∙ find-where_key (slice_cmp nat_cmp) is_other q (λ x tied. ap is_other (sym (exact_bytes q x tied))) (map.entries m)
        ∙ ap (λ value. cond (is_other q) value None) (sym (map.get-entries m q))
        ∙ ap (λ b. cond (not b) (map.get m q) None) (bytes_eq_is q key)
        ∙ turned (same_key q key) (map.get m q) ∙ sym (get_taken m key q))

-- where a page stands no alias does
no_alias : (site : Site) (path : List ℕ) (goal : Option (List ℕ)) → map.contains_key site.pages path ≡ true → IsSite site
    → map.get site.aliases path ≡ goal → goal ≡ None
no_alias site path None stands is leads = refl
no_alias site path (Some goal) stands is leads = absurd (clash (map.contains_key site.pages path) stands (is.apart path goal leads))

-- how many aliases stand after the page of a path is moved: those but for the new path, and the old one
pub owner_aliases : (site : Site) (reader : Reader) (from to : List ℕ) → reader.owner ≡ true → map.contains_key site.pages from ≡ true
    → IsSite site → length (filter (λ alias. not (bytes_eq alias.0 to)) (view_of site (Some reader)).aliases) + 1
    ≡ map.len (aliases_after site.aliases from to)
owner_aliases site reader from to owns stands is =
    ap (λ aliases. length (filter (λ alias. not (bytes_eq alias.0 to)) (map.entries aliases)) + 1) (owner_sees_aliases site reader owns is)
    ∙ ap (λ n. n + 1) (others_of site.aliases to)
    ∙ len-aliases_after site.aliases from to (no_alias site from (map.get site.aliases from) stands is refl)

-- ---- whether a put fits

below : (a b : ℕ) (t : Bool) → nat_le b a ≡ t → nat_lt a b ≡ not t
below a b true is = grind (arith, nat_tests)
below a b false is = grind (arith, nat_tests)

within : (a b : ℕ) (t : Bool) → nat_lt b a ≡ t → nat_le a b ≡ not t
within a b true is = grind (arith, nat_tests)
within a b false is = grind (arith, nat_tests)

-- by the four tests
room_by : (long stands full out : Bool) → (not long && (stands || not full) && not out)
    ≡ is_ok {T = Unit {0}} {E = EditError} (if long then Err TooLong else (if (not stands && full) || out then Err StoreFull else Ok tt))
room_by true stands full out = refl
room_by false true full true = refl
room_by false true full false = refl
room_by false false true out = refl
room_by false false false true = refl
room_by false false false false = refl

room_fits : (pages : ℕ) (stands : Bool) (puts : ℕ) (text : List ℕ)
    → (nat_le (length text) text_limit && (stands || nat_lt pages page_limit) && nat_lt puts put_limit)
    ≡ is_ok (fits pages stands puts text)
room_fits pages stands puts text =
    (λ i. within (length text) text_limit _ refl i && (stands || below pages page_limit _ refl i) && below puts put_limit _ refl i)
    ∙ room_by (nat_lt text_limit (length text)) stands (nat_le page_limit pages) (nat_le put_limit puts)

-- where the server takes puts, an owner's view has room for a text where the store has
room_where_taken : (store : StoreState) (reader : Reader) (path text : List ℕ) → reader.owner ≡ true
    → has_room (view_of store.site (Some reader)) (puts_left store.puts) path text ≡ is_ok (fits_in store path text)
room_where_taken store reader path text owns =
    (λ i. nat_le (length text) text_limit && (owner_stands store.site reader path owns i || nat_lt (owner_pages store.site reader owns i)
    page_limit) && puts_left store.puts)
    ∙ room_fits (map.len store.site.pages) (map.contains_key store.site.pages path) store.puts text

-- where it takes none there is room for none
no_room_by : (short some : Bool) → (short && some && false) ≡ false
no_room_by true true = refl
no_room_by true false = refl
no_room_by false some = refl

-- an owner's view has room for a text where the server takes puts and the store has room
pub owner_room : (takes : Bool) (store : StoreState) (reader : Reader) (path text : List ℕ) → reader.owner ≡ true
    → has_room (view_of store.site (Some reader)) (puts_taken takes store.puts) path text ≡ (takes && is_ok (fits_in store path text))
owner_room true store reader path text owns = room_where_taken store reader path text owns
owner_room false store reader path text owns =
    no_room_by (nat_le (length text) text_limit)
    (is_some (page_at (view_of store.site (Some reader)).pages path) || nat_lt (length (view_of store.site (Some reader)).pages) page_limit)

-- where a put fits, its answer is this one
pub fits_where_ok : (said : Result (Unit {0}) EditError) → is_ok said ≡ true → said ≡ Ok tt
fits_where_ok (Ok done) is = refl
fits_where_ok (Err e) is = absurd (no is)
  where
    no : false ≡ true → ⊥
    no h = cc

pub owner_fits : (takes : Bool) (store : StoreState) (reader : Reader) (path text : List ℕ) → reader.owner ≡ true
    → has_room (view_of store.site (Some reader)) (puts_taken takes store.puts) path text ≡ true → fits_in store path text ≡ Ok tt
owner_fits takes store reader path text owns room =
    fits_where_ok (fits_in store path text)
    (and_parts takes (is_ok (fits_in store path text)) (sym (owner_room takes store reader path text owns) ∙ room)).1
