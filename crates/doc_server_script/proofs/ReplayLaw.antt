-- No edit that leads from one site to another is refused.
use Rattle.std.proofs.Common.{◌≡◌, ℕ, ◌+◌, ◌-◌, ◌≤◌, ◌<◌, List, [], ◌∷◌, ◌++◌, Bool, true, false, cond, not, ◌&&◌, ◌||◌, length, is_some, refl}
use Rattle.std.proofs.Common.{ap, sym, subst, ◌∙◌, add-one, nat_lt, nat_le, arith}
use Rattle.std.proofs.lemmas.Bool.Decides.{nat_tests}
use Rattle.std.specs.Prelude.{⊤, Option, Some, None, option_map, Result, Ok, Err, if◌then◌else◌}
use Rattle.std.specs.FinMap as map
use Rattle.std.specs.List.{flat_map}
use Rattle.std.proofs.lemmas.Cmp.{nat_list_cmp_total}
use Rattle.std.proofs.lemmas.Map.Lookups.{exact_bytes}
use Rattle.doc_store.proofs.AliasSteps.{len-aliases_after, len_where_none}
use Rattle.doc_store_readers.proofs.KeySteps.{same_key, same_itself, get_taken}
use Rattle.doc_store.specs.declared.moving.MoveError.TheVariants as move_errors
use Rattle.doc_store.specs.declared.store.EditError.{EditError}
use Rattle.doc_store.specs.declared.store.EditError.TheVariants.{TooLong, StoreFull}
use Rattle.doc_store.proofs.StoreSteps.{get-without_goal, taken_out}
use Rattle.doc_store_readers.specs.Maps.{TextMap}
use Rattle.doc_store.specs.Names.{aliases_of}
use Rattle.doc_store_readers.specs.Pages.{Page}
use Rattle.doc_store_readers.specs.Sites.{Site, IsSite}
use Rattle.doc_store.specs.Store.{set_page, remove_page, move_page, effect_of, StoreState, fits, move_fits}
use Rattle.doc_store.specs.declared.site_edit.SiteEdit.{SiteEdit}
use Rattle.doc_store.specs.declared.site_edit.SiteEdit.TheVariants as site_edits
use Rattle.doc_store.specs.Store.{put_by, moved_by, with_page, with_move, without_goal, aliases_after, is_goal, page_limit, alias_limit, text_limit, put_limit}
use Rattle.doc_server_script.specs.Compactions.{compacted, effects, made, made_along, moves, other_pages}
use Rattle.doc_server_script.specs.CompactionLaws.{ReplayGivesTheSite}
use Rattle.doc_server_script.specs.Replays.{edited, replayed, unless_refused}
use Rattle.doc_server_script.proofs.CompactionLaw.{alias_is_in, aliases_once, gives_the_site, goal_outside, left_is, one_made, others_stand}
use Rattle.doc_server_script.proofs.MadeSteps.{IsAt, IsFree, Once, all_free, apart_from, first_is_in, is_in, key_turned, later_is_in}
use Rattle.doc_server_script.proofs.MadeSteps.{move_at, once_with_last, page_made, path_is_no_name, put_at}
use Rattle.doc_server_script.proofs.Without.{AreEntries, Entries, alias_without, page_without, paths, removals, site_without, without}

-- ---- edits that fit

abbrev Fits : Site → SiteEdit → Type 0
Fits site (site_edits.Put path groups text) = (length text ≤ text_limit) × (map.len site.pages < page_limit)
Fits site (site_edits.Remove path) = map.contains_key site.pages path ≡ true
Fits site (site_edits.Move from to) =
    (map.contains_key site.pages from ≡ true) × (map.contains_key site.pages to ≡ false)
    × (map.len (aliases_after site.aliases from to) ≤ alias_limit)

abbrev AllFit : Site → List SiteEdit → Type 0
AllFit site [] = ⊤
AllFit site (edit ∷ edits) = Fits site edit × AllFit (effect_of site edit) edits

within : (a b : ℕ) → a ≤ b → nat_lt b a ≡ false
within a b le = grind (arith, nat_tests)

below : (a b : ℕ) → a < b → nat_le b a ≡ false
below a b le = grind (arith, nat_tests)

put_fits : (pages puts : ℕ) (stands : Bool) (text : List ℕ) → length text ≤ text_limit → pages < page_limit → puts < put_limit
    → fits pages stands puts text ≡ Ok tt
put_fits pages puts stands text short room left =
    let few = below pages page_limit room in
    let unused = below puts put_limit left in
    let fine = within (length text) text_limit short in
    (λ i. if fine i then Err TooLong else (if (not stands && few i) || unused i then Err StoreFull else Ok tt)) ∙ by stands
  where
    by : (b : Bool) → ◌≡◌ {A = Result (Unit {0}) EditError} (if (not b && false) || false then Err StoreFull else Ok tt) (Ok tt)
    by true = refl
    by false = refl

move_is_fit : (stands taken : Bool) (aliases puts : ℕ) → stands ≡ true → taken ≡ false → aliases ≤ alias_limit → puts < put_limit
    → move_fits stands taken aliases puts ≡ Ok tt
move_is_fit stands taken aliases puts there free room left =
    let few = within aliases alias_limit room in
    let unused = below puts put_limit left in
    λ i. if not (there i) then Err move_errors.NoPage
    else (if free i then Err move_errors.Taken else (if few i || unused i then Err move_errors.StoreFull else Ok tt))

-- ---- edits that fit are not refused

-- an edit is accepted, has its effect and takes a stamp at most
abbrev Accepts : StoreState → SiteEdit → Type 0
Accepts store edit = (next : StoreState) × (edited store edit ≡ Some next) × (next.site ≡ effect_of store.site edit)
    × (next.puts ≤ store.puts + 1)

one_more : (n : ℕ) → n + 1 ≤ n + 1
one_more n = omega arith

no_more : (n : ℕ) → n ≤ n + 1
no_more n = omega arith

accepts : (store : StoreState) (edit : SiteEdit) → Fits store.site edit → store.puts < put_limit → Accepts store edit
accepts store (site_edits.Put path groups text) fit left =
    let page : Page = record { groups = groups; text = text } in (
      with_page store path page,
      ap (λ said. unless_refused (put_by store path page (map.contains_key store.site.pages path) said).0
          (put_by store path page (map.contains_key store.site.pages path) said).1)
          (put_fits (map.len store.site.pages) store.puts (map.contains_key store.site.pages path) text fit.0 fit.1 left),
      refl,
      one_more store.puts,
    )
accepts store (site_edits.Remove path) stands left = (
  taken_out store path,
  ap (λ b. if b then Some (if b then taken_out store path else store) else None) stands,
  refl,
  no_more store.puts,
)
accepts store (site_edits.Move from to) fit left = (
  with_move store from to,
  ap (λ said. unless_refused (moved_by store from to said).0 (moved_by store from to said).1)
      (move_is_fit (map.contains_key store.site.pages from) (map.contains_key store.site.pages to)
      (map.len (aliases_after store.site.aliases from to)) store.puts fit.0 fit.1 fit.2 left),
  refl,
  one_more store.puts,
)

some_left : (puts more most : ℕ) → puts + (more + 1) ≤ most → puts < most
some_left puts more most room = omega (arith, room)

less_left : (puts next more most : ℕ) → next ≤ puts + 1 → puts + (more + 1) ≤ most → next + more ≤ most
less_left puts next more most step room = omega (arith, step, room)

all_accepted : (store : StoreState) (edits : List SiteEdit) → AllFit store.site edits → store.puts + length edits ≤ put_limit
    → option_map (λ after. after.site) (replayed (Some store) edits) ≡ Some (effects store.site edits)
all_accepted store [] fit room = refl
all_accepted store (edit ∷ edits) fit room =
    let count = subst (λ n. store.puts + n ≤ put_limit) (sym (add-one (length edits))) room in
    let one = accepts store edit fit.0 (some_left store.puts (length edits) put_limit count) in
    let next = one.0 in
    ap (λ found. option_map (λ after. after.site) (replayed found edits)) one.1
    ∙ (all_accepted next edits (subst (λ site. AllFit site edits) (sym one.2) fit.1)
    (less_left store.puts next.puts (length edits) put_limit one.3 count)
    ∙ ap (λ site. Some (effects site edits)) one.2)

-- ---- what is removed stands

all_fit_joined : (site : Site) (edits more : List SiteEdit) → AllFit site edits → AllFit (effects site edits) more
    → AllFit site (edits ++ more)
all_fit_joined site [] more fit rest = rest
all_fit_joined site (edit ∷ edits) more fit rest = (fit.0, all_fit_joined (effect_of site edit) edits more fit.1 rest)

head : (a b : Bool) → (a || b) ≡ false → a ≡ false
head true b e = e
head false b e = refl

tail : (a b : Bool) → (a || b) ≡ false → b ≡ false
tail true b e = cc
tail false b e = e

still_entries : (pages : TextMap Page) (path : List ℕ) (entries : Entries) → is_in path (paths entries) ≡ false → AreEntries pages entries
    → AreEntries (map.remove pages path) entries
still_entries pages path [] apart are = tt
still_entries pages path (entry ∷ entries) apart are = (
  get_taken pages path entry.0
      ∙ (ap (λ b. cond b None (map.get pages entry.0))
      (key_turned path entry.0 (head (same_key path entry.0) (is_in path (paths entries)) apart)) ∙ are.0),
  are.1,
  still_entries pages path entries (tail (same_key path entry.0) (is_in path (paths entries)) apart) are.2,
)

removals_fit : (site : Site) (entries : Entries) → AreEntries site.pages entries → AllFit site (removals entries)
removals_fit site [] are = tt
removals_fit site (entry ∷ entries) are = (
  ap is_some are.0,
  removals_fit (effect_of site (remove_page entry.0)) entries (still_entries site.pages entry.0 entries are.1 are.2),
)

-- ---- moves fit

absent : {X : Type 0} (o : Option X) → o ≡ None → is_some o ≡ false
absent o e = ap is_some e

module _ (rest : Site) (page : Page) where
  -- a page on its way, whose names are free, once each, and none of them an alias yet
  record IsOnWay (from : List ℕ) (names : List (List ℕ)) (gone : List ℕ → Bool) (now : Site) : Type 0 where
    at : IsAt rest page from gone now
    free : (q : List ℕ) → is_in q (from ∷ names) ≡ true → IsFree rest q
    once : Once (from ∷ names)
    apart : (q : List ℕ) → is_in q (from ∷ names) ≡ true → gone q ≡ false

  neither : (a b : Bool) → a ≡ false → b ≡ false → (a || b) ≡ false
  neither a b e f = ap (λ a. a || b) e ∙ f

  on_way : (from to : List ℕ) (names : List (List ℕ)) (gone : List ℕ → Bool) (now : Site) → IsOnWay from (to ∷ names) gone now
      → IsOnWay to names (λ q. same_key q from || gone q) (effect_of now (move_page from to))
  on_way from to names gone now is = record {
    at = move_at rest page from to gone now is.at (is.free from (first_is_in from (to ∷ names)))
        (is.free to (later_is_in to from (to ∷ names) (first_is_in to names)))
        (is.apart to (later_is_in to from (to ∷ names) (first_is_in to names)));
    free = λ q e. is.free q (later_is_in q from (to ∷ names) e);
    once = is.once.1;
    apart = λ q e. neither (same_key q from) (gone q) (apart_from q from (to ∷ names) e is.once.0)
        (is.apart q (later_is_in q from (to ∷ names) e));
  }

  module _ (from to : List ℕ) (names : List (List ℕ)) (gone : List ℕ → Bool) (now : Site) (is : IsOnWay from (to ∷ names) gone now) where
    to_is_in : is_in to (from ∷ to ∷ names) ≡ true
    to_is_in = later_is_in to from (to ∷ names) (first_is_in to names)

    from_stands : map.contains_key now.pages from ≡ true
    from_stands = ap is_some (is.at.pages from ∙ ap (λ b. cond b (Some page) (map.get rest.pages from)) (same_itself from))

    to_is_free : map.contains_key now.pages to ≡ false
    to_is_free = absent (map.get now.pages to) (is.at.pages to
        ∙ (ap (λ b. cond b (Some page) (map.get rest.pages to)) (apart_from to from (to ∷ names) (first_is_in to names) is.once.0)
        ∙ (is.free to to_is_in).page))

    no_alias_at : (q : List ℕ) → is_in q (from ∷ to ∷ names) ≡ true → map.get now.aliases q ≡ None
    no_alias_at q e = is.at.aliases q ∙ (ap (λ b. cond b (Some from) (map.get rest.aliases q)) (is.apart q e) ∙ (is.free q e).alias)

    grows : map.len (aliases_after now.aliases from to) ≡ map.len now.aliases + 1
    grows = sym (len_where_none now.aliases to (absent (map.get now.aliases to) (no_alias_at to to_is_in))
        ∙ len-aliases_after now.aliases from to (no_alias_at from (first_is_in from (to ∷ names))))

  next_sum : (a b n : ℕ) → a ≡ b + 1 → a + n ≡ b + (n + 1)
  next_sum a b n e = omega (arith, e)

  -- each move adds an alias
  grown : (from : List ℕ) (names : List (List ℕ)) (gone : List ℕ → Bool) (now : Site) → IsOnWay from names gone now
      → map.len (effects now (moves from names)).aliases ≡ map.len now.aliases + length names
  grown from [] gone now is = no_sum (map.len now.aliases)
    where
      no_sum : (n : ℕ) → n ≡ n + 0
      no_sum n = omega arith
  grown from (to ∷ names) gone now is =
      grown to names (λ q. same_key q from || gone q) (effect_of now (move_page from to)) (on_way from to names gone now is)
      ∙ (next_sum (map.len (aliases_after now.aliases from to)) (map.len now.aliases) (length names) (grows from to names gone now is)
      ∙ ap (λ n. map.len now.aliases + n) (add-one (length names)))

  first_room : (a b n most : ℕ) → a ≡ b + 1 → b + (n + 1) ≤ most → a ≤ most
  first_room a b n most e room = omega (arith, e, room)

  next_room : (a b n most : ℕ) → a ≡ b + 1 → b + (n + 1) ≤ most → a + n ≤ most
  next_room a b n most e room = omega (arith, e, room)

  moves_fit : (from : List ℕ) (names : List (List ℕ)) (gone : List ℕ → Bool) (now : Site) → IsOnWay from names gone now
      → map.len now.aliases + length names ≤ alias_limit → AllFit now (moves from names)
  moves_fit from [] gone now is room = tt
  moves_fit from (to ∷ names) gone now is room =
      let count = subst (λ n. map.len now.aliases + n ≤ alias_limit) (sym (add-one (length names))) room in
      let more = grows from to names gone now is in (
        (
          from_stands from to names gone now is,
          to_is_free from to names gone now is,
          first_room (map.len (aliases_after now.aliases from to)) (map.len now.aliases) (length names) alias_limit more count,
        ),
        moves_fit to names (λ q. same_key q from || gone q) (effect_of now (move_page from to)) (on_way from to names gone now is)
            (next_room (map.len (aliases_after now.aliases from to)) (map.len now.aliases) (length names) alias_limit more count),
      )

-- ---- a page that is made fits

one_less : (n : ℕ) → n ≤ page_limit → n - 1 < page_limit
unfolding page_limit
one_less n le = omega (arith, le)

module _ (site : Site) (is : IsSite site) (path : List ℕ) (page : Page) (stands : map.get site.pages path ≡ Some page)
    (names : List (List ℕ)) (lead : (q : List ℕ) → is_in q names ≡ is_goal path (map.get site.aliases q)) (once : Once names)
    (short : length page.text ≤ text_limit) (few : map.len site.pages ≤ page_limit) (some : map.len site.aliases ≤ alias_limit) where
  room_for_it : map.len (map.remove site.pages path) < page_limit
  room_for_it = subst (λ n. n < page_limit) (sym (map.len-remove nat_list_cmp_total site.pages path
      ∙ ap (λ found. cond (is_some found) (map.len site.pages - 1) (map.len site.pages)) stands)) (one_less (map.len site.pages) few)

  fit_along : (first : List ℕ) (more : List (List ℕ))
      → ((q : List ℕ) → is_in q (first ∷ more) ≡ true → IsFree (effect_of site (remove_page path)) q) → Once (first ∷ more)
      → effects (effect_of site (remove_page path)) (made_along page (first ∷ more)) ≡ site
      → AllFit (effect_of site (remove_page path)) (made_along page (first ∷ more))
  fit_along first more free once whole =
      let rest = effect_of site (remove_page path) in
      let now = effect_of rest (set_page first page) in
      let way : IsOnWay rest page first more (λ _. false) now = record {
        at = put_at rest page first (free first (first_is_in first more));
        free = free;
        once = once;
        apart = λ q e. refl;
      } in
      let count = sym (grown rest page first more (λ _. false) now way) ∙ ap (λ s. map.len s.aliases) whole in (
        (short, room_for_it),
        moves_fit rest page first more (λ _. false) now way (subst (λ n. n ≤ alias_limit) (sym count) some),
      )

  fit_made : (all : List (List ℕ)) → ((q : List ℕ) → is_in q all ≡ true → IsFree (effect_of site (remove_page path)) q) → Once all
      → effects (effect_of site (remove_page path)) (made_along page all) ≡ site
      → AllFit (effect_of site (remove_page path)) (made_along page all)
  fit_made [] free once whole = tt
  fit_made (first ∷ more) free once whole = fit_along first more free once whole

  made_fits : AllFit (effect_of site (remove_page path)) (made_along page (names ++ path ∷ []))
  made_fits = fit_made (names ++ path ∷ []) (all_free site is path page stands names lead once)
      (once_with_last names path once (path_is_no_name site is path page stands names lead once))
      (page_made site is path page stands names lead once)

-- ---- a site without some pages is no larger

fewer_with : (n : ℕ) (b : Bool) → cond b (n - 1) n ≤ n
fewer_with n true = omega arith
fewer_with n false = omega arith

no_larger : (a b most : ℕ) → a ≤ b → b ≤ most → a ≤ most
no_larger a b most le room = omega (arith, le, room)

fewer_pages : (site : Site) (entries : Entries) → map.len (without site entries).pages ≤ map.len site.pages
fewer_pages site [] = same_number (map.len site.pages)
  where
    same_number : (n : ℕ) → n ≤ n
    same_number n = omega arith
fewer_pages site (entry ∷ entries) =
    let before = without site entries in
    no_larger (map.len (map.remove before.pages entry.0)) (map.len before.pages) (map.len site.pages)
    (subst (λ n. n ≤ map.len before.pages) (sym (map.len-remove nat_list_cmp_total before.pages entry.0))
    (fewer_with (map.len before.pages) (map.contains_key before.pages entry.0)))
    (fewer_pages site entries)

-- a map without some keys has no more of them
module _ {X : Type 0} where
  abbrev without_keys : TextMap X → List (List ℕ) → TextMap X
  without_keys m [] = m
  without_keys m (key ∷ keys) = without_keys (map.remove m key) keys

  get_without_keys : (m : TextMap X) (keys : List (List ℕ)) (q : List ℕ)
      → map.get (without_keys m keys) q ≡ cond (is_in q keys) None (map.get m q)
  get_without_keys m [] q = refl
  get_without_keys m (key ∷ keys) q =
      get_without_keys (map.remove m key) keys q ∙ (ap (cond (is_in q keys) None) (get_taken m key q)
      ∙ by (same_key q key) (is_in q keys))
    where
      by : (a b : Bool) → cond b None (cond a None (map.get m q)) ≡ cond (a || b) None (map.get m q)
      by true true = refl
      by true false = refl
      by false b = refl

  fewer_keys : (m : TextMap X) (keys : List (List ℕ)) → map.len (without_keys m keys) ≤ map.len m
  fewer_keys m [] = same_number (map.len m)
    where
      same_number : (n : ℕ) → n ≤ n
      same_number n = omega arith
  fewer_keys m (key ∷ keys) =
      no_larger (map.len (without_keys (map.remove m key) keys)) (map.len (map.remove m key)) (map.len m)
      (fewer_keys (map.remove m key) keys)
      (subst (λ n. n ≤ map.len m) (sym (map.len-remove nat_list_cmp_total m key)) (fewer_with (map.len m) (map.contains_key m key)))

goal_by_keys : (aliases : TextMap (List ℕ)) (path : List ℕ) → without_keys aliases (aliases_of aliases path) ≡ without_goal aliases path
goal_by_keys aliases path = map.same_map nat_list_cmp_total exact_bytes _ _ (λ q.
    get_without_keys aliases (aliases_of aliases path) q
    ∙ (ap (λ b. cond b None (map.get aliases q)) (alias_is_in aliases path q)
    ∙ (by (is_goal path (map.get aliases q)) (map.get aliases q) ∙ sym (get-without_goal aliases path q))))
  where
    by : (b : Bool) (goal : Option (List ℕ)) → cond b None goal ≡ cond (not b) goal None
    by true goal = refl
    by false goal = refl

fewer_aliases : (site : Site) (entries : Entries) → map.len (without site entries).aliases ≤ map.len site.aliases
fewer_aliases site [] = same_number (map.len site.aliases)
  where
    same_number : (n : ℕ) → n ≤ n
    same_number n = omega arith
fewer_aliases site (entry ∷ entries) =
    let before = without site entries in
    no_larger (map.len (without_goal before.aliases entry.0)) (map.len before.aliases) (map.len site.aliases)
    (subst (λ m. map.len m ≤ map.len before.aliases) (goal_by_keys before.aliases entry.0)
    (fewer_keys before.aliases (aliases_of before.aliases entry.0)))
    (fewer_aliases site entries)

-- ---- all fit

module _ (site : Site) (is : IsSite site) (few : map.len site.pages ≤ page_limit) (some : map.len site.aliases ≤ alias_limit)
    (short : (path : List ℕ) (page : Page) → map.get site.pages path ≡ Some page → length page.text ≤ text_limit) where
  one_fits : (entry : List ℕ × Page) (entries : Entries) → AreEntries site.pages (entry ∷ entries)
      → AllFit (without site (entry ∷ entries)) (made site entry)
  one_fits entry entries are = made_fits (without site entries) (site_without site entries is) entry.0 entry.1
      (page_without site entries entry.0 ∙ (ap (λ b. cond b None (map.get site.pages entry.0)) are.1 ∙ are.0))
      (aliases_of site.aliases entry.0)
      (λ q. alias_is_in site.aliases entry.0 q ∙ (goal_outside entry.0 (paths entries) (map.get site.aliases q) are.1
      ∙ sym (ap (is_goal entry.0) (alias_without site entries q))))
      (aliases_once site.aliases entry.0)
      (short entry.0 entry.1 are.0)
      (no_larger (map.len (without site entries).pages) (map.len site.pages) page_limit (fewer_pages site entries) few)
      (no_larger (map.len (without site entries).aliases) (map.len site.aliases) alias_limit (fewer_aliases site entries) some)

  all_fit : (entries : Entries) → AreEntries site.pages entries → AllFit (without site entries) (flat_map (made site) entries)
  all_fit [] are = tt
  all_fit (entry ∷ entries) are =
      all_fit_joined (without site (entry ∷ entries)) (made site entry) (flat_map (made site) entries) (one_fits entry entries are)
      (subst (λ s. AllFit s (flat_map (made site) entries)) (sym (one_made site is entry entries are)) (all_fit entries are.2))

compacted_fits : (config site : Site) → IsSite config → IsSite site → map.len site.pages ≤ page_limit → map.len site.aliases ≤ alias_limit
    → ((path : List ℕ) (page : Page) → map.get site.pages path ≡ Some page → length page.text ≤ text_limit)
    → AllFit config (compacted config site)
unfolding compacted
compacted_fits config site is_config is_site few some short =
    let first = other_pages config site config.pages in
    let second = other_pages config site site.pages in
    all_fit_joined config (removals first) (flat_map (made site) second) (removals_fit config first (others_stand config site config.pages))
    (subst (λ s. AllFit s (flat_map (made site) second)) (sym (left_is config site is_config is_site))
    (all_fit site is_site few some short second (others_stand config site site.pages)))

pub replay_gives_the_site : ReplayGivesTheSite
replay_gives_the_site store site is_config is_site room =
    all_accepted store (compacted store.site site) (compacted_fits store.site site is_config is_site room.pages room.aliases room.texts)
    room.puts
    ∙ ap Some (gives_the_site store.site site is_config is_site)
