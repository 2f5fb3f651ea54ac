-- The edits that lead a site to another fit, one after the other.
use Rattle.std.proofs.Common.{◌≡◌, ℕ, ◌-◌, ◌≤◌, ◌<◌, List, [], ◌∷◌, ◌++◌, Bool, true, false, cond, not, ◌&&◌, ◌||◌, length, is_some, refl}
use Rattle.std.proofs.Common.{ap, sym, subst, ◌∙◌, nat_le, arith}
use Rattle.std.proofs.lemmas.Bool.Decides.{nat_tests}
use Rattle.std.specs.Prelude.{⊤, Option, Some, None}
use Rattle.std.specs.FinMap as map
use Rattle.std.specs.FinMap.Entries.{find, is_some-find}
use Rattle.std.specs.Cmp.Lexicographic.{slice_cmp}
use Rattle.std.specs.List.{AllByRecursion, IsDistinct, filter, flat_map}
use Rattle.std.specs.Map.{keys_of}
use Rattle.std.specs.Ordering.{nat_cmp, eq_by_cmp}
use Rattle.std.proofs.lemmas.Cmp.{nat_list_cmp_total}
use Rattle.std.proofs.lemmas.Map.Keys.{IsDistinct-from_sorted}
use Rattle.doc_page_parts.proofs.Bools.{and_false, clash, or_first, or_second}
use Rattle.doc_store_readers.proofs.FilterSteps.{keys_in_order, some_in_order}
use Rattle.doc_store_readers.proofs.KeySteps.{same_key, same_from, same_itself, get_set, get_taken, not_none}
use Rattle.doc_store.proofs.StoreSteps.{get-without_goal}
use Rattle.doc_store_readers.specs.Maps.{TextMap}
use Rattle.doc_store.specs.Names.{aliases_of}
use Rattle.doc_store_readers.specs.Pages.{Page}
use Rattle.doc_store_readers.specs.Sites.{Site, IsSite}
use Rattle.doc_store.specs.Store.{set_page, remove_page, move_page, effect_of, is_goal, aliases_after, page_limit, alias_limit, text_limit}
use Rattle.doc_store.specs.declared.site_edit.SiteEdit.{SiteEdit}
use Rattle.doc_store.specs.declared.site_edit.SiteEdit.TheVariants as site_edits
use Rattle.doc_server_script.specs.Compactions.{effects, made, made_along, moves, other_pages}
use Rattle.doc_server_script.proofs.CompactionLaw.{aliases_once, others_stand}
use Rattle.doc_server_script.proofs.MadeSteps.{IsAt, IsFree, Once, all_free, apart_from, first_is_in, is_in, key_turned}
use Rattle.doc_server_script.proofs.MadeSteps.{later_is_in, leads, move_at, once_with_last, path_is_no_name, put_at}
use Rattle.doc_server_script.proofs.Without.{AreEntries, Entries, outside, paths, removals}
use Rattle.doc_server_reload.specs.Leads.{gone_pages, led, led_page, stands_so}
use Rattle.doc_server_reload.proofs.LeadLaw.{alias_before, back, before, found_in, gone, leads_before, none_here, one_led, removed_is}
use Rattle.doc_server_reload.proofs.LeadLaw.{site_before, stands_before, stands_new}
use Rattle.doc_server_reload.proofs.Sizes.{no_larger}

-- ---- edits that fit

-- a put needs room where no page stands under its path, and a removal a page
abbrev pub Fits : Site → SiteEdit → Type 0
Fits site (site_edits.Put path groups text) =
    (length text ≤ text_limit) × ((not (map.contains_key site.pages path) && nat_le page_limit (map.len site.pages)) ≡ false)
Fits site (site_edits.Remove path) = map.contains_key site.pages path ≡ true
Fits site (site_edits.Move from to) =
    (map.contains_key site.pages from ≡ true) × (map.contains_key site.pages to ≡ false)
    × (map.len (aliases_after site.aliases from to) ≤ alias_limit)

abbrev pub AllFit : Site → List SiteEdit → Type 0
AllFit site [] = ⊤
AllFit site (edit ∷ edits) = Fits site edit × AllFit (effect_of site edit) edits

all_fit_joined : (site : Site) (edits more : List SiteEdit) → AllFit site edits → AllFit (effects site edits) more
    → AllFit site (edits ++ more)
all_fit_joined site [] more fit rest = rest
all_fit_joined site (edit ∷ edits) more fit rest = (fit.0, all_fit_joined (effect_of site edit) edits more fit.1 rest)

-- ---- the pages that go

none_of : (name : List ℕ) (names : List (List ℕ)) → AllByRecursion (λ other. same_key name other ≡ false) names → is_in name names ≡ false
none_of name [] all = refl
none_of name (other ∷ names) all = ap (λ b. b || is_in name names) all.0 ∙ none_of name names all.1

once_from : (names : List (List ℕ)) → IsDistinct (eq_by_cmp (slice_cmp nat_cmp)) names → Once names
unfolding IsDistinct
once_from [] all = tt
once_from (name ∷ names) all = (none_of name names all.0, once_from names all.1)

-- what is found among some entries stands
AreFound : TextMap Page → Entries → Type 0
AreFound pages entries = (q : List ℕ) (page : Page) → find (slice_cmp nat_cmp) q entries ≡ Some page → map.get pages q ≡ Some page

entries_from : (pages : TextMap Page) (entries : Entries) → Once (paths entries) → AreFound pages entries → AreEntries pages entries
unfolding AreFound
entries_from pages [] once found = tt
entries_from pages (entry ∷ entries) once found = (
  found entry.0 entry.1 (ap (λ b. cond b (Some entry.1) (find (slice_cmp nat_cmp) entry.0 entries)) (same_itself entry.0)),
  once.0,
  entries_from pages entries once.1 (λ q page is. found q page (later q page (same_key q entry.0) refl is)),
)
  where
    later : (q : List ℕ) (page : Page) (b : Bool) → same_key q entry.0 ≡ b → find (slice_cmp nat_cmp) q entries ≡ Some page
        → cond b (Some entry.1) (find (slice_cmp nat_cmp) q entries) ≡ Some page
    later q page true e is = absurd (clash (is_in q (paths entries))
        (sym (is_some-find (slice_cmp nat_cmp) q entries) ∙ ap is_some is)
        (ap (λ name. is_in name (paths entries)) (same_from q entry.0 e) ∙ once.0))
    later q page false e is = is

some_are : (test : List ℕ → Bool) (pages : TextMap Page) → AreEntries pages (filter (λ entry. test entry.0) (map.entries pages))
unfolding AreFound
some_are test pages = entries_from pages some
    (once_from (paths some) (IsDistinct-from_sorted (slice_cmp nat_cmp) (keys_of some)
    (some_in_order (slice_cmp nat_cmp) (λ entry. test entry.0) (map.entries pages)
    (keys_in_order (slice_cmp nat_cmp) (map.entries pages) (map.entries_sorted pages)))))
    (λ q page is. by (test q) (map.get pages q) page (sym (found_in test pages q) ∙ is))
  where
    some : Entries
    some = filter (λ entry. test entry.0) (map.entries pages)

    by : (b : Bool) (found : Option Page) (page : Page) → cond b found None ≡ Some page → found ≡ Some page
    by true found page is = is
    by false found page is = absurd (not_none page is)

still_entries : (pages : TextMap Page) (path : List ℕ) (entries : Entries) → is_in path (paths entries) ≡ false → AreEntries pages entries
    → AreEntries (map.remove pages path) entries
still_entries pages path [] apart are = tt
still_entries pages path (entry ∷ entries) apart are = (
  get_taken pages path entry.0
      ∙ (ap (λ b. cond b None (map.get pages entry.0))
      (key_turned path entry.0 (or_first (same_key path entry.0) (is_in path (paths entries)) apart)) ∙ are.0),
  are.1,
  still_entries pages path entries (or_second (same_key path entry.0) (is_in path (paths entries)) apart) are.2,
)

removals_fit : (site : Site) (entries : Entries) → AreEntries site.pages entries → AllFit site (removals entries)
removals_fit site [] are = tt
removals_fit site (entry ∷ entries) are = (
  ap is_some are.0,
  removals_fit (effect_of site (remove_page entry.0)) entries (still_entries site.pages entry.0 entries are.1 are.2),
)

-- ---- a page on its way

within : (a b most : ℕ) → a ≤ b → b ≤ most → a ≤ most
within a b most le room = omega (arith, le, room)

-- All aliases on the way are aliases of a map that has no more than may stand.
module _ (rest : Site) (page : Page) (all : TextMap (List ℕ)) (few : map.len all ≤ alias_limit)
    (stay : (q : List ℕ) → map.contains_key rest.aliases q ≡ true → map.contains_key all q ≡ true) where
  move_fits : (from to : List ℕ) (left : List ℕ → Bool) (now : Site) → IsAt rest page from left now → IsFree rest from → IsFree rest to
      → left to ≡ false → same_key to from ≡ false
      → ((q : List ℕ) → (same_key q from || left q) ≡ true → map.contains_key all q ≡ true)
      → Fits now (move_page from to)
  move_fits from to left now at old new apart other known = (
    ap is_some (at.pages from ∙ ap (λ b. cond b (Some page) (map.get rest.pages from)) (same_itself from)),
    ap is_some (at.pages to ∙ (ap (λ b. cond b (Some page) (map.get rest.pages to)) other ∙ new.page)),
    within (map.len (aliases_after now.aliases from to)) (map.len all) alias_limit
        (no_larger (aliases_after now.aliases from to) all (λ q e. by q (same_key q from || left q) refl
        (sym (ap is_some ((move_at rest page from to left now at old new apart).aliases q)) ∙ e)))
        few,
  )
    where
      by : (q : List ℕ) (b : Bool) → (same_key q from || left q) ≡ b → is_some (cond b (Some to) (map.get rest.aliases q)) ≡ true
          → map.contains_key all q ≡ true
      by q true is e = known q is
      by q false is e = stay q e

  -- the names that are left, the last of which is the path: they are free, once each, and none of them is left behind
  record IsOnWay (path from : List ℕ) (names : List (List ℕ)) (left : List ℕ → Bool) (now : Site) : Type 0 where
    at : IsAt rest page from left now
    free : (q : List ℕ) → is_in q (from ∷ (names ++ path ∷ [])) ≡ true → IsFree rest q
    once : Once (from ∷ (names ++ path ∷ []))
    apart : (q : List ℕ) → is_in q (from ∷ (names ++ path ∷ [])) ≡ true → left q ≡ false
    known : (q : List ℕ) → is_in q (from ∷ names) ≡ true → map.contains_key all q ≡ true
    behind : (q : List ℕ) → left q ≡ true → map.contains_key all q ≡ true

  neither : (a b : Bool) → a ≡ false → b ≡ false → (a || b) ≡ false
  neither a b e f = ap (λ a. a || b) e ∙ f

  module _ (path from to : List ℕ) (names : List (List ℕ)) (left : List ℕ → Bool) (now : Site)
      (is : IsOnWay path from (to ∷ names) left now) where
    left_more : (q : List ℕ) → (same_key q from || left q) ≡ true → map.contains_key all q ≡ true
    left_more q e = by (same_key q from) refl e
      where
        by : (b : Bool) → same_key q from ≡ b → (b || left q) ≡ true → map.contains_key all q ≡ true
        by true first e = is.known q (ap (λ b. b || is_in q (to ∷ names)) first)
        by false first e = is.behind q e

    to_is_in : is_in to (from ∷ (to ∷ names ++ path ∷ [])) ≡ true
    to_is_in = later_is_in to from (to ∷ (names ++ path ∷ [])) (first_is_in to (names ++ path ∷ []))

    next_fits : Fits now (move_page from to)
    next_fits = move_fits from to left now is.at (is.free from (first_is_in from (to ∷ (names ++ path ∷ [])))) (is.free to to_is_in)
        (is.apart to to_is_in)
        (apart_from to from (to ∷ (names ++ path ∷ [])) (first_is_in to (names ++ path ∷ [])) is.once.0) left_more

    on_way : IsOnWay path to names (λ q. same_key q from || left q) (effect_of now (move_page from to))
    on_way = record {
      at = move_at rest page from to left now is.at (is.free from (first_is_in from (to ∷ (names ++ path ∷ [])))) (is.free to to_is_in)
          (is.apart to to_is_in);
      free = λ q e. is.free q (later_is_in q from (to ∷ (names ++ path ∷ [])) e);
      once = is.once.1;
      apart = λ q e. neither (same_key q from) (left q) (apart_from q from (to ∷ (names ++ path ∷ [])) e is.once.0)
          (is.apart q (later_is_in q from (to ∷ (names ++ path ∷ [])) e));
      known = λ q e. is.known q (later_is_in q from (to ∷ names) e);
      behind = left_more;
    }

  last_fits : (path from : List ℕ) (left : List ℕ → Bool) (now : Site) → IsOnWay path from [] left now → Fits now (move_page from path)
  last_fits path from left now is =
      let there = later_is_in path from (path ∷ []) (first_is_in path []) in
      move_fits from path left now is.at (is.free from (first_is_in from (path ∷ []))) (is.free path there) (is.apart path there)
      (apart_from path from (path ∷ []) (first_is_in path []) is.once.0) (λ q e. by q (same_key q from) refl e)
    where
      by : (q : List ℕ) (b : Bool) → same_key q from ≡ b → (b || left q) ≡ true → map.contains_key all q ≡ true
      by q true first e = is.known q (ap (λ b. b || false) first)
      by q false first e = is.behind q e

  moves_fit : (path from : List ℕ) (names : List (List ℕ)) (left : List ℕ → Bool) (now : Site) → IsOnWay path from names left now
      → AllFit now (moves from (names ++ path ∷ []))
  moves_fit path from [] left now is = (last_fits path from left now is, tt)
  moves_fit path from (to ∷ names) left now is = (
    next_fits path from to names left now is,
    moves_fit path to names (λ q. same_key q from || left q) (effect_of now (move_page from to)) (on_way path from to names left now is),
  )

-- ---- a page that is made fits

one_less : (n : ℕ) → n ≤ page_limit → n - 1 < page_limit
unfolding page_limit
one_less n le = omega (arith, le)

below : (a b : ℕ) → a < b → nat_le b a ≡ false
below a b less = grind (arith, nat_tests)

module _ (site : Site) (is : IsSite site) (path : List ℕ) (page : Page) (stands : map.get site.pages path ≡ Some page)
    (short : length page.text ≤ text_limit) (few : map.len site.pages ≤ page_limit) (some : map.len site.aliases ≤ alias_limit) where
  abbrev rest : Site
  rest = effect_of site (remove_page path)

  room : nat_le page_limit (map.len rest.pages) ≡ false
  room = below (map.len rest.pages) page_limit (subst (λ n. n < page_limit) (sym (map.len-remove nat_list_cmp_total site.pages path
      ∙ ap (λ found. cond (is_some found) (map.len site.pages - 1) (map.len site.pages)) stands)) (one_less (map.len site.pages) few))

  put_fits : (first : List ℕ) → Fits rest (set_page first page)
  put_fits first = (
    short,
    ap (λ b. not (map.contains_key rest.pages first) && b) room ∙ and_false (not (map.contains_key rest.pages first)),
  )

  stay_known : (q : List ℕ) → map.contains_key rest.aliases q ≡ true → map.contains_key site.aliases q ≡ true
  stay_known q e = by (is_goal path (map.get site.aliases q)) (sym (ap is_some (get-without_goal site.aliases path q)) ∙ e)
    where
      by : (b : Bool) → is_some (cond (not b) (map.get site.aliases q) None) ≡ true → map.contains_key site.aliases q ≡ true
      by true e = cc
      by false e = e

  fit_along : (names : List (List ℕ)) → ((q : List ℕ) → is_in q (names ++ path ∷ []) ≡ true → IsFree rest q) → Once (names ++ path ∷ [])
      → ((q : List ℕ) → is_in q names ≡ true → map.contains_key site.aliases q ≡ true)
      → AllFit rest (made_along page (names ++ path ∷ []))
  fit_along [] free once known = (put_fits path, tt)
  fit_along (first ∷ more) free once known = (
    put_fits first,
    moves_fit rest page site.aliases some stay_known path first more (λ _. false) (effect_of rest (set_page first page)) (record {
      at = put_at rest page first (free first (first_is_in first (more ++ path ∷ [])));
      free = free;
      once = once;
      apart = λ q e. refl;
      known = known;
      behind = λ q e. absurd (clash false e refl);
    }),
  )

  made_fits : (names : List (List ℕ)) → ((q : List ℕ) → is_in q names ≡ is_goal path (map.get site.aliases q)) → Once names
      → AllFit rest (made_along page (names ++ path ∷ []))
  made_fits names lead once = fit_along names (all_free site is path page stands names lead once)
      (once_with_last names path once (path_is_no_name site is path page stands names lead once))
      (λ q e. ap is_some (leads path (map.get site.aliases q) (sym (lead q) ∙ e)))

-- ---- all fit

module _ (old new : Site) (is : IsSite new) (few : map.len new.pages ≤ page_limit) (some : map.len new.aliases ≤ alias_limit)
    (short : (path : List ℕ) (page : Page) → map.get new.pages path ≡ Some page → length page.text ≤ text_limit) where
  few_before : (entries : Entries) → map.len (before old new entries).pages ≤ page_limit
  few_before entries = within (map.len (before old new entries).pages) (map.len new.pages) page_limit
      (no_larger (before old new entries).pages new.pages (stands_new old new entries)) few

  some_before : (entries : Entries) → map.len (before old new entries).aliases ≤ alias_limit
  some_before entries = within (map.len (before old new entries).aliases) (map.len new.aliases) alias_limit
      (no_larger (before old new entries).aliases new.aliases (λ q e. by (map.get new.aliases q)
      (sym (ap is_some (alias_before old new entries q)) ∙ e))) some
    where
      by : (goal : Option (List ℕ)) → is_some (outside (paths (gone old new entries)) goal) ≡ true → is_some goal ≡ true
      by None e = e
      by (Some goal) e = refl

  one_fits : (entry : List ℕ × Page) (entries : Entries) → AreEntries new.pages (entry ∷ entries)
      → AllFit (before old new (entry ∷ entries)) (led_page old new entry)
  one_fits entry entries are = by (stands_so old new entry.0) refl (map.get old.pages entry.0) refl
    where
      stood : (page : Page) → map.contains_key (map.insert (before old new entries).pages entry.0 page) entry.0 ≡ true
      stood page = ap is_some (get_set (before old new entries).pages entry.0 page entry.0
          ∙ ap (λ b. cond b (Some page) (map.get (before old new entries).pages entry.0)) (same_itself entry.0))

      by : (b : Bool) → stands_so old new entry.0 ≡ b → (found : Option Page) → map.get old.pages entry.0 ≡ found
          → AllFit (back old new b found (before old new entries) entry.0) (cond b (set_page entry.0 entry.1 ∷ []) (made new entry))
      by false so found e = made_fits (before old new entries) (site_before old new is entries) entry.0 entry.1
          (stands_before old new is entry entries are) (short entry.0 entry.1 are.0) (few_before entries) (some_before entries)
          (aliases_of new.aliases entry.0) (leads_before old new is entry entries are) (aliases_once new.aliases entry.0)
      by true so None e = absurd (none_here old new entry.0 so e)
      by true so (Some page) e = (
        (
          short entry.0 entry.1 are.0,
          ap (λ b. not b && nat_le page_limit (map.len (map.insert (before old new entries).pages entry.0 page))) (stood page),
        ),
        tt,
      )

  pages_fit : (entries : Entries) → AreEntries new.pages entries → AllFit (before old new entries) (flat_map (led_page old new) entries)
  pages_fit [] are = tt
  pages_fit (entry ∷ entries) are =
      all_fit_joined (before old new (entry ∷ entries)) (led_page old new entry) (flat_map (led_page old new) entries)
      (one_fits entry entries are)
      (subst (λ s. AllFit s (flat_map (led_page old new) entries)) (sym (one_led old new is entry entries are)) (pages_fit entries are.2))

  pub led_fits : IsSite old → AllFit old (led old new)
  unfolding led
  led_fits is_old =
      all_fit_joined old (removals (gone_pages old new)) (flat_map (led_page old new) (other_pages old new new.pages))
      (removals_fit old (gone_pages old new) (some_are (λ path. not (stands_so old new path)) old.pages))
      (subst (λ s. AllFit s (flat_map (led_page old new) (other_pages old new new.pages))) (sym (removed_is old new is_old is))
      (pages_fit (other_pages old new new.pages) (others_stand old new new.pages)))
