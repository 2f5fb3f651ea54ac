-- The edits that lead a site to another make it the other.
use Rattle.std.proofs.Common.{◌≡◌, ℕ, List, [], ◌∷◌, Bool, true, false, cond, not, ◌&&◌, ◌||◌, bytes_eq, is_some, refl, ap, sym, ◌∙◌}
use Rattle.std.specs.Prelude.{Option, Some, None}
use Rattle.std.specs.FinMap as map
use Rattle.std.specs.FinMap.Entries.{find, find-where_key, is_some-find}
use Rattle.std.specs.Cmp.Lexicographic.{slice_cmp}
use Rattle.std.specs.List.{filter, flat_map}
use Rattle.std.specs.Ordering.{nat_cmp}
use Rattle.std.proofs.lemmas.Map.Lookups.{exact_bytes}
use Rattle.doc_page_parts.proofs.Bools.{and_first, and_second, clash, or_first, or_second}
use Rattle.doc_store_readers.proofs.KeySteps.{same_key, same_from, same_itself, bytes_eq_is, not_none, some_is, get_set, get_taken}
use Rattle.doc_store_readers.specs.Maps.{TextMap}
use Rattle.doc_store.specs.Names.{aliases_of}
use Rattle.doc_store_readers.specs.Pages.{Page}
use Rattle.doc_store_readers.specs.Sites.{Site, IsSite}
use Rattle.doc_store.specs.Store.{set_page, remove_page, effect_of, is_goal, without_goal}
use Rattle.doc_server_script.specs.Compactions.{effects, made, other_pages, same_at, same_pages, same_texts}
use Rattle.doc_server_script.proofs.CompactionLaw.{alias_is_in, aliases_once, effects_joined, goal_outside, others_stand}
use Rattle.doc_server_script.proofs.MadeSteps.{is_in, leads, page_made, site_is}
use Rattle.doc_server_script.proofs.Without.{AreEntries, Entries, alias_removed, alias_without, outside, page_removed, paths, removals, without}
use Rattle.doc_server_reload.specs.Laws.{LedGivesTheSite}
use Rattle.doc_server_reload.specs.Leads.{gone_pages, led, led_page, stands_so}

-- ---- what some entries of a map have under a path

pub found_in : (test : List ℕ → Bool) (pages : TextMap Page) (q : List ℕ)
    → find (slice_cmp nat_cmp) q (filter (λ entry. test entry.0) (map.entries pages)) ≡ cond (test q) (map.get pages q) None
found_in test pages q =
    find-where_key (slice_cmp nat_cmp) test q (λ x tied. ap test (sym (exact_bytes q x tied))) (map.entries pages)
    ∙ ap (λ page. cond (test q) page None) (sym (map.get-entries pages q))

pub among : (test : List ℕ → Bool) (pages : TextMap Page) (q : List ℕ)
    → is_in q (paths (filter (λ entry. test entry.0) (map.entries pages))) ≡ is_some (cond (test q) (map.get pages q) None)
among test pages q =
    sym (is_some-find (slice_cmp nat_cmp) q (filter (λ entry. test entry.0) (map.entries pages)))
    ∙ ap is_some (found_in test pages q)

-- ---- texts and pages that are the same

same_texts_are : (texts others : List (List ℕ)) → same_texts texts others ≡ true → texts ≡ others
same_texts_are [] [] e = refl
same_texts_are [] (text ∷ others) e = cc
same_texts_are (text ∷ texts) [] e = cc
same_texts_are (text ∷ texts) (first ∷ others) e =
    let same = same_from text first (sym (bytes_eq_is text first) ∙ and_first (bytes_eq text first) (same_texts texts others) e) in
    let rest = same_texts_are texts others (and_second (bytes_eq text first) (same_texts texts others) e) in
    λ i. same i ∷ rest i

same_pages_are : (page other : Option Page) → same_pages page other ≡ true → page ≡ other
same_pages_are None None e = refl
same_pages_are None (Some other) e = cc
same_pages_are (Some page) None e = cc
same_pages_are (Some page) (Some other) e =
    let groups = same_texts_are page.groups other.groups (and_first (same_texts page.groups other.groups)
    (bytes_eq page.text other.text) e) in
    let text = same_from page.text other.text (sym (bytes_eq_is page.text other.text)
    ∙ and_second (same_texts page.groups other.groups) (bytes_eq page.text other.text) e) in
    λ i. Some (record { groups = groups i; text = text i })

same_option : {X : Type 0} (a b : Option X) → ((x : X) → a ≡ Some x → b ≡ Some x) → ((x : X) → b ≡ Some x → a ≡ Some x) → a ≡ b
same_option None None there back = refl
same_option None (Some y) there back = back y refl
same_option (Some x) b there back = sym (there x refl)

found_outside : (some : List (List ℕ)) (found : Option (List ℕ)) (goal : List ℕ) → outside some found ≡ Some goal
    → (found ≡ Some goal) × (is_in goal some ≡ false)
found_outside some None goal e = absurd (not_none goal e)
found_outside some (Some old) goal e = by (is_in old some) refl e
  where
    by : (b : Bool) → is_in old some ≡ b → cond b None (Some old) ≡ Some goal
        → ◌≡◌ {A = Option (List ℕ)} (Some old) (Some goal) × (is_in goal some ≡ false)
    by true there e = absurd (not_none goal e)
    by false there e = (e, ap (λ g. is_in g some) (sym (some_is old goal e)) ∙ there)

-- ---- a page is replaced where it stands

no_alias : (site : Site) → IsSite site → (path : List ℕ) → map.contains_key site.pages path ≡ true → map.get site.aliases path ≡ None
no_alias site is path stands = by (map.get site.aliases path) refl
  where
    by : (goal : Option (List ℕ)) → map.get site.aliases path ≡ goal → goal ≡ None
    by None e = refl
    by (Some goal) e = absurd (clash (map.contains_key site.pages path) stands (is.apart path goal e))

-- a site with another page under a path
abbrev pub with_other : Site → List ℕ → Page → Site
with_other site path page = record { pages = map.insert site.pages path page; aliases = site.aliases }

replaced : (site : Site) → IsSite site → (path : List ℕ) (page was : Page) → map.get site.pages path ≡ Some page
    → effect_of (with_other site path was) (set_page path page) ≡ site
replaced site is path page was stands = site_is (effect_of (with_other site path was) (set_page path page)) site
    (λ q. get_set (map.insert site.pages path was) path page q
    ∙ (ap (cond (same_key q path) (Some page)) (get_set site.pages path was q) ∙ page_at q (same_key q path) refl))
    (λ q. get_taken site.aliases path q ∙ alias_at q (same_key q path) refl)
  where
    page_at : (q : List ℕ) (b : Bool) → same_key q path ≡ b
        → cond b (Some page) (cond b (Some was) (map.get site.pages q)) ≡ map.get site.pages q
    page_at q true e = sym (ap (map.get site.pages) (same_from q path e) ∙ stands)
    page_at q false e = refl

    alias_at : (q : List ℕ) (b : Bool) → same_key q path ≡ b → cond b None (map.get site.aliases q) ≡ map.get site.aliases q
    alias_at q true e = sym (ap (map.get site.aliases) (same_from q path e) ∙ no_alias site is path (ap is_some stands))
    alias_at q false e = refl

-- ---- pages that stand so in both sites

module _ (old new : Site) where
  abbrev so : List ℕ → Bool
  so path = stands_so old new path

  abbrev names_alike : List ℕ → Bool
  names_alike path = same_texts (aliases_of old.aliases path) (aliases_of new.aliases path)

  pub stands_here : (path : List ℕ) → so path ≡ true → map.contains_key old.pages path ≡ true
  stands_here path e =
      and_first (map.contains_key old.pages path) (map.contains_key new.pages path)
      (and_first (map.contains_key old.pages path && map.contains_key new.pages path) (names_alike path) e)

  pub stands_there : (path : List ℕ) → so path ≡ true → map.contains_key new.pages path ≡ true
  stands_there path e =
      and_second (map.contains_key old.pages path) (map.contains_key new.pages path)
      (and_first (map.contains_key old.pages path && map.contains_key new.pages path) (names_alike path) e)

  aliases_alike : (path q : List ℕ) → so path ≡ true → is_goal path (map.get old.aliases q) ≡ is_goal path (map.get new.aliases q)
  aliases_alike path q e =
      let same = same_texts_are (aliases_of old.aliases path) (aliases_of new.aliases path)
      (and_second (map.contains_key old.pages path && map.contains_key new.pages path) (names_alike path) e) in
      sym (alias_is_in old.aliases path q) ∙ (ap (is_in q) same ∙ alias_is_in new.aliases path q)

  pages_alike : (path : List ℕ) → same_at old new path ≡ true → map.get old.pages path ≡ map.get new.pages path
  pages_alike path e = same_pages_are (map.get old.pages path) (map.get new.pages path)
      (and_first (same_pages (map.get old.pages path) (map.get new.pages path)) (names_alike path) e)

  -- a page that both have alike stands so in both
  pub so_alike : (path : List ℕ) → same_at old new path ≡ true → map.contains_key new.pages path ≡ true → so path ≡ true
  so_alike path e there =
      let here = ap is_some (pages_alike path e) ∙ there in
      let names = and_second (same_pages (map.get old.pages path) (map.get new.pages path)) (names_alike path) e in
      ap (λ b. (b && map.contains_key new.pages path) && names_alike path) here ∙ (ap (λ b. b && names_alike path) there ∙ names)

  -- ---- the new site, before the edits of some of its pages

  -- those of some pages that don't stand so in both
  abbrev pub gone : Entries → Entries
  gone entries = filter (λ entry. not (so entry.0)) entries

  -- a site before a page is replaced, or before it is made
  abbrev pub back : Bool → Option Page → Site → List ℕ → Site
  back false page site path = effect_of site (remove_page path)
  back true None site path = site
  back true (Some page) site path = with_other site path page

  abbrev pub before : Entries → Site
  before [] = new
  before (entry ∷ entries) = back (so entry.0) (map.get old.pages entry.0) (before entries) entry.0

  pub none_here : (path : List ℕ) → so path ≡ true → map.get old.pages path ≡ None → ⊥
  none_here path is none = clash (map.contains_key old.pages path) (stands_here path is) (ap is_some none)

  -- what stands under a path then: the old page, where it stands so in both
  abbrev old_page : List ℕ → Option Page
  old_page path = cond (so path) (map.get old.pages path) None

  abbrev PageBefore : Entries → List ℕ → Type 0
  PageBefore entries q = map.get (before entries).pages q ≡ cond (is_in q (paths entries)) (old_page q) (map.get new.pages q)

  pub page_before : (entries : Entries) (q : List ℕ) → PageBefore entries q
  page_before [] q = refl
  page_before (entry ∷ entries) q = by (so entry.0) refl (map.get old.pages entry.0) refl (page_before entries q)
    where
      taken : (b : Bool) → same_key q entry.0 ≡ b → so entry.0 ≡ false → PageBefore entries q
          → cond b None (map.get (before entries).pages q)
          ≡ cond (b || is_in q (paths entries)) (old_page q) (map.get new.pages q)
      taken true e is later = sym (ap old_page (same_from q entry.0 e) ∙ ap (λ b. cond b (map.get old.pages entry.0) None) is)
      taken false e is later = later

      set : (b : Bool) (page : Page) → same_key q entry.0 ≡ b → so entry.0 ≡ true → map.get old.pages entry.0 ≡ Some page → PageBefore entries q
          → cond b (Some page) (map.get (before entries).pages q)
          ≡ cond (b || is_in q (paths entries)) (old_page q) (map.get new.pages q)
      set true page e is found later =
          sym (ap old_page (same_from q entry.0 e) ∙ (ap (λ b. cond b (map.get old.pages entry.0) None) is ∙ found))
      set false page e is found later = later

      by : (b : Bool) → so entry.0 ≡ b → (found : Option Page) → map.get old.pages entry.0 ≡ found → PageBefore entries q
          → map.get (back b found (before entries) entry.0).pages q
          ≡ cond (same_key q entry.0 || is_in q (paths entries)) (old_page q) (map.get new.pages q)
      by false is found e later = get_taken (before entries).pages entry.0 q ∙ taken (same_key q entry.0) refl is later
      by true is None e later = absurd (none_here entry.0 is e)
      by true is (Some page) e later =
          get_set (before entries).pages entry.0 page q ∙ set (same_key q entry.0) page refl is e later

  aliases_before : (entries : Entries) → (before entries).aliases ≡ (without new (gone entries)).aliases
  aliases_before [] = refl
  aliases_before (entry ∷ entries) = by (so entry.0) (map.get old.pages entry.0) (aliases_before entries)
    where
      by : (b : Bool) (found : Option Page) → (before entries).aliases ≡ (without new (gone entries)).aliases
          → (back b found (before entries) entry.0).aliases
          ≡ (without new (cond (not b) (entry ∷ gone entries) (gone entries))).aliases
      by false found later = ap (λ aliases. without_goal aliases entry.0) later
      by true None later = later
      by true (Some page) later = later

  pub alias_before : (entries : Entries) (q : List ℕ)
      → map.get (before entries).aliases q ≡ outside (paths (gone entries)) (map.get new.aliases q)
  alias_before entries q = ap (λ aliases. map.get aliases q) (aliases_before entries) ∙ alias_without new (gone entries) q

  -- ---- it is a site

  in_gone : (q : List ℕ) (entries : Entries) → so q ≡ false → is_in q (paths entries) ≡ true → is_in q (paths (gone entries)) ≡ true
  in_gone q [] is there = there
  in_gone q (entry ∷ entries) is there =
      by (so entry.0) refl (same_key q entry.0) refl (λ later. in_gone q entries is later) there
    where
      by : (b : Bool) → so entry.0 ≡ b → (k : Bool) → same_key q entry.0 ≡ k
          → (is_in q (paths entries) ≡ true → is_in q (paths (gone entries)) ≡ true) → (k || is_in q (paths entries)) ≡ true
          → is_in q (paths (cond (not b) (entry ∷ gone entries) (gone entries))) ≡ true
      by true first true e more there = absurd (clash (so entry.0) first (ap so (sym (same_from q entry.0 e)) ∙ is))
      by true first false e more there = more there
      by false first true e more there = ap (λ k. k || is_in q (paths (gone entries))) e
      by false first false e more there = ap (λ k. k || is_in q (paths (gone entries))) e ∙ more there

  pub not_in_gone : (q : List ℕ) (entries : Entries) → is_in q (paths entries) ≡ false → is_in q (paths (gone entries)) ≡ false
  not_in_gone q [] apart = refl
  not_in_gone q (entry ∷ entries) apart =
      by (so entry.0) (not_in_gone q entries (or_second (same_key q entry.0) (is_in q (paths entries)) apart))
    where
      by : (b : Bool) → is_in q (paths (gone entries)) ≡ false
          → is_in q (paths (cond (not b) (entry ∷ gone entries) (gone entries))) ≡ false
      by true later = later
      by false later =
          ap (λ k. k || is_in q (paths (gone entries))) (or_first (same_key q entry.0) (is_in q (paths entries)) apart) ∙ later

  -- no page is another than one of the new site
  pub stands_new : (entries : Entries) (q : List ℕ) → map.contains_key (before entries).pages q ≡ true
      → map.contains_key new.pages q ≡ true
  stands_new entries q e = by (is_in q (paths entries)) (so q) refl (sym (ap is_some (page_before entries q)) ∙ e)
    where
      by : (a b : Bool) → so q ≡ b → is_some (cond a (cond b (map.get old.pages q) None) (map.get new.pages q)) ≡ true
          → map.contains_key new.pages q ≡ true
      by true true is e = stands_there q is
      by true false is e = cc
      by false b is e = e

  pub site_before : IsSite new → (entries : Entries) → IsSite (before entries)
  site_before is entries = record {
    apart = λ alias goal e.
        let was = found_outside (paths (gone entries)) (map.get new.aliases alias) goal (sym (alias_before entries alias) ∙ e) in
        no_page_at alias (map.contains_key (before entries).pages alias) refl (is.apart alias goal was.0);
    lead = λ alias goal e.
        let was = found_outside (paths (gone entries)) (map.get new.aliases alias) goal (sym (alias_before entries alias) ∙ e) in
        ap is_some (page_before entries goal)
        ∙ page_at goal (is_in goal (paths entries)) (so goal) refl refl was.1 (is.lead alias goal was.0);
  }
    where
      no_page_at : (q : List ℕ) (b : Bool) → map.contains_key (before entries).pages q ≡ b → map.contains_key new.pages q ≡ false
          → b ≡ false
      no_page_at q true e none = absurd (clash (map.contains_key new.pages q) (stands_new entries q e) none)
      no_page_at q false e none = refl

      page_at : (q : List ℕ) (a b : Bool) → is_in q (paths entries) ≡ a → so q ≡ b → is_in q (paths (gone entries)) ≡ false
          → map.contains_key new.pages q ≡ true
          → is_some (cond a (cond b (map.get old.pages q) None) (map.get new.pages q)) ≡ true
      page_at q true true there is apart stands = stands_here q is
      page_at q true false there is apart stands =
          absurd (clash (is_in q (paths (gone entries))) (in_gone q entries is there) apart)
      page_at q false b there is apart stands = stands

  -- ---- the removals leave it

  abbrev others : Entries
  others = other_pages old new new.pages

  page_left : (q : List ℕ) → cond (is_in q (paths (gone_pages old new))) None (map.get old.pages q)
      ≡ cond (is_in q (paths others)) (old_page q) (map.get new.pages q)
  page_left q =
      ap (λ b. cond b None (map.get old.pages q)) (among (λ path. not (so path)) old.pages q)
      ∙ (by (so q) (same_at old new q) (map.get old.pages q) (map.get new.pages q) refl refl refl refl
      ∙ sym (ap (λ b. cond b (old_page q) (map.get new.pages q)) (among (λ path. not (same_at old new path)) new.pages q)))
    where
      by : (b c : Bool) (here there : Option Page) → so q ≡ b → same_at old new q ≡ c → map.get old.pages q ≡ here
          → map.get new.pages q ≡ there
          → cond (is_some (cond (not b) here None)) None here
          ≡ cond (is_some (cond (not c) there None)) (cond b here None) there
      by b true here (Some page) is alike e f =
          let stands = so_alike q alike (ap is_some f) in
          ap (λ b. cond (is_some (cond (not b) here None)) None here) (sym is ∙ stands) ∙ (sym e ∙ (pages_alike q alike ∙ f))
      by true true None None is alike e f = refl
      by false true None None is alike e f = refl
      by b true (Some page) None is alike e f = absurd (not_none page (sym (sym e ∙ (pages_alike q alike ∙ f))))
      by true false here (Some page) is alike e f = refl
      by false false None (Some page) is alike e f = refl
      by false false (Some was) (Some page) is alike e f = refl
      by true false here None is alike e f = absurd (clash (map.contains_key new.pages q) (stands_there q is) (ap is_some f))
      by false false None None is alike e f = refl
      by false false (Some was) None is alike e f = refl

  -- an alias whose page stands so in both
  abbrev alike : Option (List ℕ) → Option (List ℕ)
  alike None = None
  alike (Some goal) = cond (so goal) (Some goal) None

  old_alias : (goal : Option (List ℕ)) → ((path : List ℕ) → goal ≡ Some path → map.contains_key old.pages path ≡ true)
      → outside (paths (gone_pages old new)) goal ≡ alike goal
  old_alias None stands = refl
  old_alias (Some goal) stands =
      ap (λ b. cond b None (Some goal)) (among (λ path. not (so path)) old.pages goal)
      ∙ by (so goal) (map.get old.pages goal) (stands goal refl)
    where
      by : (b : Bool) (page : Option Page) → is_some page ≡ true
          → cond (is_some (cond (not b) page None)) None (Some goal) ≡ cond b (Some goal) None
      by true page e = refl
      by false None e = cc
      by false (Some page) e = refl

  gone_among : (q : List ℕ) → is_in q (paths (gone others))
      ≡ is_some (cond (not (so q)) (cond (not (same_at old new q)) (map.get new.pages q) None) None)
  gone_among q =
      sym (is_some-find (slice_cmp nat_cmp) q (gone others))
      ∙ ap is_some (find-where_key (slice_cmp nat_cmp) (λ path. not (so path)) q (λ x tied. ap (λ p. not (so p)) (sym (exact_bytes q x tied))) others
      ∙ ap (λ page. cond (not (so q)) page None) (found_in (λ path. not (same_at old new path)) new.pages q))

  new_alias : (goal : Option (List ℕ)) → ((path : List ℕ) → goal ≡ Some path → map.contains_key new.pages path ≡ true)
      → outside (paths (gone others)) goal ≡ alike goal
  new_alias None stands = refl
  new_alias (Some goal) stands =
      ap (λ b. cond b None (Some goal)) (gone_among goal)
      ∙ by (so goal) (same_at old new goal) (map.get new.pages goal) refl refl refl (stands goal refl)
    where
      by : (b c : Bool) (page : Option Page) → so goal ≡ b → same_at old new goal ≡ c → map.get new.pages goal ≡ page
          → is_some page ≡ true
          → cond (is_some (cond (not b) (cond (not c) page None) None)) None (Some goal) ≡ cond b (Some goal) None
      by true c page is same found e = refl
      by false true page is same found e = absurd (clash (so goal) (so_alike goal same (ap is_some found ∙ e)) is)
      by false false None is same found e = cc
      by false false (Some page) is same found e = refl

  alike_from : (here there : Option (List ℕ)) → ((path : List ℕ) → so path ≡ true → is_goal path here ≡ is_goal path there)
      → (goal : List ℕ) → alike here ≡ Some goal → alike there ≡ Some goal
  alike_from None there same goal e = absurd (not_none goal e)
  alike_from (Some old_goal) there same goal e = by (so old_goal) refl e
    where
      by : (b : Bool) → so old_goal ≡ b → cond b (Some old_goal) None ≡ Some goal → alike there ≡ Some goal
      by true is e =
          ap alike (leads old_goal there (sym (same old_goal is) ∙ (bytes_eq_is old_goal old_goal ∙ same_itself old_goal)))
          ∙ (ap (λ b. cond b (Some old_goal) None) is ∙ e)
      by false is e = absurd (not_none goal e)

  alias_alike : (q : List ℕ) → alike (map.get old.aliases q) ≡ alike (map.get new.aliases q)
  alias_alike q = same_option (alike (map.get old.aliases q)) (alike (map.get new.aliases q))
      (alike_from (map.get old.aliases q) (map.get new.aliases q) (λ path. aliases_alike path q))
      (alike_from (map.get new.aliases q) (map.get old.aliases q) (λ path is. sym (aliases_alike path q is)))

  pub removed_is : IsSite old → IsSite new → effects old (removals (gone_pages old new)) ≡ before others
  removed_is is_old is_new = site_is (effects old (removals (gone_pages old new))) (before others)
      (λ q. page_removed old (gone_pages old new) q ∙ (page_left q ∙ sym (page_before others q)))
      (λ q. alias_removed old (gone_pages old new) q ∙ (old_alias (map.get old.aliases q) (is_old.lead q)
      ∙ (alias_alike q ∙ sym (alias_before others q ∙ new_alias (map.get new.aliases q) (is_new.lead q)))))

  -- ---- each page is replaced or made

  module _ (is : IsSite new) (entry : List ℕ × Page) (entries : Entries) (are : AreEntries new.pages (entry ∷ entries)) where
    pub stands_before : map.get (before entries).pages entry.0 ≡ Some entry.1
    stands_before = page_before entries entry.0
        ∙ (ap (λ b. cond b (old_page entry.0) (map.get new.pages entry.0)) are.1 ∙ are.0)

    pub leads_before : (q : List ℕ) → is_in q (aliases_of new.aliases entry.0) ≡ is_goal entry.0 (map.get (before entries).aliases q)
    leads_before q =
        alias_is_in new.aliases entry.0 q
        ∙ (goal_outside entry.0 (paths (gone entries)) (map.get new.aliases q) (not_in_gone entry.0 entries are.1)
        ∙ sym (ap (is_goal entry.0) (alias_before entries q)))

    pub one_led : effects (before (entry ∷ entries)) (led_page old new entry) ≡ before entries
    one_led = by (so entry.0) refl (map.get old.pages entry.0) refl
      where
        by : (b : Bool) → so entry.0 ≡ b → (found : Option Page) → map.get old.pages entry.0 ≡ found
            → effects (back b found (before entries) entry.0) (cond b (set_page entry.0 entry.1 ∷ []) (made new entry)) ≡ before entries
        by false is_so found e = page_made (before entries) (site_before is entries) entry.0 entry.1 stands_before
            (aliases_of new.aliases entry.0) leads_before (aliases_once new.aliases entry.0)
        by true is_so None e = absurd (none_here entry.0 is_so e)
        by true is_so (Some page) e = replaced (before entries) (site_before is entries) entry.0 entry.1 page stands_before

  all_led : IsSite new → (entries : Entries) → AreEntries new.pages entries
      → effects (before entries) (flat_map (led_page old new) entries) ≡ new
  all_led is [] are = refl
  all_led is (entry ∷ entries) are =
      effects_joined (before (entry ∷ entries)) (led_page old new entry) (flat_map (led_page old new) entries)
      ∙ (ap (λ s. effects s (flat_map (led_page old new) entries)) (one_led is entry entries are) ∙ all_led is entries are.2)

pub led_gives_the_site : LedGivesTheSite
unfolding led
led_gives_the_site old new is_old is_new =
    effects_joined old (removals (gone_pages old new)) (flat_map (led_page old new) (other_pages old new new.pages))
    ∙ (ap (λ s. effects s (flat_map (led_page old new) (other_pages old new new.pages))) (removed_is old new is_old is_new)
    ∙ all_led old new is_new (other_pages old new new.pages) (others_stand old new new.pages))
