-- The edits that lead from one site to another give the other.
use Rattle.std.proofs.Common.{◌≡◌, ℕ, List, [], ◌∷◌, ◌++◌, Bool, true, false, cond, not, ◌||◌, bytes_eq, is_some, refl, ap, sym}
use Rattle.std.proofs.Common.{◌∙◌}
use Rattle.std.specs.Prelude.{⊤, Option, Some, None}
use Rattle.std.specs.FinMap as map
use Rattle.std.specs.FinMap.Entries.{find, find-where_key, is_some-find}
use Rattle.std.specs.Cmp.Lexicographic.{slice_cmp}
use Rattle.std.specs.List.{AllByRecursion, IsDistinct, filter, flat_map}
use Rattle.std.specs.Map.{keys_of}
use Rattle.std.specs.Ordering.{nat_cmp, eq_by_cmp}
use Rattle.std.proofs.lemmas.Map.Keys.{IsDistinct-from_sorted}
use Rattle.std.proofs.lemmas.Map.Lookups.{exact_bytes}
use Rattle.doc_page_parts.proofs.Bools.{and_first, and_second, clash}
use Rattle.doc_store_readers.proofs.FilterSteps.{keys_in_order, some_in_order}
use Rattle.doc_store_readers.proofs.KeySteps.{same_key, same_from, same_itself, bytes_eq_is}
use Rattle.doc_store.proofs.NamesLaw.{alias_leads, by_bytes}
use Rattle.doc_store_readers.specs.Maps.{TextMap}
use Rattle.doc_store.specs.Names.{aliases_of}
use Rattle.doc_store_readers.specs.Pages.{Page}
use Rattle.doc_store_readers.specs.Sites.{Site, IsSite}
use Rattle.doc_store.specs.Store.{effect_of, is_goal}
use Rattle.doc_store.specs.declared.site_edit.SiteEdit.{SiteEdit}
use Rattle.doc_server_script.specs.Compactions.{compacted, effects, made, other_pages, same_at, same_pages, same_texts}
use Rattle.doc_server_script.specs.CompactionLaws.{GivesTheSite}
use Rattle.doc_server_script.proofs.MadeSteps.{Once, is_in, leads, page_made, site_is}
use Rattle.doc_server_script.proofs.Without.{AreEntries, Entries, alias_removed, alias_without, outside, page_removed, page_without}
use Rattle.doc_server_script.proofs.Without.{paths, removals, site_without, without}

-- ---- edits one after the other

pub effects_joined : (site : Site) (edits more : List SiteEdit) → effects site (edits ++ more) ≡ effects (effects site edits) more
effects_joined site [] more = refl
effects_joined site (edit ∷ edits) more = effects_joined (effect_of site edit) edits more

-- ---- names that stand once

none_of : (name : List ℕ) (names : List (List ℕ)) → AllByRecursion (λ other. same_key name other ≡ false) names → is_in name names ≡ false
none_of name [] all = refl
none_of name (other ∷ names) all = ap (λ b. b || is_in name names) all.0 ∙ none_of name names all.1

once_from : (names : List (List ℕ)) → IsDistinct (eq_by_cmp (slice_cmp nat_cmp)) names → Once names
unfolding IsDistinct
once_from [] all = tt
once_from (name ∷ names) all = (none_of name names all.0, once_from names all.1)

pub aliases_once : (aliases : TextMap (List ℕ)) (path : List ℕ) → Once (aliases_of aliases path)
aliases_once aliases path =
    once_from (aliases_of aliases path) (IsDistinct-from_sorted (slice_cmp nat_cmp) (aliases_of aliases path)
    (some_in_order (slice_cmp nat_cmp) (λ entry. bytes_eq entry.1 path) (map.entries aliases)
    (keys_in_order (slice_cmp nat_cmp) (map.entries aliases) (map.entries_sorted aliases))))

pub alias_is_in : (aliases : TextMap (List ℕ)) (path q : List ℕ) → is_in q (aliases_of aliases path) ≡ is_goal path (map.get aliases q)
alias_is_in aliases path q = sym (by_bytes q (aliases_of aliases path)) ∙ alias_leads aliases path q

-- ---- entries of a map

-- what the first of some entries holds for each path
AreFound : Entries → Entries → Type 0
AreFound all [] = ⊤
AreFound all (entry ∷ entries) =
    (find (slice_cmp nat_cmp) entry.0 all ≡ Some entry.1) × (is_in entry.0 (paths entries) ≡ false) × AreFound all entries

found_more : (first : List ℕ × Page) (all entries : Entries) → is_in first.0 (paths entries) ≡ false → AreFound all entries
    → AreFound (first ∷ all) entries
unfolding AreFound
found_more first all [] apart found = tt
found_more first all (entry ∷ entries) apart found = (
  ap (λ b. cond b (Some first.1) (find (slice_cmp nat_cmp) entry.0 all)) (other (same_key entry.0 first.0) refl) ∙ found.0,
  found.1,
  found_more first all entries (tail (same_key first.0 entry.0) (is_in first.0 (paths entries)) apart) found.2,
)
  where
    head : (a b : Bool) → (a || b) ≡ false → a ≡ false
    head true b e = e
    head false b e = refl

    tail : (a b : Bool) → (a || b) ≡ false → b ≡ false
    tail true b e = cc
    tail false b e = e

    other : (b : Bool) → same_key entry.0 first.0 ≡ b → b ≡ false
    other true e = absurd (clash (same_key first.0 entry.0) (ap (same_key first.0) (same_from entry.0 first.0 e) ∙ same_itself first.0)
        (head (same_key first.0 entry.0) (is_in first.0 (paths entries)) apart))
    other false e = refl

all_found : (entries : Entries) → Once (paths entries) → AreFound entries entries
unfolding AreFound
all_found [] once = tt
all_found (entry ∷ entries) once = (
  ap (λ b. cond b (Some entry.1) (find (slice_cmp nat_cmp) entry.0 entries)) (same_itself entry.0),
  once.0,
  found_more entry entries entries once.0 (all_found entries once.1),
)

entries_from : (pages : TextMap Page) (entries : Entries) → AreFound (map.entries pages) entries → AreEntries pages entries
unfolding AreFound
entries_from pages [] found = tt
entries_from pages (entry ∷ entries) found = (
  map.get-entries pages entry.0 ∙ found.0,
  found.1,
  entries_from pages entries found.2,
)

all_are : (pages : TextMap Page) → AreEntries pages (map.entries pages)
all_are pages =
    entries_from pages (map.entries pages) (all_found (map.entries pages) (once_from (paths (map.entries pages))
    (IsDistinct-from_sorted (slice_cmp nat_cmp) (keys_of (map.entries pages))
    (keys_in_order (slice_cmp nat_cmp) (map.entries pages) (map.entries_sorted pages)))))

-- some of the entries of a map are entries of it
abbrev some_of : (List ℕ → Bool) → Entries → Entries
some_of test entries = filter (λ entry. test entry.0) entries

not_in_some : (test : List ℕ → Bool) (name : List ℕ) (entries : Entries) → is_in name (paths entries) ≡ false
    → is_in name (paths (some_of test entries)) ≡ false
not_in_some test name [] apart = refl
not_in_some test name (entry ∷ entries) apart =
    by (test entry.0) (head (same_key name entry.0) (is_in name (paths entries)) apart)
    (not_in_some test name entries (tail (same_key name entry.0) (is_in name (paths entries)) apart))
  where
    head : (a b : Bool) → (a || b) ≡ false → a ≡ false
    head true b e = e
    head false b e = refl

    tail : (a b : Bool) → (a || b) ≡ false → b ≡ false
    tail true b e = cc
    tail false b e = e

    by : (b : Bool) → same_key name entry.0 ≡ false → is_in name (paths (some_of test entries)) ≡ false
        → is_in name (paths (cond b (entry ∷ some_of test entries) (some_of test entries))) ≡ false
    by true first rest = ap (λ a. a || is_in name (paths (some_of test entries))) first ∙ rest
    by false first rest = rest

some_are : (pages : TextMap Page) (test : List ℕ → Bool) (entries : Entries) → AreEntries pages entries
    → AreEntries pages (some_of test entries)
some_are pages test [] are = tt
some_are pages test (entry ∷ entries) are =
    by (test entry.0) are.0 (not_in_some test entry.0 entries are.1) (some_are pages test entries are.2)
  where
    by : (b : Bool) → map.get pages entry.0 ≡ Some entry.1 → is_in entry.0 (paths (some_of test entries)) ≡ false
        → AreEntries pages (some_of test entries)
        → AreEntries pages (cond b (entry ∷ some_of test entries) (some_of test entries))
    by true there apart rest = (there, apart, rest)
    by false there apart rest = rest

-- ---- the pages that two sites don't have alike

module _ (config site : Site) where
  abbrev other : List ℕ → Bool
  other path = not (same_at config site path)

  pub others_stand : (pages : TextMap Page) → AreEntries pages (other_pages config site pages)
  others_stand pages = some_are pages other (map.entries pages) (all_are pages)

  is_other : (pages : TextMap Page) (q : List ℕ)
      → is_in q (paths (other_pages config site pages)) ≡ is_some (cond (other q) (map.get pages q) None)
  is_other pages q =
      sym (is_some-find (slice_cmp nat_cmp) q (other_pages config site pages))
      ∙ ap is_some (find-where_key (slice_cmp nat_cmp) other q (λ x tied. ap other (sym (exact_bytes q x tied))) (map.entries pages)
      ∙ ap (λ page. cond (other q) page None) (sym (map.get-entries pages q)))

  -- ---- what is alike

  same_texts_are : (texts others : List (List ℕ)) → same_texts texts others ≡ true → texts ≡ others
  same_texts_are [] [] e = refl
  same_texts_are [] (text ∷ others) e = cc
  same_texts_are (text ∷ texts) [] e = cc
  same_texts_are (text ∷ texts) (first ∷ others) e =
      let same = same_from text first (sym (bytes_eq_is text first) ∙ and_first (bytes_eq text first) (same_texts texts others) e) in
      let rest = same_texts_are texts others (and_second (bytes_eq text first) (same_texts texts others) e) in
      λ i. same i ∷ rest i

  same_pages_are : (page other : Option Page) → same_pages page other ≡ true → page ≡ other
  same_pages_are None None e = refl
  same_pages_are None (Some other) e = cc
  same_pages_are (Some page) None e = cc
  same_pages_are (Some page) (Some other) e =
      let groups = same_texts_are page.groups other.groups (and_first (same_texts page.groups other.groups)
      (bytes_eq page.text other.text) e) in
      let text = same_from page.text other.text (sym (bytes_eq_is page.text other.text)
      ∙ and_second (same_texts page.groups other.groups) (bytes_eq page.text other.text) e) in
      λ i. Some (record { groups = groups i; text = text i })

  pages_alike : (path : List ℕ) → same_at config site path ≡ true → map.get config.pages path ≡ map.get site.pages path
  pages_alike path e = same_pages_are (map.get config.pages path) (map.get site.pages path)
      (and_first (same_pages (map.get config.pages path) (map.get site.pages path))
      (same_texts (aliases_of config.aliases path) (aliases_of site.aliases path)) e)

  aliases_alike : (path q : List ℕ) → same_at config site path ≡ true
      → is_goal path (map.get config.aliases q) ≡ is_goal path (map.get site.aliases q)
  aliases_alike path q e =
      let same = same_texts_are (aliases_of config.aliases path) (aliases_of site.aliases path)
      (and_second (same_pages (map.get config.pages path) (map.get site.pages path))
      (same_texts (aliases_of config.aliases path) (aliases_of site.aliases path)) e) in
      sym (alias_is_in config.aliases path q) ∙ (ap (is_in q) same ∙ alias_is_in site.aliases path q)

  -- ---- the pages that both have alike are left

  abbrev common : Site
  common = without site (other_pages config site site.pages)

  page_left : (pages : TextMap Page) (q : List ℕ)
      → cond (is_in q (paths (other_pages config site pages))) None (map.get pages q)
      ≡ cond (same_at config site q) (map.get pages q) None
  page_left pages q = ap (λ b. cond b None (map.get pages q)) (is_other pages q) ∙ by (same_at config site q) (map.get pages q)
    where
      by : (same : Bool) (page : Option Page) → cond (is_some (cond (not same) page None)) None page ≡ cond same page None
      by true page = refl
      by false None = refl
      by false (Some page) = refl

  page_common : (q : List ℕ) → cond (same_at config site q) (map.get config.pages q) None ≡ cond (same_at config site q)
      (map.get site.pages q) None
  page_common q = by (same_at config site q) refl
    where
      by : (b : Bool) → same_at config site q ≡ b → cond b (map.get config.pages q) None ≡ cond b (map.get site.pages q) None
      by true e = pages_alike q e
      by false e = refl

  -- an alias whose page both have alike
  abbrev alike : Option (List ℕ) → Option (List ℕ)
  alike None = None
  alike (Some goal) = cond (same_at config site goal) (Some goal) None

  alias_left : (pages : TextMap Page) (goal : Option (List ℕ)) → ((path : List ℕ) → goal ≡ Some path → map.contains_key pages path ≡ true)
      → outside (paths (other_pages config site pages)) goal ≡ alike goal
  alias_left pages None stands = refl
  alias_left pages (Some goal) stands =
      ap (λ b. cond b None (Some goal)) (is_other pages goal) ∙ by (same_at config site goal) (map.get pages goal) (stands goal refl)
    where
      by : (same : Bool) (page : Option Page) → is_some page ≡ true
          → cond (is_some (cond (not same) page None)) None (Some goal) ≡ cond same (Some goal) None
      by true page e = refl
      by false None e = cc
      by false (Some page) e = refl

  alias_common : (here there : Option (List ℕ)) → ((path : List ℕ) → same_at config site path ≡ true
      → is_goal path here ≡ is_goal path there)
      → alike here ≡ alike there
  alias_common None None same = refl
  alias_common None (Some goal) same = by (same_at config site goal) refl
    where
      by : (b : Bool) → same_at config site goal ≡ b → None ≡ cond b (Some goal) None
      by true e = absurd (clash (bytes_eq goal goal) (bytes_eq_is goal goal ∙ same_itself goal) (sym (same goal e)))
      by false e = refl
  alias_common (Some goal) there same = by (same_at config site goal) refl
    where
      only : (b : Bool) (old : List ℕ) → same_at config site old ≡ b → same_at config site goal ≡ false
          → (same_at config site old ≡ true → is_goal old (Some goal) ≡ is_goal old (Some old))
          → None ≡ cond b (Some old) None
      only true old e none same = absurd (clash (same_at config site old) e (ap (same_at config site)
          (sym (same_from goal old (sym (bytes_eq_is goal old) ∙ (same e ∙ (bytes_eq_is old old ∙ same_itself old))))) ∙ none))
      only false old e none same = refl

      nothing : (there : Option (List ℕ)) → same_at config site goal ≡ false
          → ((path : List ℕ) → same_at config site path ≡ true → is_goal path (Some goal) ≡ is_goal path there) → None ≡ alike there
      nothing None none same = refl
      nothing (Some old) none same = only (same_at config site old) old refl none (same old)

      by : (b : Bool) → same_at config site goal ≡ b → cond b (Some goal) None ≡ alike there
      by true e = sym (ap alike (leads goal there (sym (same goal e) ∙ (bytes_eq_is goal goal ∙ same_itself goal)))
          ∙ ap (λ b. cond b (Some goal) None) e)
      by false e = nothing there e same

  pub left_is : IsSite config → IsSite site → effects config (removals (other_pages config site config.pages)) ≡ common
  left_is is_config is_site =
      let first = other_pages config site config.pages in
      let second = other_pages config site site.pages in
      site_is (effects config (removals first)) common
      (λ q. page_removed config first q ∙ (page_left config.pages q
      ∙ (page_common q ∙ sym (page_without site second q ∙ page_left site.pages q))))
      (λ q. alias_removed config first q ∙ (alias_left config.pages (map.get config.aliases q) (is_config.lead q)
      ∙ (alias_common (map.get config.aliases q) (map.get site.aliases q) (λ path. aliases_alike path q)
      ∙ sym (alias_without site second q ∙ alias_left site.pages (map.get site.aliases q) (is_site.lead q)))))

-- ---- the others are made

pub goal_outside : (path : List ℕ) (some : List (List ℕ)) (goal : Option (List ℕ)) → is_in path some ≡ false
    → is_goal path goal ≡ is_goal path (outside some goal)
goal_outside path some None apart = refl
goal_outside path some (Some goal) apart = by (is_in goal some) refl
  where
    other : (b : Bool) → bytes_eq goal path ≡ b → is_in goal some ≡ true → b ≡ false
    other true e there = absurd (clash (is_in goal some) there
        (ap (λ g. is_in g some) (same_from goal path (sym (bytes_eq_is goal path) ∙ e)) ∙ apart))
    other false e there = refl

    by : (b : Bool) → is_in goal some ≡ b → bytes_eq goal path ≡ is_goal path (cond b None (Some goal))
    by true e = other (bytes_eq goal path) refl e
    by false e = refl

module _ (site : Site) (is : IsSite site) where
  pub one_made : (entry : List ℕ × Page) (entries : Entries) → AreEntries site.pages (entry ∷ entries)
      → effects (without site (entry ∷ entries)) (made site entry) ≡ without site entries
  one_made entry entries are = page_made (without site entries) (site_without site entries is) entry.0 entry.1
      (page_without site entries entry.0 ∙ (ap (λ b. cond b None (map.get site.pages entry.0)) are.1 ∙ are.0))
      (aliases_of site.aliases entry.0)
      (λ q. alias_is_in site.aliases entry.0 q ∙ (goal_outside entry.0 (paths entries) (map.get site.aliases q) are.1
      ∙ sym (ap (is_goal entry.0) (alias_without site entries q))))
      (aliases_once site.aliases entry.0)

  pub all_made : (entries : Entries) → AreEntries site.pages entries → effects (without site entries) (flat_map (made site) entries) ≡ site
  all_made [] are = refl
  all_made (entry ∷ entries) are =
      effects_joined (without site (entry ∷ entries)) (made site entry) (flat_map (made site) entries)
      ∙ (ap (λ s. effects s (flat_map (made site) entries)) (one_made entry entries are) ∙ all_made entries are.2)

pub gives_the_site : GivesTheSite
unfolding compacted
gives_the_site config site is_config is_site =
    let first = other_pages config site config.pages in
    let second = other_pages config site site.pages in
    effects_joined config (removals first) (flat_map (made site) second)
    ∙ (ap (λ s. effects s (flat_map (made site) second)) (left_is config site is_config is_site)
    ∙ all_made site is_site second (others_stand config site site.pages))
