-- A site without some of its pages and their aliases, and how it is made whole.
use Rattle.std.proofs.Common.{◌≡◌, ℕ, List, [], ◌∷◌, Bool, true, false, cond, not, ◌||◌, is_some, refl, ap, sym, ◌∙◌}
use Rattle.std.specs.Prelude.{⊤, map as mapped, Option, Some, None}
use Rattle.std.specs.FinMap as map
use Rattle.doc_store_readers.proofs.KeySteps.{same_key, bytes_eq_is, not_none, some_is, get_taken}
use Rattle.doc_store.proofs.StoreSteps.{get-without_goal}
use Rattle.doc_store_readers.specs.Maps.{TextMap}
use Rattle.doc_store_readers.specs.Pages.{Page}
use Rattle.doc_store_readers.specs.Sites.{Site, IsSite}
use Rattle.doc_store.specs.Store.{remove_page, effect_of, is_goal}
use Rattle.doc_store.specs.declared.site_edit.SiteEdit.{SiteEdit}
use Rattle.doc_server_script.specs.Compactions.{effects}
use Rattle.doc_server_script.proofs.MadeSteps.{is_in}

abbrev pub Entries : Type 0
Entries = List (List ℕ × Page)

abbrev pub paths : Entries → List (List ℕ)
paths entries = mapped (λ entry. entry.0) entries

abbrev pub removals : Entries → List SiteEdit
removals entries = mapped (λ entry. remove_page entry.0) entries

-- a site without these pages
abbrev pub without : Site → Entries → Site
without site [] = site
without site (entry ∷ entries) = effect_of (without site entries) (remove_page entry.0)

-- where an alias leads, unless it is one of these paths
abbrev pub outside : List (List ℕ) → Option (List ℕ) → Option (List ℕ)
outside paths None = None
outside paths (Some goal) = cond (is_in goal paths) None (Some goal)

-- ---- what stands there

twice_taken : {X : Type 0} (a b : Bool) (o : Option X) → cond a None (cond b None o) ≡ cond (a || b) None o
twice_taken true b o = refl
twice_taken false b o = refl

taken_twice : {X : Type 0} (a b : Bool) (o : Option X) → cond b None (cond a None o) ≡ cond (a || b) None o
taken_twice true true o = refl
taken_twice true false o = refl
taken_twice false b o = refl

pub page_without : (site : Site) (entries : Entries) (q : List ℕ)
    → map.get (without site entries).pages q ≡ cond (is_in q (paths entries)) None (map.get site.pages q)
page_without site [] q = refl
page_without site (entry ∷ entries) q =
    get_taken (without site entries).pages entry.0 q
    ∙ (ap (cond (same_key q entry.0) None) (page_without site entries q)
    ∙ twice_taken (same_key q entry.0) (is_in q (paths entries)) (map.get site.pages q))

-- an alias that is kept where those of a path are taken
abbrev kept : List ℕ → Option (List ℕ) → Option (List ℕ)
kept path goal = cond (not (is_goal path goal)) goal None

kept_goal : (path goal : List ℕ) → kept path (Some goal) ≡ cond (same_key goal path) None (Some goal)
kept_goal path goal = ap (λ b. cond (not b) (Some goal) None) (bytes_eq_is goal path) ∙ turned (same_key goal path)
  where
    turned : (b : Bool) → cond (not b) (Some goal) None ≡ cond b None (Some goal)
    turned true = refl
    turned false = refl

kept_outside : (path : List ℕ) (some : List (List ℕ)) (goal : Option (List ℕ))
    → kept path (outside some goal) ≡ outside (path ∷ some) goal
kept_outside path some None = refl
kept_outside path some (Some goal) = by (is_in goal some)
  where
    gone : (a : Bool) → None ≡ cond (a || true) None (Some goal)
    gone true = refl
    gone false = refl

    stays : (a : Bool) → cond a None (Some goal) ≡ cond (a || false) None (Some goal)
    stays true = refl
    stays false = refl

    by : (b : Bool) → kept path (cond b None (Some goal)) ≡ cond (same_key goal path || b) None (Some goal)
    by true = gone (same_key goal path)
    by false = kept_goal path goal ∙ stays (same_key goal path)

outside_kept : (path : List ℕ) (some : List (List ℕ)) (goal : Option (List ℕ))
    → outside some (kept path goal) ≡ outside (path ∷ some) goal
outside_kept path some None = refl
outside_kept path some (Some goal) = ap (outside some) (kept_goal path goal) ∙ by (same_key goal path)
  where
    by : (a : Bool) → outside some (cond a None (Some goal)) ≡ cond (a || is_in goal some) None (Some goal)
    by true = refl
    by false = refl

pub alias_without : (site : Site) (entries : Entries) (q : List ℕ)
    → map.get (without site entries).aliases q ≡ outside (paths entries) (map.get site.aliases q)
alias_without site [] q = whole (map.get site.aliases q)
  where
    whole : (goal : Option (List ℕ)) → goal ≡ outside [] goal
    whole None = refl
    whole (Some goal) = refl
alias_without site (entry ∷ entries) q =
    get-without_goal (without site entries).aliases entry.0 q
    ∙ (ap (kept entry.0) (alias_without site entries q) ∙ kept_outside entry.0 (paths entries) (map.get site.aliases q))

-- the same where the pages are removed one after the other
pub page_removed : (site : Site) (entries : Entries) (q : List ℕ)
    → map.get (effects site (removals entries)).pages q ≡ cond (is_in q (paths entries)) None (map.get site.pages q)
page_removed site [] q = refl
page_removed site (entry ∷ entries) q =
    page_removed (effect_of site (remove_page entry.0)) entries q
    ∙ (ap (cond (is_in q (paths entries)) None) (get_taken site.pages entry.0 q)
    ∙ taken_twice (same_key q entry.0) (is_in q (paths entries)) (map.get site.pages q))

pub alias_removed : (site : Site) (entries : Entries) (q : List ℕ)
    → map.get (effects site (removals entries)).aliases q ≡ outside (paths entries) (map.get site.aliases q)
alias_removed site [] q = whole (map.get site.aliases q)
  where
    whole : (goal : Option (List ℕ)) → goal ≡ outside [] goal
    whole None = refl
    whole (Some goal) = refl
alias_removed site (entry ∷ entries) q =
    alias_removed (effect_of site (remove_page entry.0)) entries q
    ∙ (ap (outside (paths entries)) (get-without_goal site.aliases entry.0 q)
    ∙ outside_kept entry.0 (paths entries) (map.get site.aliases q))

-- ---- a site without some pages is a site

found_outside : (some : List (List ℕ)) (found : Option (List ℕ)) (goal : List ℕ) → outside some found ≡ Some goal
    → (found ≡ Some goal) × (is_in goal some ≡ false)
found_outside some None goal e = absurd (not_none goal e)
found_outside some (Some old) goal e = by (is_in old some) refl e
  where
    by : (b : Bool) → is_in old some ≡ b → cond b None (Some old) ≡ Some goal
        → ◌≡◌ {A = Option (List ℕ)} (Some old) (Some goal) × (is_in goal some ≡ false)
    by true there e = absurd (not_none goal e)
    by false there e = (e, ap (λ g. is_in g some) (sym (some_is old goal e)) ∙ there)

pub site_without : (site : Site) (entries : Entries) → IsSite site → IsSite (without site entries)
site_without site entries is = record {
  apart = λ alias goal e.
      let old = found_outside (paths entries) (map.get site.aliases alias) goal (sym (alias_without site entries alias) ∙ e) in
      ap is_some (page_without site entries alias)
      ∙ none_left (is_in alias (paths entries)) (map.get site.pages alias) (is.apart alias goal old.0);
  lead = λ alias goal e.
      let old = found_outside (paths entries) (map.get site.aliases alias) goal (sym (alias_without site entries alias) ∙ e) in
      ap is_some (page_without site entries goal)
      ∙ (ap (λ b. is_some (cond b None (map.get site.pages goal))) old.1 ∙ is.lead alias goal old.0);
}
  where
    none_left : (b : Bool) (page : Option Page) → is_some page ≡ false → is_some (cond b None page) ≡ false
    none_left true page e = refl
    none_left false page e = e

-- ---- entries of a map

-- each entry is what stands under its path, and no path stands twice
abbrev pub AreEntries : TextMap Page → Entries → Type 0
AreEntries pages [] = ⊤
AreEntries pages (entry ∷ entries) =
    (map.get pages entry.0 ≡ Some entry.1) × (is_in entry.0 (paths entries) ≡ false) × AreEntries pages entries
