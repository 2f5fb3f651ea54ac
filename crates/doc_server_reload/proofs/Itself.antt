-- No edit leads a site to itself.
use Rattle.std.proofs.Common.{◌≡◌, ℕ, List, [], ◌∷◌, ◌++◌, Bool, true, false, cond, not, ◌&&◌, bytes_eq, is_some, refl, ap, sym, ◌∙◌}
use Rattle.std.specs.Prelude.{map as mapped, Option, Some, None}
use Rattle.std.specs.FinMap as map
use Rattle.std.specs.List.{filter, flat_map}
use Rattle.doc_page_parts.proofs.Bools.{clash}
use Rattle.doc_store_readers.proofs.KeySteps.{same_itself, bytes_eq_is}
use Rattle.doc_store_readers.specs.Maps.{TextMap}
use Rattle.doc_store.specs.Names.{aliases_of}
use Rattle.doc_store_readers.specs.Pages.{Page}
use Rattle.doc_store_readers.specs.Sites.{Site}
use Rattle.doc_store.specs.Store.{remove_page}
use Rattle.doc_store.specs.declared.site_edit.SiteEdit.{SiteEdit}
use Rattle.doc_server_script.specs.Compactions.{same_at, same_pages, same_texts}
use Rattle.doc_server_script.proofs.MadeSteps.{first_is_in, is_in}
use Rattle.doc_server_script.proofs.Without.{Entries, paths}
use Rattle.doc_server_reload.specs.Laws.{NothingLeadsToItself}
use Rattle.doc_server_reload.specs.Leads.{led, led_page, stands_so}
use Rattle.doc_server_reload.proofs.LeadLaw.{among}

texts_itself : (texts : List (List ℕ)) → same_texts texts texts ≡ true
texts_itself [] = refl
texts_itself (text ∷ texts) =
    ap (λ b. b && same_texts texts texts) (bytes_eq_is text text ∙ same_itself text) ∙ texts_itself texts

page_itself : (page : Option Page) → same_pages page page ≡ true
page_itself None = refl
page_itself (Some page) =
    ap (λ b. b && bytes_eq page.text page.text) (texts_itself page.groups) ∙ (bytes_eq_is page.text page.text ∙ same_itself page.text)

-- where a test passes at no path of a map, no entry passes it
none_passes : (test : List ℕ → Bool) (pages : TextMap Page) → ((path : List ℕ) → map.contains_key pages path ≡ true → test path ≡ false)
    → filter (λ entry. test entry.0) (map.entries pages) ≡ []
none_passes test pages none = by (filter (λ entry. test entry.0) (map.entries pages)) (among test pages)
  where
    at : (path : List ℕ) (b : Bool) (page : Option Page) → map.get pages path ≡ page → test path ≡ b
        → true ≡ is_some (cond b page None) → ⊥
    at path true None found passes e = clash false (sym e) refl
    at path true (Some page) found passes e = clash (test path) passes (none path (ap is_some found))
    at path false page found passes e = clash false (sym e) refl

    by : (entries : Entries) → ((path : List ℕ) → is_in path (paths entries) ≡ is_some (cond (test path) (map.get pages path) None))
        → entries ≡ []
    by [] are = refl
    by (entry ∷ entries) are =
        absurd (at entry.0 (test entry.0) (map.get pages entry.0) refl refl (sym (first_is_in entry.0 (paths entries)) ∙ are entry.0))

module _ (site : Site) where
  names_itself : (path : List ℕ) → same_texts (aliases_of site.aliases path) (aliases_of site.aliases path) ≡ true
  names_itself path = texts_itself (aliases_of site.aliases path)

  none_gone : (path : List ℕ) → map.contains_key site.pages path ≡ true → not (stands_so site site path) ≡ false
  none_gone path stands =
      ap (λ b. not ((b && b) && same_texts (aliases_of site.aliases path) (aliases_of site.aliases path))) stands
      ∙ ap not (names_itself path)

  none_other : (path : List ℕ) → map.contains_key site.pages path ≡ true → not (same_at site site path) ≡ false
  none_other path stands =
      ap (λ b. not (b && same_texts (aliases_of site.aliases path) (aliases_of site.aliases path))) (page_itself (map.get site.pages path))
      ∙ ap not (names_itself path)

-- the edits of these pages
abbrev edits_for : Site → Entries → Entries → List SiteEdit
edits_for site gone others = mapped (λ entry. remove_page entry.0) gone ++ flat_map (led_page site site) others

pub nothing_leads_to_itself : NothingLeadsToItself
unfolding led
nothing_leads_to_itself site =
    ap (λ gone. edits_for site gone (filter (λ entry. not (same_at site site entry.0)) (map.entries site.pages)))
    (none_passes (λ path. not (stands_so site site path)) site.pages (none_gone site))
    ∙ ap (edits_for site []) (none_passes (λ path. not (same_at site site path)) site.pages (none_other site))
