-- Sites stay as calls make them.
use Rattle.std.proofs.Common.{◌≡◌, ⊎_elim, ℕ, ◌+◌, List, [], ◌∷◌, ◌++◌, refl, sym, subst}
use Rattle.std.specs.Prelude.{Option, Some, None, Result, Ok, Err}
use Rattle.std.specs.FinMap as map
use Rattle.std.specs.Option.{ok_or}
use Rattle.doc_store_readers.proofs.KeySteps.{not_none, set_or_stood, some_is, stood}
use Rattle.doc_store_readers.specs.Groups.{IsGroups}
use Rattle.doc_store_readers.specs.Maps.{TextMap}
use Rattle.doc_store_readers.specs.Pages.{Page}
use Rattle.doc_store_readers.specs.Sites.{Site}
use Rattle.doc_store.specs.Store.{StoreState, effect_of, with_key_at}
use Rattle.doc_store.specs.declared.site_edit.SiteEdit.{SiteEdit}
use Rattle.doc_store.specs.declared.site_edit.SiteEdit.TheVariants as site_edits
use Rattle.doc_media.specs.Media.{Media}
use Rattle.doc_server_script.specs.Compactions.{effects}
use Rattle.doc_server_script.specs.Laws.{IsText}
use Rattle.doc_server_restore.specs.Laws.{AreEdits, IsEdit}
use Rattle.doc_server_restore.specs.declared.fault.RestoreFault.{RestoreFault}
use Rattle.doc_server_restore.specs.declared.fault.RestoreFault.TheVariants as faults
use Rattle.doc_server_restore.specs.Restores.{after_record, all_in_front, all_made, edits_of, edits_of_all, refused_from, restored_from, unstamped}
use Rattle.doc_server_kept.specs.KeptTurns.{IsOfCalls}
use Rattle.doc_server_reload.specs.CallLaws.{ReloadsStayOfCalls}
use Rattle.doc_server_reload.proofs.KeptSites.{all_kept, what_is_made_gives_the_site}
use Rattle.doc_server_reload.proofs.ReloadLaw.{err_not_ok, ok_is}

-- ---- pages behind an edit

abbrev IsPage : Page → Type 0
IsPage page = IsGroups page.groups × IsText page.text

abbrev ArePages : TextMap Page → Type 0
ArePages pages = (path : List ℕ) (page : Page) → map.get pages path ≡ Some page → IsPage page

pages_set : (pages : TextMap Page) (path : List ℕ) (page : Page) → IsPage page → ArePages pages → ArePages (map.insert pages path page)
pages_set pages path page is are =
    λ q p e. ⊎_elim (λ new. subst IsPage new.1 is) (λ old. are q p old.1) (set_or_stood pages path page q p e)

pages_left : (pages : TextMap Page) (path : List ℕ) → ArePages pages → ArePages (map.remove pages path)
pages_left pages path are = λ q p e. are q p (stood pages path q p e).1

pages_moved : (pages : TextMap Page) (from to : List ℕ) (found : Option Page) → map.get pages from ≡ found → ArePages pages
    → ArePages (with_key_at pages from to found)
pages_moved pages from to None is are = are
pages_moved pages from to (Some page) is are =
    pages_set (map.remove pages from) to page (are from page is) (pages_left pages from are)

effect_kept : (site : Site) (edit : SiteEdit) → IsEdit edit → ArePages site.pages → ArePages (effect_of site edit).pages
effect_kept site (site_edits.Put path groups text) is are =
    pages_set site.pages path (record { groups = groups; text = text }) (is.1, is.2) are
effect_kept site (site_edits.Remove path) is are = pages_left site.pages path are
effect_kept site (site_edits.Move from to) is are = pages_moved site.pages from to (map.get site.pages from) refl are

effects_kept : (site : Site) (edits : List SiteEdit) → AreEdits edits → ArePages site.pages → ArePages (effects site edits).pages
effects_kept site [] are pages = pages
effects_kept site (edit ∷ edits) are pages = effects_kept (effect_of site edit) edits are.1 (effect_kept site edit are.0 pages)

-- ---- sites behind edits and records

edits_apart : (edits more : List SiteEdit) → AreEdits (edits ++ more) → AreEdits edits × AreEdits more
edits_apart [] more are = (tt, are)
edits_apart (edit ∷ edits) more are = let rest = edits_apart edits more are.1 in ((are.0, rest.0), rest.1)

module _ (media : Media) where
  pub made_kept : (store after : StoreState) (edits : List SiteEdit) → IsOfCalls store.site → AreEdits edits
      → all_made media store edits ≡ Some after → IsOfCalls after.site
  made_kept store after edits is are done =
      let kept = all_kept media edits store after is.is_site done in
      record {
        is_site = kept.0;
        pages = subst (λ (site : Site). ArePages site.pages) (sym kept.1) (effects_kept store.site edits are is.pages);
      }

  module _ (records : List (List ℕ)) (n : ℕ) (store next : StoreState) (edits : List SiteEdit) where
    -- behind the edits of a record, where they are made, the others leave the site as calls make it
    abbrev Behind : Type 0
    Behind = (these more : List SiteEdit) → edits_of_all records ≡ Some more → these ++ more ≡ edits → (mid : StoreState)
        → all_made media store these ≡ Some mid → restored_from media (n + 1) mid records ≡ Ok next → IsOfCalls next.site

    abbrev Done : Result StoreState RestoreFault → Type 0
    Done found = ◌≡◌ {A = Result StoreState RestoreFault} (elim found [
      | Err fault ↦ Err fault
      | Ok mid ↦ restored_from media (n + 1) mid records
    ]) (Ok next)

    of_record : (these more : List SiteEdit) → Behind → edits_of_all records ≡ Some more → these ++ more ≡ edits
        → (mid : Option StoreState) → all_made media store these ≡ mid
        → Done (ok_or mid (faults.Refused n (refused_from media 1 store these))) → IsOfCalls next.site
    of_record these more each rest joined None made done =
        absurd (err_not_ok (faults.Refused n (refused_from media 1 store these)) next done)
    of_record these more each rest joined (Some mid) made done = each these more rest joined mid made done

    of_records : (found rest : Option (List SiteEdit)) → Behind → edits_of_all records ≡ rest → all_in_front found rest ≡ Some edits
        → Done (after_record media store n found) → IsOfCalls next.site
    of_records None rest each is said done = absurd (err_not_ok (faults.BadRecord n) next done)
    of_records (Some these) None each is said done = absurd (not_none edits said)
    of_records (Some these) (Some more) each is said done =
        of_record these more each is (some_is (these ++ more) edits said) (all_made media store these) refl done

  records_kept : (records : List (List ℕ)) (n : ℕ) (store next : StoreState) (edits : List SiteEdit) → IsOfCalls store.site
      → edits_of_all records ≡ Some edits → AreEdits edits → restored_from media n store records ≡ Ok next → IsOfCalls next.site
  records_kept [] n store next edits is said are done = subst (λ s. IsOfCalls s.site) (ok_is store next done) is
  records_kept (text ∷ records) n store next edits is said are done =
      of_records records n store next edits (edits_of text) (edits_of_all records) (λ these more rest joined mid made left.
      let both = edits_apart these more (subst AreEdits (sym joined) are) in
      records_kept records (n + 1) mid next more (made_kept store mid these is both.0 made) rest both.1 left) refl said done

pub reloads_stay_of_calls : ReloadsStayOfCalls
reloads_stay_of_calls = record {
  made = made_kept;
  restored = λ media config again records edits is said are done.
      records_kept media records 1 (unstamped config) again edits is said are done;
  reloaded = λ media old again after is_old is done.
      subst IsOfCalls (sym (what_is_made_gives_the_site media (unstamped old) after again.site is_old is.is_site done)) is;
}
