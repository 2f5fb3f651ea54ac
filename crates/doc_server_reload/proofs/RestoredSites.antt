-- What records restore over a site as calls make it is such a site.
use Rattle.std.proofs.Common.{◌≡◌, ℕ, ◌+◌, List, [], ◌∷◌, refl, sym, ◌∙◌, subst}
use Rattle.std.specs.Prelude.{Option, Some, None, IfSome, Result, Ok, Err}
use Rattle.std.specs.Option.{ok_or}
use Rattle.doc_page_parts.proofs.Results.{err_not_ok, ok_injective}
use Rattle.doc_store.specs.Store.{StoreState}
use Rattle.doc_store.specs.declared.site_edit.SiteEdit.{SiteEdit}
use Rattle.doc_media.specs.Media.{Media}
use Rattle.doc_server_restore.specs.Laws.{AreEdits}
use Rattle.doc_server_restore.specs.declared.fault.RestoreFault.{RestoreFault}
use Rattle.doc_server_restore.specs.declared.fault.RestoreFault.TheVariants as faults
use Rattle.doc_server_restore.specs.Restores.{after_record, all_made, edits_of, refused_from, restored_from, unstamped}
use Rattle.doc_server_restore.proofs.RecordSteps.{as_onto, onto}
use Rattle.doc_server_kept.specs.KeptTurns.{IsOfCalls}
use Rattle.doc_server_reload.specs.RestoredLaws.{RestoredSitesAreOfCalls}
use Rattle.doc_server_reload.proofs.CallLaw.{made_kept}
use Rattle.doc_server_reload.proofs.ReadLaw.{record_read}

module _ (media : Media) where
  record_kept : (store next : StoreState) (n : ℕ) (found : Option (List SiteEdit)) → IfSome found AreEdits → IsOfCalls store.site
      → after_record media store n found ≡ Ok next → IsOfCalls next.site
  record_kept store next n None are is done = absurd (err_not_ok (faults.BadRecord n) next done)
  record_kept store next n (Some edits) are is done = by (all_made media store edits) refl done
    where
      by : (found : Option StoreState) → all_made media store edits ≡ found
          → ok_or found (faults.Refused n (refused_from media 1 store edits)) ≡ Ok next → IsOfCalls next.site
      by None made more = absurd (err_not_ok (faults.Refused n (refused_from media 1 store edits)) next more)
      by (Some after) made more =
          subst (λ (s : StoreState). IsOfCalls s.site) (ok_injective {E = RestoreFault} after next more)
          (made_kept media store after edits is are made)

  all_records_kept : (texts : List (List ℕ)) (n : ℕ) (store next : StoreState) → IsOfCalls store.site
      → restored_from media n store texts ≡ Ok next → IsOfCalls next.site
  all_records_kept [] n store next is done =
      subst (λ (s : StoreState). IsOfCalls s.site) (ok_injective {E = RestoreFault} store next done) is
  all_records_kept (text ∷ texts) n store next is done =
      by (after_record media store n (edits_of text)) refl (λ mid of_calls more. all_records_kept texts (n + 1) mid next of_calls more)
      (sym (as_onto media n store text texts (after_record media store n (edits_of text)) refl) ∙ done)
    where
      by : (found : Result StoreState RestoreFault) → after_record media store n (edits_of text) ≡ found
          → ((mid : StoreState) → IsOfCalls mid.site → restored_from media (n + 1) mid texts ≡ Ok next → IsOfCalls next.site)
          → onto media n texts found ≡ Ok next → IsOfCalls next.site
      by (Err fault) one each more = absurd (err_not_ok fault next more)
      by (Ok mid) one each more = each mid (record_kept store mid n (edits_of text) (record_read text) is one) more

pub restored_sites_are_of_calls : RestoredSitesAreOfCalls
restored_sites_are_of_calls media config again texts is done = all_records_kept media texts 1 (unstamped config) again is done
