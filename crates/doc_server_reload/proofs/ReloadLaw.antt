-- A reload is a restart: what records restore is a site, to which a store is led.
use Rattle.std.proofs.Common.{◌≡◌, ℕ, ◌+◌, List, [], ◌∷◌, refl, ap, subst}
use Rattle.std.specs.Prelude.{Option, Some, None, Result, Ok, Err}
use Rattle.std.specs.Option.{ok_or}
use Rattle.doc_store_readers.specs.Sites.{IsSite}
use Rattle.doc_store.specs.Store.{StoreState}
use Rattle.doc_store.specs.declared.site_edit.SiteEdit.{SiteEdit}
use Rattle.doc_media.specs.Media.{Media}
use Rattle.doc_server_restore.specs.declared.fault.RestoreFault.{RestoreFault}
use Rattle.doc_server_restore.specs.declared.fault.RestoreFault.TheVariants as faults
use Rattle.doc_server_restore.specs.Restores.{after_record, all_made, edits_of, refused_from, restored_from, unstamped}
use Rattle.doc_server_reload.specs.Laws.{AReloadIsARestartBeside, ReloadIsARestart}
use Rattle.doc_server_reload.proofs.KeptSites.{all_kept}
use Rattle.doc_server_reload.proofs.MadeLaw.{led_is_made, led_is_made_beside}

pub err_not_ok : {X E : Type 0} (e : E) (x : X) → ◌≡◌ {A = Result X E} (Err e) (Ok x) → ⊥
err_not_ok e x is = cc

pub ok_is : {X E : Type 0} (x y : X) → ◌≡◌ {A = Result X E} (Ok x) (Ok y) → x ≡ y
ok_is x y is = cc

-- ---- a site after records is a site

module _ (media : Media) where
  record_kept : (store next : StoreState) (n : ℕ) (found : Option (List SiteEdit)) → IsSite store.site
      → after_record media store n found ≡ Ok next → IsSite next.site
  record_kept store next n None is done = absurd (err_not_ok (faults.BadRecord n) next done)
  record_kept store next n (Some edits) is done =
      by (all_made media store edits) (λ made_is. (all_kept media edits store next is made_is).0) done
    where
      by : (found : Option StoreState) → (found ≡ Some next → IsSite next.site)
          → ok_or found (faults.Refused n (refused_from media 1 store edits)) ≡ Ok next → IsSite next.site
      by None kept done = absurd (err_not_ok (faults.Refused n (refused_from media 1 store edits)) next done)
      by (Some after) kept done = kept (ap Some (ok_is after next done))

  records_kept : (records : List (List ℕ)) (n : ℕ) (store next : StoreState) → IsSite store.site
      → restored_from media n store records ≡ Ok next → IsSite next.site
  records_kept [] n store next is done = subst (λ s. IsSite s.site) (ok_is store next done) is
  records_kept (text ∷ records) n store next is done =
      by (after_record media store n (edits_of text)) (λ mid one.
      records_kept records (n + 1) mid next (record_kept store mid n (edits_of text) is one))
      refl done
    where
      by : (found : Result StoreState RestoreFault)
          → ((mid : StoreState) → after_record media store n (edits_of text) ≡ Ok mid → restored_from media (n + 1) mid records ≡ Ok next
          → IsSite next.site)
          → after_record media store n (edits_of text) ≡ found
          → ◌≡◌ {A = Result StoreState RestoreFault} (elim found [
            | Err fault ↦ Err fault
            | Ok mid ↦ restored_from media (n + 1) mid records
          ]) (Ok next) → IsSite next.site
      by (Err fault) each one more = absurd (err_not_ok fault next more)
      by (Ok mid) each one more = each mid one more

pub a_reload_is_a_restart_beside : AReloadIsARestartBeside
a_reload_is_a_restart_beside media old config again records is_old is_config restored apart room =
    led_is_made_beside media old again.site is_old (records_kept media records 1 (unstamped config) again is_config restored) apart room

pub reload_is_a_restart : ReloadIsARestart
reload_is_a_restart old config again records is_old is_config restored room =
    led_is_made old again.site is_old (records_kept None records 1 (unstamped config) again is_config restored) room
