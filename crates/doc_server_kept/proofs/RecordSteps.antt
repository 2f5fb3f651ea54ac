-- Records that are restored, and one more behind them.
use Rattle.std.proofs.Common.{◌≡◌, ℕ, ◌+◌, List, [], ◌∷◌, ◌++◌, refl, ap, sym, ◌∙◌}
use Rattle.std.specs.Prelude.{Some, Result, Ok, Err}
use Rattle.doc_media.specs.Media.{Media}
use Rattle.doc_store.specs.Store.{StoreState}
use Rattle.doc_store.specs.declared.site_edit.SiteEdit.{SiteEdit}
use Rattle.doc_server_restore.specs.declared.fault.RestoreFault.{RestoreFault}
use Rattle.doc_server_restore.specs.Restores.{after_record, all_made, edits_of, restored_from}
use Rattle.doc_server_restore.proofs.RecordSteps.{as_onto, onto, record_restored}

err_ok : {X E : Type 0} (e : E) (x : X) → ◌≡◌ {A = Result X E} (Err e) (Ok x) → ⊥
err_ok e x is = cc

ok_is : {X E : Type 0} (x y : X) → ◌≡◌ {A = Result X E} (Ok x) (Ok y) → x ≡ y
ok_is x y is = cc

module _ (media : Media) where
  pub one_record_more : (text : List ℕ) (edits : List SiteEdit) → edits_of text ≡ Some edits
      → (texts : List (List ℕ)) (n : ℕ) (store mid last : StoreState) → restored_from media n store texts ≡ Ok mid → all_made media mid edits ≡ Some last
      → restored_from media n store (texts ++ text ∷ []) ≡ Ok last
  one_record_more text edits said [] n store mid last is made =
      as_onto media n store text [] (Ok last)
      (record_restored media store last n text edits said (ap (λ s. all_made media s edits) (ok_is {E = RestoreFault} store mid is) ∙ made))
  one_record_more text edits said (first ∷ texts) n store mid last is made =
      by (after_record media store n (edits_of first)) refl (λ next rest. one_record_more text edits said texts (n + 1) next mid last rest made)
      (sym (as_onto media n store first texts (after_record media store n (edits_of first)) refl) ∙ is)
    where
      by : (answer : Result StoreState RestoreFault) → after_record media store n (edits_of first) ≡ answer
          → ((next : StoreState) → restored_from media (n + 1) next texts ≡ Ok mid → restored_from media (n + 1) next (texts ++ text ∷ []) ≡ Ok last)
          → onto media n texts answer ≡ Ok mid → restored_from media n store (first ∷ (texts ++ text ∷ [])) ≡ Ok last
      by (Err fault) one each rest = absurd (err_ok fault mid rest)
      by (Ok next) one each rest = as_onto media n store first (texts ++ text ∷ []) (Ok next) one ∙ each next rest
