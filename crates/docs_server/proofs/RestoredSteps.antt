-- Records that are restored, and more of them behind these.
use Rattle.std.proofs.Common.{◌≡◌, ℕ, ◌+◌, List, [], ◌∷◌, ◌++◌, refl, ap, sym, ◌∙◌}
use Rattle.std.specs.Prelude.{Option, Some, None, Result, Ok, Err}
use Rattle.std.specs.Option.{ok_or}
use Rattle.doc_media.specs.Media.{Media}
use Rattle.doc_store.specs.Store.{StoreState}
use Rattle.doc_store.specs.declared.site_edit.SiteEdit.{SiteEdit}
use Rattle.doc_server_restore.specs.declared.fault.RestoreFault.{RestoreFault}
use Rattle.doc_server_restore.specs.declared.fault.RestoreFault.TheVariants as faults
use Rattle.doc_server_restore.specs.Restores.{after_record, all_made, edits_of, refused_from, restored_from}
use Rattle.doc_server_restore.proofs.RecordSteps.{as_onto, onto}

err_ok : {X E : Type 0} (e : E) (x : X) → ◌≡◌ {A = Result X E} (Err e) (Ok x) → ⊥
err_ok e x is = cc

ok_is : {X E : Type 0} (x y : X) → ◌≡◌ {A = Result X E} (Ok x) (Ok y) → x ≡ y
ok_is x y is = cc

-- what is made doesn't go by the fault that stands for what isn't
ok_or_any : (found : Option StoreState) (one other : RestoreFault) (store : StoreState) → ok_or found one ≡ Ok store
    → ok_or found other ≡ Ok store
ok_or_any None one other store is = absurd (err_ok one store is)
ok_or_any (Some made) one other store is = is

module _ (media : Media) where
  -- a record is made whatever its number
  whatever_number : (edits : Option (List SiteEdit)) (n m : ℕ) (store next : StoreState) → after_record media store n edits ≡ Ok next
      → after_record media store m edits ≡ Ok next
  whatever_number None n m store next is = absurd (err_ok (faults.BadRecord n) next is)
  whatever_number (Some edits) n m store next is =
      ok_or_any (all_made media store edits) (faults.Refused n (refused_from media 1 store edits))
      (faults.Refused m (refused_from media 1 store edits)) next is

  -- so are all
  whatever_numbers : (texts : List (List ℕ)) (n m : ℕ) (store last : StoreState) → restored_from media n store texts ≡ Ok last
      → restored_from media m store texts ≡ Ok last
  whatever_numbers [] n m store last is = is
  whatever_numbers (first ∷ texts) n m store last is =
      by (after_record media store n (edits_of first)) refl (λ next. whatever_numbers texts (n + 1) (m + 1) next last)
      (sym (as_onto media n store first texts (after_record media store n (edits_of first)) refl) ∙ is)
    where
      by : (answer : Result StoreState RestoreFault) → after_record media store n (edits_of first) ≡ answer
          → ((next : StoreState) → restored_from media (n + 1) next texts ≡ Ok last → restored_from media (m + 1) next texts ≡ Ok last)
          → onto media n texts answer ≡ Ok last → restored_from media m store (first ∷ texts) ≡ Ok last
      by (Err fault) one each rest = absurd (err_ok fault last rest)
      by (Ok next) one each rest =
          as_onto media m store first texts (Ok next) (whatever_number (edits_of first) n m store next one) ∙ each next rest

  -- the records behind are restored on what those in front gave
  pub restored_behind : (texts more : List (List ℕ)) (n : ℕ) (store mid last : StoreState) → restored_from media n store texts ≡ Ok mid
      → restored_from media 1 mid more ≡ Ok last → restored_from media n store (texts ++ more) ≡ Ok last
  restored_behind [] more n store mid last is behind =
      ap (λ s. restored_from media n s more) (ok_is {E = RestoreFault} store mid is) ∙ whatever_numbers more 1 n mid last behind
  restored_behind (first ∷ texts) more n store mid last is behind =
      by (after_record media store n (edits_of first)) refl (λ next rest. restored_behind texts more (n + 1) next mid last rest behind)
      (sym (as_onto media n store first texts (after_record media store n (edits_of first)) refl) ∙ is)
    where
      by : (answer : Result StoreState RestoreFault) → after_record media store n (edits_of first) ≡ answer
          → ((next : StoreState) → restored_from media (n + 1) next texts ≡ Ok mid
          → restored_from media (n + 1) next (texts ++ more) ≡ Ok last)
          → onto media n texts answer ≡ Ok mid → restored_from media n store (first ∷ (texts ++ more)) ≡ Ok last
      by (Err fault) one each rest = absurd (err_ok fault mid rest)
      by (Ok next) one each rest = as_onto media n store first (texts ++ more) (Ok next) one ∙ each next rest
