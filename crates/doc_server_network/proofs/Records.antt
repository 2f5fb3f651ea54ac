-- Records that are restored: apart, as one, and one without lines.
use Rattle.std.proofs.Common.{◌≡◌, ℕ, ◌+◌, List, [], ◌∷◌, ◌++◌, refl, ap, sym, subst, ◌∙◌}
use Rattle.std.specs.Prelude.{Option, Some, None, Result, Ok, Err}
use Rattle.std.specs.Option.{ok_or}
use Rattle.doc_media.specs.Media.{Media}
use Rattle.doc_store.specs.Store.{StoreState}
use Rattle.doc_store.specs.declared.site_edit.SiteEdit.{SiteEdit}
use Rattle.doc_hub.specs.Worlds.{World}
use Rattle.doc_server_script.specs.PageLines.{lines_of}
use Rattle.doc_server_restore.specs.declared.fault.RestoreFault.{RestoreFault}
use Rattle.doc_server_restore.specs.declared.fault.RestoreFault.TheVariants as faults
use Rattle.doc_server_restore.specs.Restores.{after_record, all_made, edits_of, made, refused_from, restored_from, unstamped}
use Rattle.doc_server_restore.proofs.LineLaws.{lines_are_read}
use Rattle.doc_server_restore.proofs.RecordSteps.{as_onto, onto, record_restored}
use Rattle.doc_server_reload.specs.KeptTurns.{IsRestored}
use Rattle.doc_server_network.proofs.Texts.{edits_behind, none_some, some_is}

err_ok : {X E : Type 0} (e : E) (x : X) → ◌≡◌ {A = Result X E} (Err e) (Ok x) → ⊥
err_ok e x is = cc

ok_is : {X E : Type 0} (x y : X) → ◌≡◌ {A = Result X E} (Ok x) (Ok y) → x ≡ y
ok_is x y is = cc

no_lines_read : edits_of [] ≡ Some []
no_lines_read = lines_are_read [] tt

module _ (media : Media) where
  abbrev Leads : ℕ → StoreState → List (List ℕ) → StoreState → Type 0
  Leads n store texts last = restored_from media n store texts ≡ Ok last

  -- ---- some records, and others behind them

  record Splits (n : ℕ) (store : StoreState) (texts rest : List (List ℕ)) (last : StoreState) : Type 0 where
    mid : StoreState
    first : Leads n store texts mid
    number : ℕ
    last_ones : Leads number mid rest last

  split : (texts rest : List (List ℕ)) (n : ℕ) (store last : StoreState) → Leads n store (texts ++ rest) last
      → Splits n store texts rest last
  split [] rest n store last is = record { mid = store; first = refl; number = n; last_ones = is }
  split (text ∷ texts) rest n store last is =
      by (after_record media store n (edits_of text)) refl (λ next all. split texts rest (n + 1) next last all)
      (sym (as_onto media n store text (texts ++ rest) (after_record media store n (edits_of text)) refl) ∙ is)
    where
      by : (answer : Result StoreState RestoreFault) → after_record media store n (edits_of text) ≡ answer
          → ((next : StoreState) → Leads (n + 1) next (texts ++ rest) last → Splits (n + 1) next texts rest last)
          → onto media n (texts ++ rest) answer ≡ Ok last → Splits n store (text ∷ texts) rest last
      by (Err fault) one each all = absurd (err_ok fault last all)
      by (Ok next) one each all =
          let s = each next all in
          record {
            mid = s.mid;
            first = as_onto media n store text texts (Ok next) one ∙ s.first;
            number = s.number;
            last_ones = s.last_ones;
          }

  join : (texts rest : List (List ℕ)) (n : ℕ) (store mid last : StoreState) → Leads n store texts mid
      → ((k : ℕ) → Leads k mid rest last) → Leads n store (texts ++ rest) last
  join [] rest n store mid last is more =
      subst (λ s. Leads n s rest last) (sym (ok_is {E = RestoreFault} store mid is)) (more n)
  join (text ∷ texts) rest n store mid last is more =
      by (after_record media store n (edits_of text)) refl (λ next all. join texts rest (n + 1) next mid last all more)
      (sym (as_onto media n store text texts (after_record media store n (edits_of text)) refl) ∙ is)
    where
      by : (answer : Result StoreState RestoreFault) → after_record media store n (edits_of text) ≡ answer
          → ((next : StoreState) → Leads (n + 1) next texts mid → Leads (n + 1) next (texts ++ rest) last)
          → onto media n texts answer ≡ Ok mid → Leads n store ((text ∷ texts) ++ rest) last
      by (Err fault) one each all = absurd (err_ok fault mid all)
      by (Ok next) one each all = as_onto media n store text (texts ++ rest) (Ok next) one ∙ each next all

  -- ---- one record

  record IsMade (text : List ℕ) (store last : StoreState) : Type 0 where
    edits : List SiteEdit
    said : edits_of text ≡ Some edits
    made_all : all_made media store edits ≡ Some last

  one_made : (text : List ℕ) (n : ℕ) (store last : StoreState) → Leads n store (text ∷ []) last → IsMade text store last
  one_made text n store last is =
      by (edits_of text) refl (sym (as_onto media n store text [] (after_record media store n (edits_of text)) refl) ∙ is)
    where
      by_made : (edits : List SiteEdit) (o : Option StoreState) → edits_of text ≡ Some edits → all_made media store edits ≡ o
          → onto media n [] (ok_or o (faults.Refused n (refused_from media 1 store edits))) ≡ Ok last → IsMade text store last
      by_made edits None said all here = absurd (err_ok (faults.Refused n (refused_from media 1 store edits)) last here)
      by_made edits (Some next) said all here =
          record { edits = edits; said = said; made_all = all ∙ ap Some (ok_is {E = RestoreFault} next last here) }

      by : (o : Option (List SiteEdit)) → edits_of text ≡ o → onto media n [] (after_record media store n o) ≡ Ok last
          → IsMade text store last
      by None said here = absurd (err_ok (faults.BadRecord n) last here)
      by (Some edits) said here = by_made edits (all_made media store edits) said refl here

  one_leads : (text : List ℕ) (store last : StoreState) → IsMade text store last → (n : ℕ) → Leads n store (text ∷ []) last
  one_leads text store last m n =
      as_onto media n store text [] (Ok last) (record_restored media store last n text m.edits m.said m.made_all)

  abbrev behind : List SiteEdit → Option StoreState → Option StoreState
  behind edits None = None
  behind edits (Some next) = all_made media next edits

  as_behind : (edits : List SiteEdit) (mid : Option StoreState)
      → ◌≡◌ {A = Option StoreState} (elim mid [ None ↦ None | Some next ↦ all_made media next edits ]) (behind edits mid)
  as_behind edits None = refl
  as_behind edits (Some next) = refl

  both_made : (xs ys : List SiteEdit) (store mid last : StoreState) → all_made media store xs ≡ Some mid
      → all_made media mid ys ≡ Some last → all_made media store (xs ++ ys) ≡ Some last
  both_made [] ys store mid last one two = subst (λ s. all_made media s ys ≡ Some last) (sym (some_is store mid one)) two
  both_made (x ∷ xs) ys store mid last one two =
      as_behind (xs ++ ys) (made media store x)
      ∙ by (made media store x) (λ next all. both_made xs ys next mid last all two) (sym (as_behind xs (made media store x)) ∙ one)
    where
      by : (o : Option StoreState)
          → ((next : StoreState) → all_made media next xs ≡ Some mid → all_made media next (xs ++ ys) ≡ Some last)
          → behind xs o ≡ Some mid → behind (xs ++ ys) o ≡ Some last
      by None each all = absurd (none_some mid all)
      by (Some next) each all = each next all

  -- ---- a record of lines, and one behind it, are as one

  pub merged : (texts : List (List ℕ)) (edits : List SiteEdit) (rest : List ℕ) (n : ℕ) (store last : StoreState)
      → restored_from media n store ((texts ++ lines_of edits ∷ []) ++ rest ∷ []) ≡ Ok last
      → restored_from media n store (texts ++ (lines_of edits ++ rest) ∷ []) ≡ Ok last
  merged texts edits rest n store last is =
      let outer = split (texts ++ lines_of edits ∷ []) (rest ∷ []) n store last is in
      let inner = split texts (lines_of edits ∷ []) n store outer.mid outer.first in
      let a = one_made (lines_of edits) inner.number inner.mid outer.mid inner.last_ones in
      let b = one_made rest outer.number outer.mid last outer.last_ones in
      join texts ((lines_of edits ++ rest) ∷ []) n store inner.mid last inner.first
      (one_leads (lines_of edits ++ rest) inner.mid last
      (record {
        edits = a.edits ++ b.edits;
        said = edits_behind edits a.edits b.edits rest a.said b.said;
        made_all = both_made a.edits b.edits inner.mid outer.mid last a.made_all b.made_all;
      }))

  -- ---- a record without lines is as none

  pub with_none : (texts : List (List ℕ)) (n : ℕ) (store last : StoreState) → restored_from media n store texts ≡ Ok last
      → restored_from media n store (texts ++ [] ∷ []) ≡ Ok last
  with_none texts n store last is =
      join texts ([] ∷ []) n store last last is
      (one_leads [] last last (record { edits = []; said = no_lines_read; made_all = refl }))

  pub without_none : (texts : List (List ℕ)) (n : ℕ) (store last : StoreState) → restored_from media n store (texts ++ [] ∷ []) ≡ Ok last
      → restored_from media n store texts ≡ Ok last
  without_none texts n store last is =
      let s = split texts ([] ∷ []) n store last is in
      let m = one_made [] s.number s.mid last s.last_ones in
      let none = some_is m.edits [] (sym m.said ∙ no_lines_read) in
      s.first ∙ ap Ok (some_is s.mid last (ap (all_made media s.mid) (sym none) ∙ m.made_all))

-- ---- the same of a world

module _ (config : StoreState) (texts : List (List ℕ)) (w : World) where
  pub as_one_record : (edits : List SiteEdit) (rest : List ℕ) → IsRestored config ((texts ++ lines_of edits ∷ []) ++ rest ∷ []) w
      → IsRestored config (texts ++ (lines_of edits ++ rest) ∷ []) w
  as_one_record edits rest is = record {
    store = is.store;
    gives = merged w.media texts edits rest 1 (unstamped config) is.store is.gives;
    site = is.site;
    puts = is.puts;
  }

  pub none_behind : IsRestored config texts w → IsRestored config (texts ++ [] ∷ []) w
  none_behind is = record {
    store = is.store;
    gives = with_none w.media texts 1 (unstamped config) is.store is.gives;
    site = is.site;
    puts = is.puts;
  }

  pub none_left_out : IsRestored config (texts ++ [] ∷ []) w → IsRestored config texts w
  none_left_out is = record {
    store = is.store;
    gives = without_none w.media texts 1 (unstamped config) is.store is.gives;
    site = is.site;
    puts = is.puts;
  }
