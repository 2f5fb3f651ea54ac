-- What uses texts after a name is set, and after it is removed.
use Rattle.std.proofs.Common.{◌≡◌, ◌≢◌, ℕ, List, Bool, true, false, cond, is_some, refl, ap, sym, ◌∙◌}
use Rattle.std.specs.Prelude.{Option, Some, None, option_map, Result, Ok, Err, OnErr}
use Rattle.std.specs.FinMap as map
use Rattle.std.proofs.lemmas.Cmp.{nat_list_cmp_total, nat_cmp_total}
use Rattle.doc_index_tables.specs.Maps.{NumberMap}
use Rattle.doc_index_tables.specs.TableSteps.{same_number, same_text}
use Rattle.doc_index_tables.proofs.CountSteps.{number_is, number_itself, text_itself}
use Rattle.doc_index_tables.proofs.TableSteps.{same_text as text_is}
use Rattle.doc_links_names.specs.Names.{KeepsUse, NameTable, number_of, uses, uses_in}
use Rattle.doc_links_names.specs.declared.name.Name.{Name}

abbrev pub number_in : Option Name → Option ℕ
number_in x = option_map (λ name. name.number) x

-- what holds in any case holds of an error
pub on_err : {X E P : Type 0} (r : Result X E) → P → OnErr r P
on_err (Ok x) h = tt
on_err (Err e) h = h

-- where a text has the name that it had, what uses it stays
pub keeps_same : (old new : NameTable) (t : List ℕ) (s : ℕ) → map.get new t ≡ map.get old t → KeepsUse old new t s
keeps_same old new t s same used = (ap (λ x. uses_in x s) same ∙ used, ap number_in same)

-- a text that has no number has no name
pub no_name : (names : NameTable) (text : List ℕ) → number_of names text ≡ None → map.get names text ≡ None
no_name names text none = by (map.get names text) none
  where
    by : (x : Option Name) → number_in x ≡ None → x ≡ None
    by None e = refl
    by (Some name) e = cc

-- slots that another joins, and that one leaves
pub slot_stays : (slots : NumberMap ℕ) (slot s : ℕ) → map.contains_key slots s ≡ true → map.contains_key (map.insert slots slot 0) s ≡ true
slot_stays slots slot s stands = ap is_some (map.get-insert nat_cmp_total slots slot 0 s) ∙ by (same_number s slot)
  where
    by : (b : Bool) → is_some (cond b (Some 0) (map.get slots s)) ≡ true
    by true = refl
    by false = stands

pub slot_joins : (slots : NumberMap ℕ) (slot : ℕ) → map.contains_key (map.insert slots slot 0) slot ≡ true
slot_joins slots slot =
    ap is_some (map.get-insert nat_cmp_total slots slot 0 slot
    ∙ ap (λ b. cond b (Some 0) (map.get slots slot)) (number_itself slot))

pub slot_remains : (slots : NumberMap ℕ) (slot s : ℕ) → s ≢ slot → map.contains_key slots s ≡ true
    → map.contains_key (map.remove slots slot) s ≡ true
slot_remains slots slot s apart stands = ap is_some (map.get-remove nat_cmp_total slots slot s) ∙ by (same_number s slot) refl
  where
    by : (b : Bool) → same_number s slot ≡ b → is_some (cond b None (map.get slots s)) ≡ true
    by true e = absurd (apart (number_is s slot e))
    by false e = stands

pub other_text : (t text : List ℕ) → t ≢ text → same_text t text ≡ false
other_text t text apart = by (same_text t text) refl
  where
    by : (b : Bool) → same_text t text ≡ b → b ≡ false
    by true e = absurd (apart (text_is t text e))
    by false e = refl

module _ (names : NameTable) (text : List ℕ) where
  pub set_there : (name : Name) → map.get (map.insert names text name) text ≡ Some name
  set_there name =
      map.get-insert nat_list_cmp_total names text name text
      ∙ ap (λ b. cond b (Some name) (map.get names text)) (text_itself text)

  pub set_elsewhere : (name : Name) (t : List ℕ) → same_text t text ≡ false → map.get (map.insert names text name) t ≡ map.get names t
  set_elsewhere name t other =
      map.get-insert nat_list_cmp_total names text name t
      ∙ ap (λ b. cond b (Some name) (map.get names t)) other

  pub removed_there : map.get (map.remove names text) text ≡ None
  removed_there =
      map.get-remove nat_list_cmp_total names text text
      ∙ ap (λ b. cond b None (map.get names text)) (text_itself text)

  pub removed_elsewhere : (t : List ℕ) → same_text t text ≡ false → map.get (map.remove names text) t ≡ map.get names t
  removed_elsewhere t other =
      map.get-remove nat_list_cmp_total names text t
      ∙ ap (λ b. cond b None (map.get names t)) other

-- a name in place of another of the same number
module _ (names : NameTable) (text : List ℕ) (name next : Name) (stands : map.get names text ≡ Some name)
    (same : next.number ≡ name.number) where
  pub same_numbers : (t : List ℕ) → number_of (map.insert names text next) t ≡ number_of names t
  same_numbers t = by (same_text t text) refl
    where
      by : (b : Bool) → same_text t text ≡ b → number_of (map.insert names text next) t ≡ number_of names t
      by true e =
          ap (number_of (map.insert names text next)) (text_is t text e)
          ∙ ap number_in (set_there names text next) ∙ ap Some same ∙ sym (ap number_in stands)
          ∙ ap (number_of names) (sym (text_is t text e))
      by false e = ap number_in (set_elsewhere names text next t e)

  pub keeps_next : (t : List ℕ) (s : ℕ) → (map.contains_key name.slots s ≡ true → map.contains_key next.slots s ≡ true)
      → KeepsUse names (map.insert names text next) t s
  keeps_next t s slots = by (same_text t text) refl
    where
      by : (b : Bool) → same_text t text ≡ b → KeepsUse names (map.insert names text next) t s
      by true e used =
          let here : uses names text s ≡ true = ap (λ u. uses names u s) (sym (text_is t text e)) ∙ used in (
            ap (λ u. uses (map.insert names text next) u s) (text_is t text e)
                ∙ ap (λ x. uses_in x s) (set_there names text next)
                ∙ slots (sym (ap (λ x. uses_in x s) stands) ∙ here),
            same_numbers t,
          )
      by false e used = keeps_same names (map.insert names text next) t s (set_elsewhere names text next t e) used
