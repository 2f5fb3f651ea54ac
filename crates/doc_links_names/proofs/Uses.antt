-- Names after a slot uses a text, and after it uses it no longer.
use Rattle.std.proofs.Common.{◌≡◌, ◌≢◌, ◌<◌, arith, ℕ, List, Bool, true, false, cond, ◌==◌, eqb→eq, T, is_some, refl, ap, sym, subst, ◌∙◌, true≢false, inl, inr}
use Rattle.std.specs.Prelude.{◌⊎◌, bytes_eq, Option, Some, None}
use Rattle.std.specs.FinMap as map
use Rattle.std.specs.Ordering.{nat_cmp}
use Rattle.std.proofs.lemmas.Cmp.{nat_cmp_total}
use Rattle.std.proofs.lemmas.Option.{none-some}
use Rattle.doc_index_tables.specs.Maps.{NumberMap}
use Rattle.doc_index_tables.specs.TableSteps.{same_number, same_text}
use Rattle.doc_index_tables.proofs.CountSteps.{number_is, number_itself}
use Rattle.doc_index_tables.proofs.TableSteps.{same_text as text_is}
use Rattle.doc_page_parts.proofs.Texts.{bytes_eq_itself}
use Rattle.doc_links_names.specs.Names.{AddsNothing, AddsOnly, Keeps, KeepsOthers, KeepsOtherTexts, KeepsUse, NameTable, number_of, uses, uses_in, left_in, without_slot, without_use}
use Rattle.doc_links_names.specs.NameSteps.{freed, freed_in, used_by, used_in, with_slot}
use Rattle.doc_links_names.specs.declared.name.Name.{Name}
use Rattle.doc_links_names.proofs.NameSteps.{keeps_next, keeps_same, no_name, number_in, other_text, removed_elsewhere, removed_there, same_numbers, set_elsewhere, set_there, slot_joins, slot_remains, slot_stays}

-- what stays twice stays
pub keeps_then : (a b d : NameTable) → Keeps a b → Keeps b d → Keeps a d
keeps_then a b d first second t s used =
    let once = first t s used in
    let twice = second t s once.0 in
    (twice.0, twice.1 ∙ once.1)

pub keeps_itself : (a : NameTable) → Keeps a a
keeps_itself a t s used = (used, refl)

pub keeps_others_then : (slot : ℕ) (a b d : NameTable) → KeepsOthers slot a b → KeepsOthers slot b d → KeepsOthers slot a d
keeps_others_then slot a b d first second t s apart used =
    let once = first t s apart used in
    let twice = second t s apart once.0 in
    (twice.0, twice.1 ∙ once.1)

pub keeps_others_itself : (slot : ℕ) (a : NameTable) → KeepsOthers slot a a
keeps_others_itself slot a t s apart used = (used, refl)

module _ (names : NameTable) (text : List ℕ) where
  -- a text that has no name gets one
  pub fresh_keeps : (name : Name) → number_of names text ≡ None → Keeps names (map.insert names text name)
  fresh_keeps name none t s = by (same_text t text) refl
    where
      by : (b : Bool) → same_text t text ≡ b → KeepsUse names (map.insert names text name) t s
      by true e used =
          absurd (true≢false (sym used ∙ ap (λ u. uses names u s) (text_is t text e) ∙ ap (λ x. uses_in x s) (no_name names text none)))
      by false e used = keeps_same names (map.insert names text name) t s (set_elsewhere names text name t e) used

  pub fresh_number : (name : Name) → number_of (map.insert names text name) text ≡ Some name.number
  fresh_number name = ap number_in (set_there names text name)

  pub fresh_used : (name : Name) (slot : ℕ) → map.contains_key name.slots slot ≡ true → uses (map.insert names text name) text slot ≡ true
  fresh_used name slot joined = ap (λ x. uses_in x slot) (set_there names text name) ∙ joined

module _ (names : NameTable) (text : List ℕ) (slot : ℕ) where
  -- a slot uses a text that has a name
  pub used_keeps : Keeps names (used_by names text slot)
  used_keeps = by (map.get names text) refl
    where
      by : (x : Option Name) → map.get names text ≡ x → Keeps names (used_in x names text slot)
      by None e = keeps_itself names
      by (Some name) e = λ t s. keeps_next names text name (with_slot name slot) e refl t s (slot_stays name.slots slot s)

  pub used_numbers : (t : List ℕ) → number_of (used_by names text slot) t ≡ number_of names t
  used_numbers t = by (map.get names text) refl
    where
      by : (x : Option Name) → map.get names text ≡ x → number_of (used_in x names text slot) t ≡ number_of names t
      by None e = refl
      by (Some name) e = same_numbers names text name (with_slot name slot) e refl t

  pub used_used : (n : ℕ) → number_of names text ≡ Some n → uses (used_by names text slot) text slot ≡ true
  used_used n known = by (map.get names text) refl known
    where
      by : (x : Option Name) → map.get names text ≡ x → number_in x ≡ Some n → uses (used_in x names text slot) text slot ≡ true
      by None e has = absurd (none-some n has)
      by (Some name) e has = ap (λ x. uses_in x slot) (set_there names text (with_slot name slot)) ∙ slot_joins name.slots slot

  -- where the text has no name, nothing changes
  pub used_none : number_of names text ≡ None → used_by names text slot ≡ names
  used_none none = ap (λ x. used_in x names text slot) (no_name names text none)

  -- a slot uses a text no longer
  none_left : (name : Name) (s : ℕ) → s ≢ slot → map.contains_key name.slots s ≡ true
      → (map.len (map.remove name.slots slot) == 0) ≡ true → ⊥
  none_left name s apart stands e =
      true≢false (sym (slot_remains name.slots slot s apart stands)
      ∙ ap (λ m. map.contains_key m s) (map.empty_of_len (map.remove name.slots slot) (eqb→eq _ _ (subst T (sym e) tt)))
      ∙ ap is_some (map.get-empty nat_cmp s))

  left_some : (name : Name) → map.get names text ≡ Some name → (b : Bool) → (map.len (map.remove name.slots slot) == 0) ≡ b
      → KeepsOthers slot names (cond b (map.remove names text) (map.insert names text (without_slot name slot)))
  left_some name stands true e t s apart = by (same_text t text) refl
    where
      by : (b : Bool) → same_text t text ≡ b → KeepsUse names (map.remove names text) t s
      by true at used =
          absurd (none_left name s apart (sym (ap (λ x. uses_in x s) stands) ∙ ap (λ u. uses names u s) (sym (text_is t text at)) ∙ used) e)
      by false at used = keeps_same names (map.remove names text) t s (removed_elsewhere names text t at) used
  left_some name stands false e t s apart =
      keeps_next names text name (without_slot name slot) stands refl t s (slot_remains name.slots slot s apart)

  pub left_keeps : KeepsOthers slot names (without_use names text slot)
  left_keeps = by (map.get names text) refl
    where
      by : (x : Option Name) → map.get names text ≡ x → KeepsOthers slot names (left_in x names text slot)
      by None e = keeps_others_itself slot names
      by (Some name) e = left_some name e (map.len (map.remove name.slots slot) == 0) refl

  left_elsewhere : (t : List ℕ) → same_text t text ≡ false → (x : Option Name) → map.get (left_in x names text slot) t ≡ map.get names t
  left_elsewhere t other None = refl
  left_elsewhere t other (Some name) = by (map.len (map.remove name.slots slot) == 0)
    where
      by : (b : Bool) → map.get (cond b (map.remove names text) (map.insert names text (without_slot name slot))) t ≡ map.get names t
      by true = removed_elsewhere names text t other
      by false = set_elsewhere names text (without_slot name slot) t other

  pub left_keeps_texts : KeepsOtherTexts text names (without_use names text slot)
  left_keeps_texts t s apart =
      keeps_same names (without_use names text slot) t s (left_elsewhere t (other_text t text apart) (map.get names text))

-- what a slot adds
pub adds_itself : (texts : List ℕ → Bool) (slot : ℕ) (a : NameTable) → AddsOnly texts slot a a
adds_itself texts slot a t s used = inl used

pub adds_nothing_then : (a b d : NameTable) → AddsNothing a b → AddsNothing b d → AddsNothing a d
adds_nothing_then a b d first second t s used = first t s (second t s used)

-- what is added twice
pub adds_then : (first second all : List ℕ → Bool) (slot : ℕ) (a b d : NameTable) → ((t : List ℕ) → first t ≡ true → all t ≡ true)
    → ((t : List ℕ) → second t ≡ true → all t ≡ true) → AddsOnly first slot a b → AddsOnly second slot b d → AddsOnly all slot a d
adds_then first second all slot a b d to to_more adds more t s used = later (more t s used)
  where
    once : (uses a t s ≡ true) ⊎ ((s ≡ slot) × (first t ≡ true)) → (uses a t s ≡ true) ⊎ ((s ≡ slot) × (all t ≡ true))
    once (inl was) = inl was
    once (inr new) = inr (new.0, to t new.1)

    later : (uses b t s ≡ true) ⊎ ((s ≡ slot) × (second t ≡ true)) → (uses a t s ≡ true) ⊎ ((s ≡ slot) × (all t ≡ true))
    later (inl was) = once (adds t s was)
    later (inr new) = inr (new.0, to_more t new.1)

-- a slot that joined others
joined : (slots : NumberMap ℕ) (slot s : ℕ) → map.contains_key (map.insert slots slot 0) s ≡ true
    → (map.contains_key slots s ≡ true) ⊎ (s ≡ slot)
joined slots slot s has =
    by (same_number s slot) refl (sym (ap is_some (map.get-insert nat_cmp_total slots slot 0 s)) ∙ has)
  where
    by : (b : Bool) → same_number s slot ≡ b → is_some (cond b (Some 0) (map.get slots s)) ≡ true
        → (map.contains_key slots s ≡ true) ⊎ (s ≡ slot)
    by true e h = inr (number_is s slot e)
    by false e h = inl h

-- a slot that is left after another went
remained : (slots : NumberMap ℕ) (slot s : ℕ) → map.contains_key (map.remove slots slot) s ≡ true → map.contains_key slots s ≡ true
remained slots slot s has =
    by (same_number s slot) (sym (ap is_some (map.get-remove nat_cmp_total slots slot s)) ∙ has)
  where
    by : (b : Bool) → is_some (cond b None (map.get slots s)) ≡ true → map.contains_key slots s ≡ true
    by true h = absurd (true≢false (sym h))
    by false h = h

module _ (names : NameTable) (text : List ℕ) where
  -- what uses texts after a name is set
  set_uses : (name : Name) (t : List ℕ) (s : ℕ) → uses (map.insert names text name) t s ≡ true
      → (uses names t s ≡ true) ⊎ ((t ≡ text) × (map.contains_key name.slots s ≡ true))
  set_uses name t s used = by (same_text t text) refl
    where
      by : (b : Bool) → same_text t text ≡ b → (uses names t s ≡ true) ⊎ ((t ≡ text) × (map.contains_key name.slots s ≡ true))
      by true e =
          inr (
            text_is t text e,
            sym (ap (λ x. uses_in x s) (set_there names text name))
                ∙ ap (λ u. uses (map.insert names text name) u s) (sym (text_is t text e)) ∙ used,
          )
      by false e = inl (sym (ap (λ x. uses_in x s) (set_elsewhere names text name t e)) ∙ used)

  itself : (t : List ℕ) → t ≡ text → bytes_eq text t ≡ true
  itself t same = ap (bytes_eq text) same ∙ bytes_eq_itself text

  abbrev no_slots : NumberMap ℕ
  no_slots = map.empty

  -- a text that had no name is used by one slot
  pub fresh_adds : (number slot : ℕ) (slots : NumberMap ℕ) → slots ≡ map.insert no_slots slot 0
      → AddsOnly (bytes_eq text) slot names (map.insert names text (record { number = number; slots = slots }))
  fresh_adds number slot slots one t s used = by (set_uses (record { number = number; slots = slots }) t s used)
    where
      alone : (map.contains_key no_slots s ≡ true) ⊎ (s ≡ slot) → s ≡ slot
      alone (inl none) = absurd (true≢false (sym none ∙ ap is_some (map.get-empty nat_cmp s)))
      alone (inr same) = same

      by : (uses names t s ≡ true) ⊎ ((t ≡ text) × (map.contains_key slots s ≡ true))
          → (uses names t s ≡ true) ⊎ ((s ≡ slot) × (bytes_eq text t ≡ true))
      by (inl was) = inl was
      by (inr new) = inr (alone (joined no_slots slot s (ap (λ m. map.contains_key m s) (sym one) ∙ new.1)), itself t new.0)

  -- one slot more uses a text that has a name
  pub used_adds : (slot : ℕ) → AddsOnly (bytes_eq text) slot names (used_by names text slot)
  used_adds slot = by (map.get names text) refl
    where
      by_name : (name : Name) → map.get names text ≡ Some name → (t : List ℕ) (s : ℕ)
          → (uses names t s ≡ true) ⊎ ((t ≡ text) × (map.contains_key (map.insert name.slots slot 0) s ≡ true))
          → (uses names t s ≡ true) ⊎ ((s ≡ slot) × (bytes_eq text t ≡ true))
      by_name name e t s (inl was) = inl was
      by_name name e t s (inr new) = by_slot (joined name.slots slot s new.1)
        where
          by_slot : (map.contains_key name.slots s ≡ true) ⊎ (s ≡ slot) → (uses names t s ≡ true) ⊎ ((s ≡ slot) × (bytes_eq text t ≡ true))
          by_slot (inl was) = inl (ap (λ u. uses names u s) new.0 ∙ ap (λ x. uses_in x s) e ∙ was)
          by_slot (inr same) = inr (same, itself t new.0)

      by : (x : Option Name) → map.get names text ≡ x → AddsOnly (bytes_eq text) slot names (used_in x names text slot)
      by None e = adds_itself (bytes_eq text) slot names
      by (Some name) e = λ t s used. by_name name e t s (set_uses (with_slot name slot) t s used)

  -- a slot that uses a text no longer adds nothing, and doesn't use it
  module _ (slot : ℕ) where
    removed_adds : AddsNothing names (map.remove names text)
    removed_adds t s used = by (same_text t text) refl
      where
        by : (b : Bool) → same_text t text ≡ b → uses names t s ≡ true
        by true e =
            absurd (true≢false (sym used ∙ ap (λ u. uses (map.remove names text) u s) (text_is t text e)
            ∙ ap (λ x. uses_in x s) (removed_there names text)))
        by false e = sym (ap (λ x. uses_in x s) (removed_elsewhere names text t e)) ∙ used

    fewer_adds : (name : Name) → map.get names text ≡ Some name → AddsNothing names (map.insert names text (without_slot name slot))
    fewer_adds name stands t s used = by (set_uses (without_slot name slot) t s used)
      where
        by : (uses names t s ≡ true) ⊎ ((t ≡ text) × (map.contains_key (map.remove name.slots slot) s ≡ true)) → uses names t s ≡ true
        by (inl was) = was
        by (inr left) =
            ap (λ u. uses names u s) left.0 ∙ ap (λ x. uses_in x s) stands ∙ remained name.slots slot s left.1

    pub left_adds : AddsNothing names (without_use names text slot)
    left_adds = by (map.get names text) refl
      where
        by_len : (name : Name) → map.get names text ≡ Some name → (b : Bool)
            → AddsNothing names (cond b (map.remove names text) (map.insert names text (without_slot name slot)))
        by_len name e true = removed_adds
        by_len name e false = fewer_adds name e

        by : (x : Option Name) → map.get names text ≡ x → AddsNothing names (left_in x names text slot)
        by None e = λ t s used. used
        by (Some name) e = by_len name e (map.len (map.remove name.slots slot) == 0)

    pub left_gone : uses (without_use names text slot) text slot ≡ false
    left_gone = by (map.get names text) refl
      where
        by_len : (name : Name) (b : Bool)
            → uses (cond b (map.remove names text) (map.insert names text (without_slot name slot))) text slot ≡ false
        by_len name true = ap (λ x. uses_in x slot) (removed_there names text)
        by_len name false =
            ap (λ x. uses_in x slot) (set_there names text (without_slot name slot))
            ∙ ap is_some (map.get-remove nat_cmp_total name.slots slot slot
            ∙ ap (λ b. cond b None (map.get name.slots slot)) (number_itself slot))

        by : (x : Option Name) → map.get names text ≡ x → uses (left_in x names text slot) text slot ≡ false
        by None e = ap (λ x. uses_in x slot) e
        by (Some name) e = by_len name (map.len (map.remove name.slots slot) == 0)

-- how many slots are left tells whether a name goes
module _ (names : NameTable) (text : List ℕ) (slot : ℕ) (name : Name) (stands : map.get names text ≡ Some name)
    (left : NumberMap ℕ) (is : left ≡ map.remove name.slots slot) (n : ℕ) (count : n ≡ map.len left) where
  is_left : n ≡ map.len (map.remove name.slots slot)
  is_left = count ∙ ap map.len is

  some_left : 0 < n → (map.len (map.remove name.slots slot) == 0) ≡ false
  some_left some = ap (λ m. m == 0) (sym is_left) ∙ by (n == 0) refl
    where
      by : (b : Bool) → (n == 0) ≡ b → b ≡ false
      by true e = let none : n ≡ 0 = eqb→eq _ _ (subst T (sym e) tt) in absurd (omega (arith, none, some))
      by false e = refl

  pub not_freed : 0 < n → None ≡ freed names text slot
  not_freed some =
      sym (ap (λ x. freed_in x slot) stands ∙ ap (λ b. cond b (Some name.number) None) (some_left some))

  pub freed_last : n ≡ 0 → Some name.number ≡ freed names text slot
  freed_last none =
      sym (ap (λ x. freed_in x slot) stands
      ∙ ap (λ b. cond b (Some name.number) None) (ap (λ m. m == 0) (sym is_left ∙ none)))

  pub left_is : 0 < n → map.insert names text (record { number = name.number; slots = left }) ≡ without_use names text slot
  left_is some =
      ap (λ slots. map.insert names text (record { number = name.number; slots = slots })) is
      ∙ sym (ap (λ b. cond b (map.remove names text) (map.insert names text (without_slot name slot))) (some_left some))
      ∙ sym (ap (λ x. left_in x names text slot) stands)
