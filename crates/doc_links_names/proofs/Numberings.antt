-- The numbers of texts stay apart.
use Rattle.std.proofs.Common.{◌≡◌, ◌≢◌, ◌<◌, ◌≤◌, arith, ℕ, zero, suc, List, [], ◌∷◌, Bool, true, false, cond, ◌==◌, length, refl, ap, sym, subst, ◌∙◌, true≢false}
use Rattle.std.specs.Prelude.{Option, Some, None, IsSome, slice_index_or}
use Rattle.std.specs.Cmp.Lexicographic.{slice_cmp}
use Rattle.std.specs.FinMap as map
use Rattle.std.specs.Ordering.{nat_cmp}
use Rattle.std.proofs.lemmas.Option.{same_Some, none-some}
use Rattle.slab.specs.Slab.{Slab, Updates, get}
use Rattle.doc_index_tables.specs.TableSteps.{same_text}
use Rattle.doc_index_tables.proofs.CountSteps.{text_itself}
use Rattle.doc_index_tables.proofs.TableSteps.{same_text as text_is}
use Rattle.doc_links_names.specs.Names.{NameTable, number_of, left_in, without_slot, without_use}
use Rattle.doc_links_names.specs.NameSteps.{IsNumbering, freed, freed_in}
use Rattle.doc_links_names.specs.declared.name.Name.{Name}
use Rattle.doc_links_names.proofs.NameSteps.{number_in, removed_elsewhere, removed_there, same_numbers, set_elsewhere, set_there}

-- no names
pub nothing_numbered : (keys : Slab (Unit {0})) → IsNumbering map.empty keys
nothing_numbered keys = record {
  apart = λ s t n at at_other. absurd (none-some n (sym (no_number s) ∙ at));
  taken = λ t n at. absurd (none-some n (sym (no_number t) ∙ at));
}
  where
    no_number : (t : List ℕ) → number_of map.empty t ≡ None
    no_number t = ap number_in (map.get-empty (slice_cmp nat_cmp) t)

-- names with the same numbers
pub same_numbering : (old new : NameTable) (keys : Slab (Unit {0})) → ((t : List ℕ) → number_of new t ≡ number_of old t)
    → IsNumbering old keys → IsNumbering new keys
same_numbering old new keys same is = record {
  apart = λ s t n at at_other. is.apart s t n (sym (same s) ∙ at) (sym (same t) ∙ at_other);
  taken = λ t n at. is.taken t n (sym (same t) ∙ at);
}

-- keys with the same values
pub same_keys : (names : NameTable) (keys after : Slab (Unit {0})) → after.slots ≡ keys.slots → IsNumbering names keys
    → IsNumbering names after
same_keys names keys after same is = record {
  apart = is.apart;
  taken = λ t n at. subst (λ slots. IsSome (slice_index_or slots n None)) (sym same) (is.taken t n at);
}

-- a taken key is below the end
pub key_below : (slots : List (Option (Unit {0}))) (n : ℕ) → IsSome (slice_index_or slots n None) → n < length slots
key_below [] n some = absurd (true≢false (sym some))
key_below (x ∷ slots) zero some = omega arith
key_below (x ∷ slots) (suc n) some = let below = key_below slots n some in omega (arith, below)

-- each number is below the end of the keys
pub below_end : (names : NameTable) (keys : Slab (Unit {0})) → IsNumbering names keys → (end : ℕ) → length keys.slots ≤ end
    → (t : List ℕ) (n : ℕ) → number_of names t ≡ Some n → n < end
below_end names keys is end ends t n at = let below = key_below keys.slots n (is.taken t n at) in omega (arith, below, ends)

module _ (names : NameTable) (keys : Slab (Unit {0})) (is : IsNumbering names keys) (text : List ℕ) where
  -- a text gets a number that none has
  pub fresh_numbering : (name : Name) (after : Slab (Unit {0})) → get keys name.number ≡ None → Updates keys after name.number (Some tt)
      → IsNumbering (map.insert names text name) after
  fresh_numbering name after vacant updates = record {
    apart = λ s t n at at_other. by_apart s t n (same_text s text) (same_text t text) refl refl at at_other;
    taken = λ t n at. by_taken t n (same_text t text) refl at;
  }
    where
      -- whatever has the number stood before, or is this text
      stood : (t : List ℕ) (n : ℕ) → same_text t text ≡ false → number_of (map.insert names text name) t ≡ Some n
          → number_of names t ≡ Some n
      stood t n other at = sym (ap number_in (set_elsewhere names text name t other)) ∙ at

      given : (t : List ℕ) (n : ℕ) → same_text t text ≡ true → number_of (map.insert names text name) t ≡ Some n → name.number ≡ n
      given t n same at =
          same_Some name.number n (sym (ap number_in (set_there names text name))
          ∙ ap (number_of (map.insert names text name)) (sym (text_is t text same)) ∙ at)

      not_both : (t : List ℕ) (n : ℕ) → number_of names t ≡ Some n → name.number ≢ n
      not_both t n at same = true≢false (sym (subst IsSome (ap (get keys) (sym same) ∙ vacant) (is.taken t n at)))

      by_apart : (s t : List ℕ) (n : ℕ) (a b : Bool) → same_text s text ≡ a → same_text t text ≡ b
          → number_of (map.insert names text name) s ≡ Some n → number_of (map.insert names text name) t ≡ Some n → s ≡ t
      by_apart s t n true true e f at at_other = text_is s text e ∙ sym (text_is t text f)
      by_apart s t n true false e f at at_other = absurd (not_both t n (stood t n f at_other) (given s n e at))
      by_apart s t n false true e f at at_other = absurd (not_both s n (stood s n e at) (given t n f at_other))
      by_apart s t n false false e f at at_other = is.apart s t n (stood s n e at) (stood t n f at_other)

      by_taken : (t : List ℕ) (n : ℕ) (b : Bool) → same_text t text ≡ b → number_of (map.insert names text name) t ≡ Some n
          → IsSome (get after n)
      by_taken t n true e at = subst IsSome (sym (ap (get after) (sym (given t n e at)) ∙ updates.changed)) refl
      by_taken t n false e at =
          subst IsSome (sym (updates.others n (λ same. not_both t n (stood t n e at) (sym same)))) (is.taken t n (stood t n e at))

  -- a text goes, and its number is free
  removed_numbering : (number : ℕ) (after : Slab (Unit {0})) → number_of names text ≡ Some number → Updates keys after number None
      → IsNumbering (map.remove names text) after
  removed_numbering number after known updates = record {
    apart = λ s t n at at_other. is.apart s t n (stood s n at).0 (stood t n at_other).0;
    taken = λ t n at. subst IsSome (sym (updates.others n (other t n at))) (is.taken t n (stood t n at).0);
  }
    where
      stood : (t : List ℕ) (n : ℕ) → number_of (map.remove names text) t ≡ Some n
          → (number_of names t ≡ Some n) × (same_text t text ≡ false)
      stood t n at = by (same_text t text) refl
        where
          by : (b : Bool) → same_text t text ≡ b → (number_of names t ≡ Some n) × (same_text t text ≡ false)
          by true e =
              absurd (none-some n (sym (ap number_in (removed_there names text))
              ∙ ap (number_of (map.remove names text)) (sym (text_is t text e)) ∙ at))
          by false e = (sym (ap number_in (removed_elsewhere names text t e)) ∙ at, e)

      other : (t : List ℕ) (n : ℕ) → number_of (map.remove names text) t ≡ Some n → n ≢ number
      other t n at same =
          let here = stood t n at in
          true≢false (sym (ap (λ u. same_text u text) (is.apart t text n here.0 (known ∙ ap Some (sym same))) ∙ text_itself text) ∙ here.1)

  -- a slot uses the text no longer: its number is free, or stays
  pub freed_numbering : (slot number : ℕ) (after : Slab (Unit {0})) → freed names text slot ≡ Some number → Updates keys after number None
      → IsNumbering (without_use names text slot) after
  freed_numbering slot number after free updates = by (map.get names text) refl free
    where
      by_len : (name : Name) → map.get names text ≡ Some name → (b : Bool) → cond b (Some name.number) None ≡ Some number
          → IsNumbering (cond b (map.remove names text) (map.insert names text (without_slot name slot))) after
      by_len name e true same = removed_numbering number after (ap number_in e ∙ same) updates
      by_len name e false same = absurd (none-some number same)

      by : (x : Option Name) → map.get names text ≡ x → freed_in x slot ≡ Some number → IsNumbering (left_in x names text slot) after
      by None e same = absurd (none-some number same)
      by (Some name) e same = by_len name e (map.len (map.remove name.slots slot) == 0) same

  pub kept_numbering : (slot : ℕ) → freed names text slot ≡ None → IsNumbering (without_use names text slot) keys
  kept_numbering slot free = by (map.get names text) refl free
    where
      by_len : (name : Name) → map.get names text ≡ Some name → (b : Bool) → cond b (Some name.number) None ≡ None
          → IsNumbering (cond b (map.remove names text) (map.insert names text (without_slot name slot))) keys
      by_len name e true same = absurd (none-some name.number (sym same))
      by_len name e false same =
          same_numbering names (map.insert names text (without_slot name slot)) keys
          (same_numbers names text name (without_slot name slot) e refl) is

      by : (x : Option Name) → map.get names text ≡ x → freed_in x slot ≡ None → IsNumbering (left_in x names text slot) keys
      by None e same = is
      by (Some name) e same = by_len name e (map.len (map.remove name.slots slot) == 0) same
