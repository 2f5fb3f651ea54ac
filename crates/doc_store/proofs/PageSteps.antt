-- Steps of the moves of pages.
use Rattle.std.proofs.Common.{◌≡◌, ℕ, List, Bool, true, false, cond, IsTrue, is_some, refl, ap, sym, subst, ◌∙◌}
use Rattle.std.specs.Prelude.{Option, Some, None}
use Rattle.std.specs.FinMap as map
use Rattle.std.proofs.lemmas.Cmp.{nat_list_cmp_total}
use Rattle.std.proofs.lemmas.Map.Lookups.{exact_bytes}
use Rattle.doc_page_parts.proofs.Bools.{clash}
use Rattle.doc_store_readers.proofs.KeySteps.{same_key, same_from, same_itself, get_set, get_taken, contains_set, contains_taken}
use Rattle.doc_store_readers.specs.Maps.{TextMap}
use Rattle.doc_store_pages.specs.MoveSteps.{restamped, with_stamped, with_stamped_at}
use Rattle.doc_store_readers.specs.Pages.{StampedPage}

pub is_true : (b : Bool) → b ≡ true → IsTrue b
is_true true e = cc
is_true false e = cc

not_both : {A : Type 0} (o : Option A) → IsTrue (is_some o) → o ≡ None → ⊥
not_both None t e = cc
not_both (Some x) t e = cc

module _ {X : Type 0} (pages : TextMap X) (from to : List ℕ) (stands : IsTrue (map.contains_key pages from))
    (free : map.get pages to ≡ None) where
  pub paths_apart : same_key from to ≡ false
  paths_apart = by (same_key from to) refl
    where
      by : (b : Bool) → same_key from to ≡ b → b ≡ false
      by true e = absurd (not_both (map.get pages from) stands (ap (map.get pages) (same_from from to e) ∙ free))
      by false e = refl

  pub paths_differ : from ≡ to → ⊥
  paths_differ e = clash (same_key from to) (ap (same_key from) (sym e) ∙ same_itself from) paths_apart

module _ (pages : TextMap StampedPage) (from to : List ℕ) (stamp : ℕ) (stands : IsTrue (map.contains_key pages from))
    (free : map.get pages to ≡ None)
    (path : List ℕ) (one : StampedPage) (path_is : path ≡ to) (with_one without : TextMap StampedPage)
    (put : with_one ≡ map.insert pages path one) (taken : without ≡ map.remove with_one from) where
  put_at : with_one ≡ map.insert pages to one
  put_at = put ∙ ap (λ p. map.insert pages p one) path_is

  still_found : map.get with_one from ≡ map.get pages from
  still_found = ap (λ m. map.get m from) put_at ∙ get_set pages to one from
      ∙ ap (λ b. cond b (Some one) (map.get pages from)) (paths_apart pages from to stands free)

  pub page_is_there : None ≡ map.get with_one from → ⊥
  page_is_there none = not_both (map.get pages from) stands (sym still_found ∙ sym none)

  to_is_other : (b : Bool) → same_key to from ≡ b → b ≡ false
  to_is_other true e = sym (same_itself from) ∙ ap (same_key from) (sym (same_from to from e)) ∙ paths_apart pages from to stands free
  to_is_other false e = refl

  pub room_is_there : IsTrue (map.contains_key without to)
  room_is_there = is_true (map.contains_key without to) (
      ap (λ m. map.contains_key m to) taken
      ∙ contains_taken with_one from to
      ∙ ap (λ b. cond b false (map.contains_key with_one to)) (to_is_other (same_key to from) refl)
      ∙ ap (λ m. map.contains_key m to) put_at
      ∙ contains_set pages to one to
      ∙ ap (λ b. cond b true (map.contains_key pages to)) (same_itself to))

  pub page_renamed : (page stamped : StampedPage) (new : TextMap StampedPage) → Some page ≡ map.get with_one from
      → stamped ≡ restamped stamp page → new ≡ map.insert without to stamped → new ≡ with_stamped pages from to stamp
  page_renamed page stamped new found is set =
      set ∙ (λ i. map.insert (taken i) to (is i))
      ∙ map.same_map nat_list_cmp_total exact_bytes _ _ (λ q.
      get_set (map.remove with_one from) to (restamped stamp page) q
      ∙ ap (cond (same_key q to) (Some (restamped stamp page))) (get_taken with_one from q
      ∙ ap (cond (same_key q from) None) (ap (λ m. map.get m q) put_at ∙ get_set pages to one q))
      ∙ by (same_key q to) (same_key q from) (map.get pages q)
      ∙ sym (get_set (map.remove pages from) to (restamped stamp page) q
      ∙ ap (cond (same_key q to) (Some (restamped stamp page))) (get_taken pages from q)))
      ∙ ap (with_stamped_at pages from to stamp) (found ∙ still_found)
    where
      by : (t f : Bool) (there : Option StampedPage) → cond t (Some (restamped stamp page)) (cond f None (cond t (Some one) there))
          ≡ cond t (Some (restamped stamp page)) (cond f None there)
      by true f there = refl
      by false f there = refl

  pub stands_beside : IsTrue (map.contains_key with_one from)
  stands_beside = subst (λ o. IsTrue (is_some o)) (sym still_found) stands

  -- the page is taken into the room that was made for it
  pub renamed_in_room : (new : TextMap StampedPage) → new ≡ with_stamped with_one from to stamp → new ≡ with_stamped pages from to stamp
  renamed_in_room new is = by (map.get with_one from) refl
    where
      by : (o : Option StampedPage) → map.get with_one from ≡ o → new ≡ with_stamped pages from to stamp
      by None e = absurd (page_is_there (sym e))
      by (Some page) e = page_renamed page (restamped stamp page) new (sym e) refl
          (is ∙ ap (with_stamped_at with_one from to stamp) e ∙ (λ i. map.insert (sym taken i) to (restamped stamp page)))

-- the room is taken back
pub room_undone : {X : Type 0} (pages : TextMap X) (path : List ℕ) (one : X) → map.get pages path ≡ None
    → map.remove (map.insert pages path one) path ≡ pages
room_undone {X = X} pages path one free = map.same_map nat_list_cmp_total exact_bytes _ _ (λ q.
    get_taken (map.insert pages path one) path q
    ∙ ap (cond (same_key q path) None) (get_set pages path one q)
    ∙ by q (same_key q path) refl)
  where
    by : (q : List ℕ) (b : Bool) → same_key q path ≡ b → cond b None (cond b (Some one) (map.get pages q)) ≡ map.get pages q
    by q true e = sym (ap (map.get pages) (same_from q path e) ∙ free)
    by q false e = refl
