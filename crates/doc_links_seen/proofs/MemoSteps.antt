-- What is known of written paths: nothing at first, and then what was asked for.
use Rattle.std.proofs.Common.{◌≡◌, ℕ, List, Bool, true, false, cond, refl, ap, sym, ◌∙◌}
use Rattle.std.specs.Borrow.{Bor}
use Rattle.std.specs.Prelude.{Option, Some, None, Result, Ok, Err, OnOk, OnErr, bytes_eq, option_map}
use Rattle.std.specs.BTreeMap.{IsEmpty, IsUnchanged, Updates, is_at}
use Rattle.std.specs.Cmp.Lexicographic.{slice_cmp}
use Rattle.std.specs.Map.{lookup}
use Rattle.std.specs.Ordering.{nat_cmp}
use Rattle.std.proofs.lemmas.Map.Text.{btree_map_updates_str}
use Rattle.doc_page_parts.proofs.Texts.{bytes_eq_true}
use Rattle.doc_links_pages.specs.Links.{page_among}
use Rattle.doc_links_pages.specs.declared.page_links.PageLinks.{PageLinks}
use Rattle.doc_links_seen.specs.Memos.{IsMemo, known_of}
use Rattle.doc_links_seen.specs.SeenPages.{seen_page}
use Rattle.doc_links_seen.specs.SeenSteps.{IsInOrder}
use Rattle.doc_links_seen.specs.declared.memo.Memo.{Memo}
use Rattle.doc_links_seen.specs.declared.seen.SeenPage.{SeenPage}

-- what entries have at a path
abbrev at : List ℕ → List (Bor (List ℕ) × Option SeenPage) → Option (Option SeenPage)
at path entries = lookup (is_at (λ known. slice_cmp nat_cmp path known.now)) entries

module _ (goals : List ℕ → Option (List ℕ)) (pages : List (List ℕ × PageLinks)) where
  abbrev LeadsTo : List ℕ → Option SeenPage → Type 0
  LeadsTo path page = option_map seen_page page ≡ page_among goals pages path

  pub nothing_known : (memo : Memo) → IsEmpty memo.known → IsMemo goals pages memo
  unfolding IsMemo
  nothing_known memo empty = λ sorted path page is. absurd (no_value (ap (at path) (sym empty) ∙ is))
    where
      no_value : {page : Option SeenPage} → None ≡ Some page → ⊥
      no_value is = cc

  pub known : (memo : Memo) (path asked : List ℕ) (page : Option SeenPage) → IsMemo goals pages memo → IsInOrder pages
      → asked ≡ path → Some page ≡ known_of memo asked → LeadsTo path page
  unfolding IsMemo
  known memo path asked page right sorted same is = right sorted asked page (sym is) ∙ ap (page_among goals pages) same

  module _ (memo after : Memo) (right : IsMemo goals pages memo) where
    unchanged : IsUnchanged memo.known after.known → IsMemo goals pages after
    unfolding IsMemo
    unchanged same = λ sorted path page is. right sorted path page (ap (at path) (sym same) ∙ is)

    module _ (path : Bor (List ℕ)) (page : Option SeenPage) (leads : IsInOrder pages → LeadsTo path.now page) where
      put : Updates (λ x y. slice_cmp nat_cmp x.now y.now) memo.known after.known path (Some page) → IsMemo goals pages after
      unfolding IsMemo
      put updates = λ sorted other found is.
          by sorted other found (bytes_eq path.now other) refl
          (sym (btree_map_updates_str path.now memo.known after.known (Some page) updates other) ∙ is)
        where
          by : IsInOrder pages → (other : List ℕ) (found : Option SeenPage) (b : Bool) → bytes_eq path.now other ≡ b
              → cond b (Some page) (known_of memo other) ≡ Some found → LeadsTo other found
          by sorted other found true same is =
              let those : page ≡ found = cc in
              ap (option_map seen_page) (sym those) ∙ leads sorted ∙ ap (page_among goals pages) (bytes_eq_true path.now other same)
          by sorted other found false same is = right sorted other found is

      pub learned : {A B : Type 0} (put_in : Result A B)
          → OnOk put_in (Updates (λ x y. slice_cmp nat_cmp x.now y.now) memo.known after.known path (Some page))
          → OnErr put_in (IsUnchanged memo.known after.known) → IsMemo goals pages after
      learned (Ok a) updates same = put updates
      learned (Err e) updates same = unchanged same
