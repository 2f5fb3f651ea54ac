-- The slots of pages that are held under paths and stamps.
use Rattle.std.proofs.Common.{◌≡◌, ℕ, List, [], ◌∷◌, ◌++◌, false, true, append-nil, is_some, refl, ap, sym, subst, ◌∙◌}
use Rattle.std.specs.Prelude.{Option, Some, None, IsTrue, option_map}
use Rattle.std.specs.FinMap as map
use Rattle.doc_index.specs.Held.{AreApart, Known, held, slot_at}
use Rattle.doc_index.specs.declared.held.Held.{Held}
use Rattle.doc_index.proofs.HeldSteps.{held_as}
use Rattle.doc_index_tables.specs.Maps.{PairMap}
use Rattle.doc_links_pages.specs.declared.answers.Broken.{Broken}
use Rattle.doc_links_pages.specs.declared.page_links.PageLinks.{PageLinks}
use Rattle.doc_links_seen.proofs.FlagSteps.{one_slot}
use Rattle.doc_links_seen.specs.SeenSteps.{page_in, pages_at}
use Rattle.doc_links_seen.specs.Tellers.{AreToldOf}
use Rattle.doc_links.specs.IndexSteps.{linked_at, ones, without_counts}
use Rattle.doc_links.proofs.HeldSteps.{got, has_key}

none_of : {X : Type 0} (x : Option X) → false ≡ is_some x → x ≡ None
none_of None e = refl
none_of (Some x) e = cc

module _ (slots : List (Option (Held PageLinks))) (path : List ℕ) (stamp : ℕ) where
  -- what is known of a path by what is held there
  abbrev linked_by : Option PageLinks → List (List ℕ × PageLinks)
  linked_by known = ones (option_map (λ page. (path, page)) known)

  pub nothing_at : (some : List (List ℕ × PageLinks)) → false ≡ map.contains_key (held slots) (path, stamp)
      → some ≡ some ++ linked_at (without_counts slots) (path, stamp)
  nothing_at some none =
      sym (append-nil some)
      ∙ ap (λ known. some ++ linked_by known)
      (sym (none_of (map.get (without_counts slots) (path, stamp)) (none ∙ has_key slots (path, stamp))))

  pub one_at : AreApart slots → (all after : List ℕ) (slot : ℕ) (page : Held PageLinks) → slot_at slots slot ≡ Some page
      → page.path ≡ path → page.stamp ≡ stamp → after ≡ all ++ slot ∷ []
      → pages_at slots after ≡ pages_at slots all ++ linked_at (without_counts slots) (path, stamp)
  one_at apart all after slot page at path_is stamp_is made =
      ap (pages_at slots) made ∙ one_slot slots all slot
      ∙ ap (λ p. pages_at slots all ++ page_in p) at
      ∙ ap (λ p. pages_at slots all ++ (p, page.value) ∷ []) path_is
      ∙ sym (ap (λ known. pages_at slots all ++ linked_by known)
      (got slots (path, stamp)
      ∙ ap (option_map (λ (known : Known PageLinks). known.value))
      (held_as slots apart (path, stamp) slot page at (λ j. (path_is j, stamp_is j)))))

-- what is told of pages that are held is told of what is known of them
pub told_of_held : (slots : List (Option (Held PageLinks))) (known : PairMap PageLinks) → without_counts slots ≡ known
    → (told : List ℕ → ℕ → List Broken) (behind : List ℕ → List Broken) → AreToldOf told behind known → AreToldOf told behind (held slots)
told_of_held slots known view told behind are path stamp there =
    are path stamp (subst IsTrue (has_key slots (path, stamp) ∙ ap (λ m. map.contains_key m (path, stamp)) view) there)
