-- Renderings that are held, by what the index of them holds.
use Rattle.std.proofs.Common.{◌≡◌, ℕ, List, [], is_some, refl, ap, ap₂, sym, ◌∙◌}
use Rattle.std.specs.Prelude.{Option, Some, None, option_map, Result, OnOk}
use Rattle.std.specs.FinMap as map
use Rattle.doc_index.specs.Held.{Known, held, known_as}
use Rattle.doc_index_tables.specs.Maps.{PairMap, TextMap}
use Rattle.doc_index.specs.declared.held.Held.{Held}
use Rattle.doc_index_tables.proofs.PairSteps.{pairs_exact, pairs_total}
use Rattle.doc_index_tables.proofs.TableSteps.{on_ok}
use Rattle.doc_page_parts.specs.declared.rendered.Rendered.{Rendered}
use Rattle.doc_links.specs.IndexSteps.{with_values}
use Rattle.doc_links.proofs.MapSteps.{empty_with, get_with, insert_with, remove_with}
use Rattle.doc_shelf_pages.specs.RenderingSteps.{renderings_in}
use Rattle.doc_shelf_pages.specs.declared.lined.Lined.{Lined}

abbrev value_of : Known Lined → Rendered
value_of page = page.value.page

module _ (slots : List (Option (Held Lined))) where
  pub got : (k : List ℕ × ℕ) → map.get (renderings_in slots) k ≡ option_map value_of (map.get (held slots) k)
  got k = get_with pairs_total pairs_exact value_of (held slots) k

  pub got_page : (k : List ℕ × ℕ) (found : Option Lined) → found ≡ option_map (λ (page : Known Lined). page.value) (map.get (held slots) k)
      → option_map (λ (it : Lined). it.page) found ≡ map.get (renderings_in slots) k
  got_page k found is = ap (option_map (λ (it : Lined). it.page)) is ∙ by (map.get (held slots) k) ∙ sym (got k)
    where
      by : (x : Option (Known Lined)) → option_map (λ (it : Lined). it.page) (option_map (λ (page : Known Lined). page.value) x)
          ≡ option_map value_of x
      by None = refl
      by (Some x) = refl

  pub has_key : (k : List ℕ × ℕ) → map.contains_key (held slots) k ≡ map.contains_key (renderings_in slots) k
  has_key k = by (map.get (held slots) k) ∙ ap is_some (sym (got k))
    where
      by : (x : Option (Known Lined)) → is_some x ≡ is_some (option_map value_of x)
      by None = refl
      by (Some x) = refl

  -- a path and a stamp that none has here, none has
  pub free : (k : List ℕ × ℕ) → map.get (renderings_in slots) k ≡ None → map.get (held slots) k ≡ None
  free k none = by (map.get (held slots) k) (sym (got k) ∙ none)
    where
      by : (x : Option (Known Lined)) → option_map value_of x ≡ None → x ≡ None
      by None e = refl
      by (Some x) e = cc

  pub removed : (new : List (Option (Held Lined))) (k : List ℕ × ℕ) → held new ≡ map.remove (held slots) k
      → renderings_in new ≡ map.remove (renderings_in slots) k
  removed new k is = ap (with_values value_of) is ∙ remove_with pairs_total pairs_exact value_of (held slots) k

  pub added : {E : Type 0} {other : Rendered} {old : PairMap Rendered} (page : Lined) (counts : TextMap ℕ)
      (new : List (Option (Held Lined))) (k : List ℕ × ℕ) (r : Result (Unit {0}) E) → renderings_in slots ≡ old → page.page ≡ other
      → OnOk r (held new ≡ map.insert (held slots) k (known_as page counts)) → OnOk r (renderings_in new ≡ map.insert old k other)
  added page counts new k r before same is =
      on_ok r (λ e.
      ap (with_values value_of) e ∙ insert_with pairs_total pairs_exact value_of (held slots) k (known_as page counts)
      ∙ ap₂ (λ m p. map.insert m k p) before same) is

pub nothing : renderings_in [] ≡ map.empty
nothing = empty_with pairs_total pairs_exact value_of
