-- The edits that lead a site to another put and move no page to a path of a medium, where the other has no name there.
use Rattle.std.proofs.Common.{◌≡◌, ℕ, List, [], ◌∷◌, ◌++◌, Bool, true, false, cond, ◌||◌, is_some, refl, ap, sym, ◌∙◌}
use Rattle.std.specs.Prelude.{⊤, None}
use Rattle.std.specs.FinMap as map
use Rattle.std.specs.List.{flat_map}
use Rattle.doc_page_parts.proofs.Bools.{clash}
use Rattle.doc_store_readers.proofs.KeySteps.{same_key, same_from}
use Rattle.doc_store.specs.Names.{aliases_of}
use Rattle.doc_store_readers.specs.Pages.{Page}
use Rattle.doc_store_readers.specs.Sites.{Site}
use Rattle.doc_store.specs.Store.{set_page}
use Rattle.doc_store.specs.declared.site_edit.SiteEdit.{SiteEdit}
use Rattle.doc_store.specs.declared.site_edit.SiteEdit.TheVariants as site_edits
use Rattle.doc_media.specs.Media.{Media}
use Rattle.doc_hub.specs.Worlds.{IsApart, has_medium}
use Rattle.doc_server_script.specs.Compactions.{made, made_along, moves, other_pages}
use Rattle.doc_server_script.proofs.CompactionLaw.{alias_is_in, others_stand}
use Rattle.doc_server_script.proofs.MadeSteps.{first_is_in, is_in, is_in_with_last, later_is_in, leads}
use Rattle.doc_server_script.proofs.Without.{AreEntries, Entries, removals}
use Rattle.doc_server_reload.specs.Leads.{gone_pages, led, led_page, stands_so}

module _ (media : Media) where
  -- no medium stands where an edit brings a page
  abbrev pub Beside : SiteEdit → Type 0
  Beside (site_edits.Put path groups text) = has_medium media path ≡ false
  Beside (site_edits.Remove path) = ⊤
  Beside (site_edits.Move from to) = has_medium media to ≡ false

  abbrev pub AllBeside : List SiteEdit → Type 0
  AllBeside [] = ⊤
  AllBeside (edit ∷ edits) = Beside edit × AllBeside edits

  joined : (edits more : List SiteEdit) → AllBeside edits → AllBeside more → AllBeside (edits ++ more)
  joined [] more are rest = rest
  joined (edit ∷ edits) more are rest = (are.0, joined edits more are.1 rest)

  removals_beside : (entries : Entries) → AllBeside (removals entries)
  removals_beside [] = tt
  removals_beside (entry ∷ entries) = (tt, removals_beside entries)

  -- no medium stands under these names
  abbrev AreFree : List (List ℕ) → Type 0
  AreFree names = (q : List ℕ) → is_in q names ≡ true → has_medium media q ≡ false

  moves_beside : (from : List ℕ) (names : List (List ℕ)) → AreFree names → AllBeside (moves from names)
  moves_beside from [] free = tt
  moves_beside from (to ∷ names) free =
      (free to (first_is_in to names), moves_beside to names (λ q e. free q (later_is_in q to names e)))

  along_beside : (page : Page) (names : List (List ℕ)) → AreFree names → AllBeside (made_along page names)
  along_beside page [] free = tt
  along_beside page (first ∷ names) free =
      (free first (first_is_in first names), moves_beside first names (λ q e. free q (later_is_in q first names e)))

  module _ (old new : Site) (apart : IsApart new media) where
    page_free : (path : List ℕ) → map.contains_key new.pages path ≡ true → has_medium media path ≡ false
    page_free path stands = by (has_medium media path) refl
      where
        by : (b : Bool) → has_medium media path ≡ b → b ≡ false
        by true e = absurd (clash (map.contains_key new.pages path) stands (apart.pages path e))
        by false e = refl

    alias_free : (path : List ℕ) → map.contains_key new.aliases path ≡ true → has_medium media path ≡ false
    alias_free path stands = by (has_medium media path) refl
      where
        by : (b : Bool) → has_medium media path ≡ b → b ≡ false
        by true e = absurd (clash (map.contains_key new.aliases path) stands (apart.aliases path e))
        by false e = refl

    names_free : (path : List ℕ) → map.contains_key new.pages path ≡ true → AreFree (aliases_of new.aliases path ++ path ∷ [])
    names_free path stands q e =
        by (is_in q (aliases_of new.aliases path)) refl (sym (is_in_with_last q path (aliases_of new.aliases path)) ∙ e)
      where
        by : (b : Bool) → is_in q (aliases_of new.aliases path) ≡ b → (b || same_key q path) ≡ true → has_medium media q ≡ false
        by true there e =
            alias_free q (ap is_some (leads path (map.get new.aliases q) (sym (alias_is_in new.aliases path q) ∙ there)))
        by false there e = page_free q (ap (map.contains_key new.pages) (same_from q path e) ∙ stands)

    page_beside : (entry : List ℕ × Page) → map.contains_key new.pages entry.0 ≡ true → AllBeside (led_page old new entry)
    page_beside entry stands = by (stands_so old new entry.0)
      where
        by : (b : Bool) → AllBeside (cond b (set_page entry.0 entry.1 ∷ []) (made new entry))
        by true = (page_free entry.0 stands, tt)
        by false = along_beside entry.1 (aliases_of new.aliases entry.0 ++ entry.0 ∷ []) (names_free entry.0 stands)

    pages_beside : (entries : Entries) → AreEntries new.pages entries → AllBeside (flat_map (led_page old new) entries)
    pages_beside [] are = tt
    pages_beside (entry ∷ entries) are =
        joined (led_page old new entry) (flat_map (led_page old new) entries) (page_beside entry (ap is_some are.0))
        (pages_beside entries are.2)

    pub led_beside : AllBeside (led old new)
    unfolding led
    led_beside =
        joined (removals (gone_pages old new)) (flat_map (led_page old new) (other_pages old new new.pages))
        (removals_beside (gone_pages old new)) (pages_beside (other_pages old new new.pages) (others_stand old new new.pages))

-- beside no media all sites are
pub apart_from_none : (site : Site) → IsApart site None
apart_from_none site = record { pages = λ path e. absurd (clash false e refl); aliases = λ path e. absurd (clash false e refl) }
