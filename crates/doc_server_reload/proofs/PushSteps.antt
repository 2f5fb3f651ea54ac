-- Edits that are added to a list, one after the other.
use Rattle.std.proofs.Common.{◌≡◌, ℕ, Bool, true, false, List, [], ◌∷◌, ◌++◌, length, cond, not, refl, ap, sym, ◌∙◌, drop, get_or, is_some}
use Rattle.std.specs.Prelude.{◌<◌, ◌+◌}
use Rattle.std.specs.Borrow.{Bor}
use Rattle.std.specs.Cmp.Lexicographic.{slice_cmp}
use Rattle.std.specs.FinMap as map
use Rattle.std.specs.FinMap.Entries.{is_some-find}
use Rattle.std.specs.List.{filter, flat_map}
use Rattle.std.specs.Ordering.{nat_cmp}
use Rattle.std.proofs.lemmas.List.{append_assoc, append-nil, drop_more}
use Rattle.doc_store_readers.specs.Groups.{texts_of}
use Rattle.doc_store_readers.specs.Maps.{TextMap}
use Rattle.doc_store_readers.specs.Pages.{Page}
use Rattle.doc_store_readers.specs.Sites.{Site}
use Rattle.doc_store.specs.Store.{remove_page, move_page}
use Rattle.doc_store.specs.declared.site_edit.SiteEdit.{SiteEdit}
use Rattle.doc_server_script.specs.Compactions.{moves, same_at}
use Rattle.doc_server_script.proofs.MadeSteps.{first_is_in, is_in, later_is_in}
use Rattle.doc_server_script.proofs.Without.{Entries, paths, removals}
use Rattle.doc_server_reload.specs.LeadSteps.{unless}
use Rattle.doc_server_reload.specs.Leads.{led_page, stands_so}

-- ---- what is added

pub goes_on : (start now next all left more rest : List SiteEdit) → start ++ all ≡ now ++ left → next ≡ now ++ more → left ≡ more ++ rest
    → start ++ all ≡ next ++ rest
goes_on start now next all left more rest is step split =
    is ∙ (ap (λ l. now ++ l) split ∙ (sym (append_assoc now more rest) ∙ ap (λ n. n ++ rest) (sym step)))

pub has_all : (start now all left : List SiteEdit) → start ++ all ≡ now ++ left → left ≡ [] → now ≡ start ++ all
has_all start now all left is none = sym (is ∙ (ap (λ l. now ++ l) none ∙ append-nil now))

-- ---- names one after the other

pub next_move : (last : List ℕ) (names : List (Bor (List ℕ))) (i : ℕ) (name : Bor (List ℕ)) → i < length names → name ≡ get_or names i name
    → moves last (texts_of (drop i names)) ≡ (move_page last name.now ∷ []) ++ moves name.now (texts_of (drop (i + 1) names))
next_move last names i name within is =
    ap (λ left. moves last (texts_of left)) (drop_more names i name within ∙ ap (λ n. n ∷ drop (i + 1) names) (sym is))

-- ---- pages that stand

abbrev pub Stand : TextMap Page → Entries → Type 0
Stand pages entries = (q : List ℕ) → is_in q (paths entries) ≡ true → map.contains_key pages q ≡ true

pub all_stand : (pages : TextMap Page) → Stand pages (map.entries pages)
all_stand pages = λ q there. ap is_some (map.get-entries pages q) ∙ (is_some-find (slice_cmp nat_cmp) q (map.entries pages) ∙ there)

pub first_stands : (pages : TextMap Page) (entry : List ℕ × Page) (entries : Entries) → Stand pages (entry ∷ entries)
    → map.contains_key pages entry.0 ≡ true
first_stands pages entry entries stand = stand entry.0 (first_is_in entry.0 (paths entries))

pub later_stand : (pages : TextMap Page) (entry : List ℕ × Page) (entries : Entries) → Stand pages (entry ∷ entries) → Stand pages entries
later_stand pages entry entries stand = λ q there. stand q (later_is_in q entry.0 (paths entries) there)

-- ---- pages one after the other

-- the removals of those of some pages that don't stand so in both sites
abbrev pub removals_left : Site → Site → Entries → List SiteEdit
removals_left old new entries = removals (filter (λ e. not (stands_so old new e.0)) entries)

pub removals_more : (old new : Site) (entry : List ℕ × Page) (entries : Entries)
    → removals_left old new (entry ∷ entries)
    ≡ unless (stands_so old new entry.0) (remove_page entry.0 ∷ []) ++ removals_left old new entries
removals_more old new entry entries = by (stands_so old new entry.0)
  where
    rest : Entries
    rest = filter (λ e. not (stands_so old new e.0)) entries

    by : (b : Bool) → removals (cond (not b) (entry ∷ rest) rest) ≡ cond b [] (remove_page entry.0 ∷ []) ++ removals rest
    by true = refl
    by false = refl

-- the edits of those of some pages that the two sites don't have alike
abbrev pub led_left : Site → Site → Entries → List SiteEdit
led_left old new entries = flat_map (led_page old new) (filter (λ e. not (same_at old new e.0)) entries)

pub led_more : (old new : Site) (entry : List ℕ × Page) (entries : Entries)
    → led_left old new (entry ∷ entries) ≡ unless (same_at old new entry.0) (led_page old new entry) ++ led_left old new entries
led_more old new entry entries = by (same_at old new entry.0)
  where
    rest : Entries
    rest = filter (λ e. not (same_at old new e.0)) entries

    by : (b : Bool) → flat_map (led_page old new) (cond (not b) (entry ∷ rest) rest)
        ≡ cond b [] (led_page old new entry) ++ flat_map (led_page old new) rest
    by true = refl
    by false = refl
