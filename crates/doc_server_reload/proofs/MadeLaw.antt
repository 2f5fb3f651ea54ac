-- A store refuses none of the edits that lead its site to another.
use Rattle.std.proofs.Common.{◌≡◌, ℕ, ◌+◌, ◌≤◌, ◌<◌, List, [], ◌∷◌, Bool, true, false, not, ◌&&◌, ◌||◌, length, refl, ap, sym, subst}
use Rattle.std.proofs.Common.{◌∙◌, add-one, nat_lt, nat_le, arith}
use Rattle.std.proofs.lemmas.Bool.Decides.{nat_tests}
use Rattle.std.specs.Prelude.{Option, Some, None, option_map, Ok, Err, if◌then◌else◌}
use Rattle.std.specs.FinMap as map
use Rattle.doc_store_readers.specs.Pages.{Page}
use Rattle.doc_store.specs.declared.moving.MoveError.TheVariants as move_errors
use Rattle.doc_store.specs.declared.store.EditError.TheVariants.{Taken, TooLong, StoreFull}
use Rattle.doc_store.proofs.StoreSteps.{taken_out}
use Rattle.doc_store.specs.Store.{StoreState, aliases_after, effect_of, fits, fits_in, move_fits, moved_by, put_by, with_move, with_page}
use Rattle.doc_store.specs.Store.{alias_limit, page_limit, put_limit, text_limit}
use Rattle.doc_store.specs.declared.site_edit.SiteEdit.{SiteEdit}
use Rattle.doc_store.specs.declared.site_edit.SiteEdit.TheVariants as site_edits
use Rattle.doc_media.specs.Media.{Media}
use Rattle.doc_hub.specs.Worlds.{has_medium}
use Rattle.doc_server_script.specs.Compactions.{effects}
use Rattle.doc_server_script.specs.Replays.{unless_refused}
use Rattle.doc_server_restore.specs.Restores.{all_made, made, unstamped}
use Rattle.doc_server_reload.specs.Laws.{LedIsMade, LedIsMadeBeside}
use Rattle.doc_server_reload.specs.Leads.{led}
use Rattle.doc_server_reload.proofs.BesideMedia.{AllBeside, Beside, apart_from_none, led_beside}
use Rattle.doc_server_reload.proofs.Fits.{AllFit, Fits, led_fits}
use Rattle.doc_server_reload.proofs.LeadLaw.{led_gives_the_site}

-- ---- one edit that fits

no_more : (a most : ℕ) → a ≤ most → nat_lt most a ≡ false
no_more a most le = grind (arith, nat_tests)

still_below : (a most : ℕ) → a < most → nat_le most a ≡ false
still_below a most less = grind (arith, nat_tests)

put_is_fit : (pages puts : ℕ) (stands : Bool) (text : List ℕ) → length text ≤ text_limit → (not stands && nat_le page_limit pages) ≡ false
    → puts < put_limit → fits pages stands puts text ≡ Ok tt
put_is_fit pages puts stands text short room left =
    let fine = no_more (length text) text_limit short in
    let unused = still_below puts put_limit left in
    λ i. if fine i then Err TooLong else (if room i || unused i then Err StoreFull else Ok tt)

move_is_fit : (stands taken : Bool) (aliases puts : ℕ) → stands ≡ true → taken ≡ false → aliases ≤ alias_limit → puts < put_limit
    → move_fits stands taken aliases puts ≡ Ok tt
move_is_fit stands taken aliases puts there free room left =
    let few = no_more aliases alias_limit room in
    let unused = still_below puts put_limit left in
    λ i. if not (there i) then Err move_errors.NoPage
    else (if free i then Err move_errors.Taken else (if few i || unused i then Err move_errors.StoreFull else Ok tt))

one_stamp : (n : ℕ) → n + 1 ≤ n + 1
one_stamp n = omega arith

no_stamp : (n : ℕ) → n ≤ n + 1
no_stamp n = omega arith

some_left : (puts more most : ℕ) → puts + (more + 1) ≤ most → puts < most
some_left puts more most room = omega (arith, room)

less_left : (puts next more most : ℕ) → next ≤ puts + 1 → puts + (more + 1) ≤ most → next + more ≤ most
less_left puts next more most step room = omega (arith, step, room)

module _ (media : Media) where
  -- an edit is made, has its effect and takes a stamp at most
  abbrev IsMade : StoreState → SiteEdit → Type 0
  IsMade store edit = (next : StoreState) × (made media store edit ≡ Some next) × (next.site ≡ effect_of store.site edit)
      × (next.puts ≤ store.puts + 1)

  is_made : (store : StoreState) (edit : SiteEdit) → Fits store.site edit → Beside media edit → store.puts < put_limit → IsMade store edit
  is_made store (site_edits.Put path groups text) fit beside left =
      let page : Page = record { groups = groups; text = text } in
      let stands = map.contains_key store.site.pages path in (
        unstamped (with_page store path page),
        ap (λ said. option_map unstamped (unless_refused (put_by store path page stands said).0 (put_by store path page stands said).1))
            (ap (λ b. if b then Err Taken else fits_in store path text) beside
            ∙ put_is_fit (map.len store.site.pages) store.puts stands text fit.0 fit.1 left),
        refl,
        one_stamp store.puts,
      )
  is_made store (site_edits.Remove path) stands beside left = (
    unstamped (taken_out store path),
    ap (λ b. Some (unstamped (if b then taken_out store path else store))) stands,
    refl,
    no_stamp store.puts,
  )
  is_made store (site_edits.Move from to) fit beside left = (
    unstamped (with_move store from to),
    ap (λ said. option_map unstamped (unless_refused (moved_by store from to said).0 (moved_by store from to said).1))
        (move_is_fit (map.contains_key store.site.pages from) (map.contains_key store.site.pages to || has_medium media to)
        (map.len (aliases_after store.site.aliases from to)) store.puts fit.0
        (ap (λ b. b || has_medium media to) fit.1 ∙ beside) fit.2 left),
    refl,
    one_stamp store.puts,
  )

  -- ---- edits one after the other

  abbrev behind : List SiteEdit → Option StoreState → Option StoreState
  behind edits None = None
  behind edits (Some next) = all_made media next edits

  as_behind : (edits : List SiteEdit) (mid : Option StoreState)
      → ◌≡◌ {A = Option StoreState} (elim mid [ None ↦ None | Some next ↦ all_made media next edits ]) (behind edits mid)
  as_behind edits None = refl
  as_behind edits (Some next) = refl

  abbrev AreMade : StoreState → List SiteEdit → Type 0
  AreMade store edits = (after : StoreState) × (all_made media store edits ≡ Some after) × (after.site ≡ effects store.site edits)

  are_made : (store : StoreState) (edits : List SiteEdit) → AllFit store.site edits → AllBeside media edits
      → store.puts + length edits ≤ put_limit
      → AreMade store edits
  are_made store [] fit beside room = (store, refl, refl)
  are_made store (edit ∷ edits) fit beside room =
      let count = subst (λ n. store.puts + n ≤ put_limit) (sym (add-one (length edits))) room in
      let one = is_made store edit fit.0 beside.0 (some_left store.puts (length edits) put_limit count) in
      let next = one.0 in
      let more = are_made next edits (subst (λ site. AllFit site edits) (sym one.2) fit.1) beside.1
      (less_left store.puts next.puts (length edits) put_limit one.3 count) in (
        more.0,
        as_behind edits (made media store edit) ∙ (ap (behind edits) one.1 ∙ more.1),
        more.2 ∙ ap (λ site. effects site edits) one.2,
      )

pub led_is_made_beside : LedIsMadeBeside
led_is_made_beside media store new is_old is_new apart room =
    let fit = led_fits store.site new is_new room.pages room.aliases room.texts is_old in
    let all = are_made media (unstamped store) (led store.site new) fit (led_beside media store.site new apart) room.puts in
    (all.0, all.1, all.2 ∙ led_gives_the_site store.site new is_old is_new)

pub led_is_made : LedIsMade
led_is_made store new is_old is_new room = led_is_made_beside None store new is_old is_new (apart_from_none new) room
