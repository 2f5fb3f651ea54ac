-- What the records of a journal make of a site. All of this is this project's choice.
use Rattle.std.specs.Prelude.{◌≡◌, ℕ, ◌+◌, List, [], ◌∷◌, ◌++◌, Option, Some, None, option_map, option_and_then, Result, Ok, Err}
use Rattle.std.specs.Prelude.{if◌then◌else◌}
use Rattle.std.specs.FinMap as map
use Rattle.std.specs.Option.{ok_or}
use Rattle.std.specs.Result.{result_ok}
use Rattle.std.specs.Str.{is_utf8}
use Rattle.doc_store_readers.specs.Sites.{Site}
use Rattle.doc_store.specs.Store.{StoreState, effect_of, without_page}
use Rattle.doc_store.specs.declared.site_edit.SiteEdit.{SiteEdit}
use Rattle.doc_store.specs.declared.site_edit.SiteEdit.TheVariants as site_edits
use Rattle.doc_media.specs.Media.{Media}
use Rattle.doc_hub.specs.Worlds.{moved_beside, put_beside}
use Rattle.doc_hub_events.specs.declared.event.Event.{Event}
use Rattle.doc_hub_events.specs.declared.event.Event.TheVariants as events
use Rattle.doc_server_script.specs.Scripts.{events_of}
use Rattle.doc_server_script.specs.Replays.{unless_refused}
use Rattle.doc_server_restore.specs.declared.fault.RestoreFault.{RestoreFault}
use Rattle.doc_server_restore.specs.declared.fault.RestoreFault.TheVariants as faults

-- ---- what a record says

-- the edit of pages that an event is
abbrev pub edit_in : Event → Option SiteEdit
edit_in (events.Site edit) = Some edit
edit_in event = None

-- an edit in front of others, where there are both
abbrev pub in_front : Option SiteEdit → Option (List SiteEdit) → Option (List SiteEdit)
in_front None edits = None
in_front (Some edit) None = None
in_front (Some edit) (Some edits) = Some (edit ∷ edits)

-- the edits that some events are, where each is one
abbrev pub edits_in : List Event → Option (List SiteEdit)
edits_in [] = Some []
edits_in (event ∷ events) = in_front (edit_in event) (edits_in events)

-- the edits of a record: a text in UTF-8, each of whose lines is an edit
abbrev pub edits_of : List ℕ → Option (List SiteEdit)
edits_of text = if is_utf8 text then option_and_then edits_in (result_ok (events_of text)) else None

-- some edits in front of others, where there are both
abbrev pub all_in_front : Option (List SiteEdit) → Option (List SiteEdit) → Option (List SiteEdit)
all_in_front None more = None
all_in_front (Some edits) None = None
all_in_front (Some edits) (Some more) = Some (edits ++ more)

-- the edits of all records
abbrev pub edits_of_all : List (List ℕ) → Option (List SiteEdit)
edits_of_all [] = Some []
edits_of_all (text ∷ texts) = all_in_front (edits_of text) (edits_of_all texts)

-- ---- what becomes of a site

-- a store of which no stamps are known, since they decide nothing
abbrev pub unstamped : StoreState → StoreState
unstamped store = record { site = store.site; stamps = map.empty; puts = store.puts }

-- the store after an edit beside media, unless it is refused: a removal is done also where no page stands
abbrev pub made : Media → StoreState → SiteEdit → Option StoreState
made media store (site_edits.Put path groups text) =
    option_map unstamped (unless_refused (put_beside media store path groups text).0 (put_beside media store path groups text).1)
made media store (site_edits.Remove path) = Some (unstamped (without_page store path))
made media store (site_edits.Move from to) =
    option_map unstamped (unless_refused (moved_beside media store from to).0 (moved_beside media store from to).1)

-- the store after some edits, unless one of them is refused
abbrev pub all_made : Media → StoreState → List SiteEdit → Option StoreState
all_made media store [] = Some store
all_made media store (edit ∷ edits) = elim (made media store edit) [ None ↦ None | Some next ↦ all_made media next edits ]

-- the number of the first of some edits that isn't made, where the first of them has the number n; where each is made, that behind the last
abbrev pub refused_from : Media → ℕ → StoreState → List SiteEdit → ℕ
refused_from media n store [] = n
refused_from media n store (edit ∷ edits) =
    elim (made media store edit) [ None ↦ n | Some next ↦ refused_from media (n + 1) next edits ]

-- the store after the record of number n, or why it isn't restored: its lines, each of which is an edit, are counted from 1
abbrev pub after_record : Media → StoreState → ℕ → Option (List SiteEdit) → Result StoreState RestoreFault
after_record media store n None = Err (faults.BadRecord n)
after_record media store n (Some edits) = ok_or (all_made media store edits) (faults.Refused n (refused_from media 1 store edits))

-- the same of more records, the first of which has the number n
abbrev pub restored_from : Media → ℕ → StoreState → List (List ℕ) → Result StoreState RestoreFault
restored_from media n store [] = Ok store
restored_from media n store (text ∷ texts) = elim (after_record media store n (edits_of text)) [
  | Err fault ↦ Err fault
  | Ok next ↦ restored_from media (n + 1) next texts
]

-- a store beside media after all records, counted from 1, or why one of them isn't restored
abbrev pub restored : Media → StoreState → List (List ℕ) → Result StoreState RestoreFault
restored media store texts = restored_from media 1 store texts

-- what an edit that is made makes of a site: a removal where no page stands makes nothing
abbrev pub effect_made : Site → SiteEdit → Site
effect_made site (site_edits.Put path groups text) = effect_of site (site_edits.Put path groups text)
effect_made site (site_edits.Remove path) =
    if map.contains_key site.pages path then effect_of site (site_edits.Remove path) else site
effect_made site (site_edits.Move from to) = effect_of site (site_edits.Move from to)

-- the same of some edits, one after the other
abbrev pub effects_made : Site → List SiteEdit → Site
effects_made site [] = site
effects_made site (edit ∷ edits) = effects_made (effect_made site edit) edits

-- the site after the records is what their edits make of the site before, one after the other
pub record HaveEffect (texts : List (List ℕ)) (old new : StoreState) : Type 0 where
  pub edits : List SiteEdit
  pub said : edits_of_all texts ≡ Some edits
  pub site : new.site ≡ effects_made old.site edits
