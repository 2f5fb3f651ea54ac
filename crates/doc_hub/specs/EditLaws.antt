-- The site of a hub is the effect of the accepted edits in their order, and of nothing else.
use Rattle.std.specs.Prelude.{◌≡◌, ℕ, List, [], ◌∷◌, Bool, true, false, MatchBool, Option, Some, None, option_map, ⊤}
use Rattle.std.specs.FinMap as map
use Rattle.doc_store_readers.specs.Sites.{Site}
use Rattle.doc_store_readers.specs.Pages.{Page}
use Rattle.doc_store.specs.Store.{move_page, set_page, remove_page, effect_of}
use Rattle.doc_store.specs.declared.site_edit.SiteEdit.{SiteEdit}
use Rattle.doc_http.specs.Requests.{IsNext}
use Rattle.doc_http.specs.declared.request.Next.{Next}
use Rattle.doc_http.specs.declared.request.Next.TheVariants as nexts
use Rattle.doc_hub.specs.declared.connection.Connection.{Connection}
use Rattle.doc_hub_events.specs.declared.event.ConnectionEvent.{ConnectionEvent}
use Rattle.doc_hub_events.specs.declared.event.ConnectionEvent.TheVariants as calls
use Rattle.doc_hub_events.specs.declared.event.Event.{Event}
use Rattle.doc_hub_events.specs.declared.event.Event.TheVariants as events
use Rattle.doc_hub_events.specs.declared.outcome.Outcome.{Outcome}
use Rattle.doc_hub_events.specs.declared.outcome.Outcome.TheVariants as outcomes
use Rattle.doc_hub_replies.specs.Edit.{Edit}
use Rattle.doc_hub_replies.specs.Edit.TheVariants as edits
use Rattle.doc_hub_replies.specs.Replies.{Renders}
use Rattle.doc_hub.specs.Worlds.{World, answer_in}
use Rattle.doc_hub.specs.Runs.{Happened, Runs}

-- the page that stands is put anew, for these groups
abbrev pub with_groups : List ℕ → List (List ℕ) → Page → SiteEdit
with_groups path groups page = set_page path (record page { groups = groups })

-- the edit of this site that a request asks for, whose body is the text of a page that is put
abbrev pub site_edit : Site → List ℕ → Option Edit → Option SiteEdit
site_edit site text None = None
site_edit site text (Some (edits.Put path groups)) = Some (set_page path (record { groups = groups; text = text }))
site_edit site text (Some (edits.Regroup path groups)) = option_map (with_groups path groups) (map.get site.pages path)
site_edit site text (Some (edits.Move from to)) = Some (move_page from to)
site_edit site text (Some (edits.Remove path)) = Some (remove_page path)

-- the edit that goes with the answer to what the unread bytes begin with
abbrev pub edit_by : Renders → World → Next → Option SiteEdit
edit_by render w (nexts.Request used request) = site_edit w.site request.body (answer_in render w request).edit
edit_by render w next = None

-- a step that answered: a closed connection asks for no edit
abbrev pub StepMakes : Renders → World → Option Connection → Option SiteEdit → Type 0
StepMakes render w None edit = edit ≡ None
StepMakes render w (Some c) edit = MatchBool c.closed (edit ≡ None) ((next : Next) × IsNext c.unread next × (edit ≡ edit_by render w next))

abbrev pub made_if : Bool → SiteEdit → Option SiteEdit
made_if true edit = Some edit
made_if false edit = None

-- the edit where it has this outcome; what is refused, and a removal of no page, makes none
abbrev pub made_by : SiteEdit → Outcome → Option SiteEdit
made_by edit (outcomes.Edited put) = Some edit
made_by edit (outcomes.Removed stood) = made_if stood edit
made_by edit outcomes.Moved = Some edit
made_by edit outcome = None

abbrev pub MakesOn : Renders → World → ℕ → ConnectionEvent → Outcome → Option SiteEdit → Type 0
MakesOn render w id calls.Step (outcomes.Stepped said) edit = StepMakes render w (map.get w.connections id) edit
MakesOn render w id call outcome edit = edit ≡ None

-- the edit that an event makes in this world, where it has this outcome
abbrev pub Makes : Renders → World → Event → Outcome → Option SiteEdit → Type 0
Makes render w (events.On id call) outcome edit = MakesOn render w id.0 call outcome edit
Makes render w (events.Site asked) outcome edit = edit ≡ made_by asked outcome
Makes render w event outcome edit = edit ≡ None

abbrev pub site_after : Site → Option SiteEdit → Site
site_after site None = site
site_after site (Some edit) = effect_of site edit

-- one after another
abbrev pub site_after_all : Site → List (Option SiteEdit) → Site
site_after_all site [] = site
site_after_all site (edit ∷ rest) = site_after_all (site_after site edit) rest

-- the edits of a run, one for each of its events
abbrev pub AllMake : Renders → List Happened → List (Option SiteEdit) → Type 0
AllMake render [] [] = ⊤
AllMake render (h ∷ hs) [] = ⊥
AllMake render [] (edit ∷ rest) = ⊥
AllMake render (h ∷ hs) (edit ∷ rest) = Makes render h.world h.event h.outcome edit × AllMake render hs rest

-- the site that a run leaves is that of its accepted edits, made one after another
abbrev pub SiteIsOfEdits : Type 0
SiteIsOfEdits =
    (render : Renders) (w v : World) (run : List Happened) → Runs render w run v
    → (made : List (Option SiteEdit)) × AllMake render run made × (v.site ≡ site_after_all w.site made)
