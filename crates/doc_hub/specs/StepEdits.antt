-- The edit that a step makes, as the step tells it, and what of the site it changes. A step tells the edit that its request asks
-- for: a put's text is the request's body, that of other groups the page's own, and both stand in the site then.
use Rattle.std.specs.Prelude.{◌≡◌, ℕ, List, true, false, MatchBool, Option, Some, None, Result, Ok, Err}
use Rattle.std.specs.FinMap as map
use Rattle.doc_store_readers.specs.Pages.{Page}
use Rattle.doc_store.specs.Store.{move_page, set_page, remove_page, effect_of, fits_in}
use Rattle.doc_http.specs.Requests.{IsNext}
use Rattle.doc_http.specs.declared.request.Next.{Next}
use Rattle.doc_http.specs.declared.request.Next.TheVariants as nexts
use Rattle.doc_hub.specs.declared.connection.Connection.{Connection}
use Rattle.doc_hub_events.specs.declared.event.ConnId.{ConnId}
use Rattle.doc_hub_events.specs.Events.{step_on}
use Rattle.doc_hub_events.specs.declared.event.Step.{Step}
use Rattle.doc_hub_events.specs.declared.refusal.StepError.{StepError}
use Rattle.doc_hub_replies.specs.Edit.{Edit}
use Rattle.doc_hub_replies.specs.Edit.TheVariants as edits
use Rattle.doc_hub_replies.specs.Replies.{Renders}
use Rattle.doc_hub.specs.EditLaws.{with_groups}
use Rattle.doc_hub.specs.Runs.{Happens}
use Rattle.doc_hub.specs.Worlds.{World, answer_in, has_medium, store_of}

-- the answer of a step without the edit beside it
abbrev pub step_in : Result (Step × Option Edit) StepError → Result Step StepError
step_in (Ok told) = Ok told.0
step_in (Err e) = Err e

-- the edit of a step by what the unread bytes begin with: that of the answer to a request
abbrev pub edit_of_step : Renders → World → Next → Option Edit
edit_of_step render w (nexts.Request used request) = (answer_in render w request).edit
edit_of_step render w next = None

-- a step that answered makes this edit on an open connection, and on a closed one none
abbrev pub TellsAt : Renders → World → Option Connection → Option Edit → Type 0
TellsAt render w None edit = edit ≡ None
TellsAt render w (Some c) edit =
    MatchBool c.closed (edit ≡ None) ((next : Next) × IsNext c.unread next × (edit ≡ edit_of_step render w next))

abbrev pub StepTells : Renders → World → ℕ → Option Edit → Type 0
StepTells render w id edit = TellsAt render w (map.get w.connections id) edit

-- where no edits are taken, no step makes one
abbrev pub NoStepEdits : Type 0
NoStepEdits =
    (render : Renders) (w : World) (id : ℕ) (edit : Option Edit) → w.settings.takes_edits ≡ false → StepTells render w id edit → edit ≡ None

-- ---- what it changes

-- a page for these groups that fits was put under the path, which is no medium's, where it stands then
pub record WasPut (w v : World) (path : List ℕ) (groups : List (List ℕ)) : Type 0 where
  pub page : Page
  pub for_groups : page.groups ≡ groups
  pub stands : map.get v.site.pages path ≡ Some page
  pub fits : fits_in (store_of w) path page.text ≡ Ok tt
  pub apart : has_medium w.media path ≡ false
  pub site : v.site ≡ effect_of w.site (set_page path page)

-- a page stood under the path, and stands there for these groups; its text stayed
pub record WasRegrouped (w v : World) (path : List ℕ) (groups : List (List ℕ)) : Type 0 where
  pub page : Page
  pub stood : map.get w.site.pages path ≡ Some page
  pub stands : map.get v.site.pages path ≡ Some (record page { groups = groups })
  pub fits : fits_in (store_of w) path page.text ≡ Ok tt
  pub site : v.site ≡ effect_of w.site (with_groups path groups page)

-- a page stood under the old path, and none, nor a medium, under the new one, and it went there
pub record WasMoved (w v : World) (from to : List ℕ) : Type 0 where
  pub stood : map.contains_key w.site.pages from ≡ true
  pub free : map.contains_key w.site.pages to ≡ false
  pub apart : has_medium w.media to ≡ false
  pub site : v.site ≡ effect_of w.site (move_page from to)

-- a page stood under the path and was removed
pub record WasRemoved (w v : World) (path : List ℕ) : Type 0 where
  pub stood : map.contains_key w.site.pages path ≡ true
  pub site : v.site ≡ effect_of w.site (remove_page path)

-- one site is the other with just this edit made
abbrev pub Changes : World → Option Edit → World → Type 0
Changes w None v = v.site ≡ w.site
Changes w (Some (edits.Put path groups)) v = WasPut w v path groups
Changes w (Some (edits.Regroup path groups)) v = WasRegrouped w v path groups
Changes w (Some (edits.Move from to)) v = WasMoved w v from to
Changes w (Some (edits.Remove path)) v = WasRemoved w v path

-- An answered step changes the site by the edit that it tells and by nothing else; a refused one leaves it.
pub record StepsChange : Type 0 where
  pub answered : (render : Renders) (w v : World) (id : ConnId) (said : Step) (edit : Option Edit)
      → Happens render w (step_on id) v (Ok said) → StepTells render w id.0 edit → Changes w edit v
  pub refused : (render : Renders) (w v : World) (id : ConnId) (e : StepError) → Happens render w (step_on id) v (Err e)
      → v.site ≡ w.site
