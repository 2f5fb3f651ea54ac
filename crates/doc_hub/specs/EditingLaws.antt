-- Requests that edit, in runs, where pages are edited so: no update is lost.
use Rattle.std.specs.Prelude.{◌≡◌, ℕ, All, List, true, Some, None}
use Rattle.std.specs.FinMap as map
use Rattle.doc_http.specs.declared.request.Request.{Request}
use Rattle.doc_http.specs.declared.request.Next.TheVariants as nexts
use Rattle.doc_http_conditions.specs.EntityTags.{EntityTag}
use Rattle.doc_http_conditions.specs.FieldValues.{named_by}
use Rattle.doc_http_conditions.specs.Lists.{has_tag}
use Rattle.doc_http_conditions.specs.declared.comparison.Comparison.TheVariants.{Strong}
use Rattle.doc_http_conditions.specs.declared.named.Named.TheVariants.{Any, OneOf}
use Rattle.doc_people.specs.declared.settings.Browse.{Browse}
use Rattle.doc_store_readers.specs.Pages.{Page}
use Rattle.doc_store_tags.specs.Tags.{tag_of}
use Rattle.doc_hub_replies.specs.Replies.{Renders}
use Rattle.doc_hub_replies.specs.Edit.{Edit}
use Rattle.doc_hub_replies.specs.EditLaws.{path_of_edit}
use Rattle.doc_hub.specs.FreshLaws.{IsAnswered}
use Rattle.doc_hub.specs.Runs.{Happened, Runs}
use Rattle.doc_hub.specs.Worlds.{World, answer_in}
use Rattle.doc_hub_events.specs.declared.event.Step.{Step}

-- a step of an open connection answered this request, in a world where pages are edited so, by this edit
pub record IsEditedBy (render : Renders) (h : Happened) (request : Request) (edit : Edit) : Type 0 where
  pub unread : List ℕ
  pub used : ℕ
  pub said : Step
  pub answered : IsAnswered h unread (nexts.Request used request) said
  pub browse : Browse
  pub settings : h.world.settings.browse ≡ Some browse
  pub editing : browse.editing ≡ true
  pub made : (answer_in render h.world request).edit ≡ Some edit

-- where the request named tags by If-Match, the edit is of a page that stood then and had one of them, strongly (RFC 9110, section 13.1.1)
abbrev pub NamesWhatStood : Renders → Happened → Type 0
NamesWhatStood render h =
    (request : Request) (edit : Edit) (value : List ℕ) (tags : List EntityTag) → IsEditedBy render h request edit
    → request.if_match ≡ Some value → named_by value ≡ Some (OneOf tags)
    → (page : Page) × (map.get h.world.site.pages (path_of_edit edit) ≡ Some page) × (has_tag Strong (tag_of page) tags ≡ true)

-- where it has `If-None-Match: *`, no page stood at the path of the edit (RFC 9110, section 13.1.2)
abbrev pub ReplacesNothing : Renders → Happened → Type 0
ReplacesNothing render h =
    (request : Request) (edit : Edit) (value : List ℕ) → IsEditedBy render h request edit → request.if_none_match ≡ Some value
    → named_by value ≡ Some Any → map.get h.world.site.pages (path_of_edit edit) ≡ None

-- In any run, whatever stands between: no update is lost, and no page is replaced unasked.
abbrev pub NoUpdateIsLost : Type 0
NoUpdateIsLost = (render : Renders) (w v : World) (run : List Happened) → Runs render w run v → All (NamesWhatStood render) run

abbrev pub NoPageIsReplacedUnasked : Type 0
NoPageIsReplacedUnasked = (render : Renders) (w v : World) (run : List Happened) → Runs render w run v → All (ReplacesNothing render) run
