-- Laws of requests that edit.
use Rattle.std.specs.Prelude.{◌≡◌, ℕ, List, Bool, true, false, Option, Some, None, if◌then◌else◌}
use Rattle.doc_http.specs.declared.request.Request.{Request}
use Rattle.doc_http_conditions.specs.EntityTags.{EntityTag}
use Rattle.doc_http_conditions.specs.FieldValues.{named_by}
use Rattle.doc_http_conditions.specs.Lists.{has_tag}
use Rattle.doc_http_conditions.specs.declared.comparison.Comparison.TheVariants.{Strong}
use Rattle.doc_http_conditions.specs.declared.named.Named.TheVariants.{Any, OneOf}
use Rattle.doc_http_replies.specs.EditReplies.{EditReply}
use Rattle.doc_http_replies.specs.declared.reply.Reply.{Reply}
use Rattle.doc_people.specs.declared.settings.Browse.{Browse}
use Rattle.doc_store_readers.specs.Pages.{Page}
use Rattle.doc_store_readers.specs.Sites.{View, page_at}
use Rattle.doc_store_readers.specs.declared.reader.Reader.{Reader}
use Rattle.doc_store_tags.specs.Tags.{tag_of}
use Rattle.doc_hub_people.specs.Replies.{Renders, not_allowed, status_reply}
use Rattle.doc_hub_people.specs.Edit.{Edit}
use Rattle.doc_hub_people.specs.Edit.TheVariants as edits
use Rattle.doc_hub_asking.specs.Asking.{Asking}
use Rattle.doc_hub_editing_refusals.specs.Asked.{EditRequest}
use Rattle.doc_hub_editing_refusals.specs.Asked as requests
use Rattle.doc_media.specs.Media.{Beside}
use Rattle.doc_hub_editing.specs.EditAnswers.{by_entry, edit_response}
use Rattle.doc_hub_editing.specs.EditResponses.{Plain, Told, only_reply}

-- where pages aren't edited so, no request is one that edits
abbrev pub NothingIsEditedWithoutTheSetting : Type 0
NothingIsEditedWithoutTheSetting =
    (render : Renders) (browse : Browse) (view : View) (media : Beside) (asking : Asking) (puts_left for_people : Bool) (request : Request)
    → browse.editing ≡ false → edit_response render browse view media asking puts_left for_people request ≡ None

-- ---- owners alone

-- what one who is no owner is answered in plain text: by whether a guest asks, and by what is asked, which is the route and the method
abbrev pub refusal_of : Bool → EditRequest → Reply
refusal_of guest (requests.NotAllowed resource) = not_allowed resource
refusal_of guest what = status_reply (if guest then 401 else 403)

-- One who is no owner edits nothing. In plain text they are answered by the route and the method alone; as people, guests are
-- answered alike whatever there is to be seen, and readers by their own view.
pub record OwnersAlone : Type 0 where
  pub edit_nothing : (render : Renders) (browse : Browse) (view : View) (media : Beside) (guest : Bool) (reader : Reader)
      (puts_left for_people : Bool)
      (request : Request) (what : EditRequest)
      → reader.owner ≡ false → (by_entry render browse view media guest reader puts_left for_people request what).edit ≡ None
  pub plainly : (render : Renders) (browse : Browse) (view : View) (media : Beside) (guest : Bool) (reader : Reader) (puts_left : Bool)
      (request : Request) (what : EditRequest)
      → reader.owner ≡ false
      → by_entry render browse view media guest reader puts_left false request what ≡ only_reply (Plain (refusal_of guest what))
  pub guests : (render other : Renders) (browse : Browse) (view another : View) (media others : Beside) (reader : Reader)
      (puts_left still_left for_people : Bool)
      (request elsewhere : Request) (what : EditRequest)
      → reader.owner ≡ false
      → by_entry render browse view media true reader puts_left for_people request what
      ≡ by_entry other browse another others true reader still_left for_people elsewhere what

-- ---- no update is lost

-- the path of the page that an edit puts, changes, moves or removes
abbrev pub path_of_edit : Edit → List ℕ
path_of_edit (edits.Put path groups) = path
path_of_edit (edits.Regroup path groups) = path
path_of_edit (edits.Move from to) = from
path_of_edit (edits.Remove path) = path

-- an edit whose request named tags by If-Match is of a page that stands and has one of them, strongly (RFC 9110, section 13.1.1)
abbrev pub EditsAreOfWhatWasNamed : Type 0
EditsAreOfWhatWasNamed =
    (render : Renders) (browse : Browse) (view : View) (media : Beside) (guest : Bool) (reader : Reader) (puts_left for_people : Bool)
    (request : Request)
    (what : EditRequest) (edit : Edit) (value : List ℕ) (tags : List EntityTag)
    → (by_entry render browse view media guest reader puts_left for_people request what).edit ≡ Some edit
    → request.if_match ≡ Some value → named_by value ≡ Some (OneOf tags)
    → (page : Page) × (page_at view.pages (path_of_edit edit) ≡ Some page) × (has_tag Strong (tag_of page) tags ≡ true)

-- so of two writers who each name the tag that they read, the one is refused who finds another page there: a request that names none of the
-- tags of the page that stands makes no edit of it
abbrev pub WhoNamesAnotherIsRefused : Type 0
WhoNamesAnotherIsRefused =
    (render : Renders) (browse : Browse) (view : View) (media : Beside) (guest : Bool) (reader : Reader) (puts_left for_people : Bool)
    (request : Request)
    (what : EditRequest) (edit : Edit) (value : List ℕ) (tags : List EntityTag) (page : Page)
    → request.if_match ≡ Some value → named_by value ≡ Some (OneOf tags)
    → page_at view.pages (path_of_edit edit) ≡ Some page → has_tag Strong (tag_of page) tags ≡ false
    → ¬ ((by_entry render browse view media guest reader puts_left for_people request what).edit ≡ Some edit)

-- an edit whose request has `If-None-Match: *` is of a path where no page stands (RFC 9110, section 13.1.2)
abbrev pub NothingIsReplacedUnasked : Type 0
NothingIsReplacedUnasked =
    (render : Renders) (browse : Browse) (view : View) (media : Beside) (guest : Bool) (reader : Reader) (puts_left for_people : Bool)
    (request : Request)
    (what : EditRequest) (edit : Edit) (value : List ℕ)
    → (by_entry render browse view media guest reader puts_left for_people request what).edit ≡ Some edit
    → request.if_none_match ≡ Some value → named_by value ≡ Some Any → page_at view.pages (path_of_edit edit) ≡ None

-- ---- tags that are told

-- the tag of the page that an edit leaves, from the page that stood and the text that was sent; an edit that leaves none has none
abbrev pub TagAfter : View → List ℕ → Edit → List ℕ → Type 0
TagAfter view text (edits.Put path groups) tag = tag ≡ tag_of (record { groups = groups; text = text })
TagAfter view text (edits.Regroup path groups) tag =
    (page : Page) × (page_at view.pages path ≡ Some page) × (tag ≡ tag_of (record page { groups = groups }))
TagAfter view text edit tag = ⊥

-- without an edit a page stands that has it
abbrev pub TagOf : View → List ℕ → Option Edit → List ℕ → Type 0
TagOf view text None tag = (path : List ℕ) × (page : Page) × (page_at view.pages path ≡ Some page) × (tag ≡ tag_of page)
TagOf view text (Some edit) tag = TagAfter view text edit tag

-- a tag that is told is that of a page: of the one that stands, or where the request puts a page or changes its groups, of the page as it
-- stands behind that
abbrev pub ToldTagsAreThePages : Type 0
ToldTagsAreThePages =
    (render : Renders) (browse : Browse) (view : View) (media : Beside) (guest : Bool) (reader : Reader) (puts_left for_people : Bool)
    (request : Request)
    (what : EditRequest) (told : EditReply) (tag : List ℕ)
    → (by_entry render browse view media guest reader puts_left for_people request what).reply ≡ Told told → told.tag ≡ Some tag
    → TagOf view request.body (by_entry render browse view media guest reader puts_left for_people request what).edit tag
