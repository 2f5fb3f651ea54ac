-- Laws of what is answered by media.
use Rattle.std.proofs.Common.{◌≡◌, Bool, true, false, List, ℕ, refl, sym, ◌∙◌, subst}
use Rattle.std.specs.Prelude.{Option, Some, None, ⊤, Result, Ok, Err, codes, is_some, option_map, if◌then◌else◌}
use Rattle.doc_http.specs.declared.request.Request.{Request}
use Rattle.doc_http_replies.specs.Heads.{Dress}
use Rattle.doc_http_targets.specs.Queries.{optional_parameter}
use Rattle.doc_http_targets.specs.WrittenPaths.{path_written}
use Rattle.doc_media.specs.Kinds.{kind_of}
use Rattle.doc_media.specs.Media.{Beside, medium_in}
use Rattle.doc_media.specs.declared.kind.MediaKind.{MediaKind}
use Rattle.doc_page_parts.specs.Paths.{path_of}
use Rattle.doc_page_parts.specs.declared.path.PathError.{PathError}
use Rattle.doc_people.specs.KeptPaths.{is_kept}
use Rattle.doc_people.specs.declared.settings.Browse.{Browse}
use Rattle.doc_store_readers.specs.Pages.{Page}
use Rattle.doc_store_readers.specs.Sites.{View}
use Rattle.doc_store_readers.specs.declared.reader.Reader.{Reader}
use Rattle.doc_hub_editing.specs.Replies.{Renders}
use Rattle.doc_hub_editing.specs.Edit.{Edit}
use Rattle.doc_hub_asking.specs.Asking.{Asking, owns}
use Rattle.doc_hub_asking.specs.Asking as asked
use Rattle.doc_hub_editing_refusals.specs.Asked.{EditRequest}
use Rattle.doc_hub_editing_refusals.specs.Asked as requests
use Rattle.doc_hub_editing.specs.EditAnswers.{page_of}
use Rattle.doc_hub_editing.specs.EditResponses.{EditingReply, EditingResponse, refused, refused_for, unless, unmet_by}
use Rattle.doc_hub_media.specs.Laws.{MediaEditNothing, NothingWithoutMedia, OthersAreShownMediaAlone}
use Rattle.doc_hub_media.specs.MediaAnswers.{MediaResponse, Medium, Other, by_entry, edit_at, form_at, form_kept, kept_at}
use Rattle.doc_hub_media.specs.MediaAnswers.{media_answer, media_response, medium_response, move_kept, move_to, read_alone, read_at}
use Rattle.doc_hub_media.specs.MediaAnswers.{response_by, stands_at, where_kept}
use Rattle.doc_hub_media.specs.MediaRequests.{MediaRequest, media_request_of}
use Rattle.doc_hub_media.specs.MediaRequests as asks

pub nothing_without_media : NothingWithoutMedia
unfolding media_response
nothing_without_media browse render view asking for_people request = refl

-- ---- no edits

abbrev edit_of : MediaResponse → Option Edit
edit_of (Medium kind bytes) = None
edit_of (Other response) = response.edit

abbrev NoEdit : Option MediaResponse → Type 0
NoEdit None = ⊤
NoEdit (Some response) = edit_of response ≡ None

medium_no : (medium : Option Page) (kind : Option MediaKind) → NoEdit (medium_response medium kind)
medium_no None kind = tt
medium_no (Some medium) None = tt
medium_no (Some medium) (Some kind) = refl

read_no : (beside : Beside) (path : Option (List ℕ)) → NoEdit (read_at beside path)
read_no beside None = tt
read_no beside (Some path) = medium_no (medium_in beside path) (kind_of path)

where_no : (kept : Bool) (response : EditingResponse) → response.edit ≡ None → NoEdit (where_kept kept response)
where_no true response none = none
where_no false response none = tt

unless_no : (against : Option EditingReply) (code : ℕ) (why : List ℕ) → (unless against (refused_for code why)).edit ≡ None
unless_no None code why = refl
unless_no (Some reply) code why = refl

abbrev kept_for_media : List ℕ
kept_for_media = codes "to is kept for media"

module _ (render : Renders) (view : View) (beside : Beside) (guest for_people : Bool) (request : Request) where
  form_no : (browse : Browse) (path : List ℕ) (stands people : Bool)
      → (form_kept render browse guest view people path stands).edit ≡ None
  form_no browse path true people = refl
  form_no browse path false true = refl
  form_no browse path false false = refl

  forms_no : (browse : Option Browse) (path : Option (List ℕ)) → NoEdit (form_at browse render view beside guest for_people path)
  forms_no None path = tt
  forms_no (Some browse) None = tt
  forms_no (Some browse) (Some path) =
      where_no (is_kept view beside path) (form_kept render browse guest view for_people path (is_some (medium_in beside path)))
      (form_no browse path (is_some (medium_in beside path)) for_people)

  move_no : (found : Option (List ℕ × Page)) (kept : Bool) → NoEdit (move_kept found request kept)
  move_no None kept = tt
  move_no (Some found) kept =
      where_no kept (unless (unmet_by false request (Some found.1)) (refused_for 409 kept_for_media))
      (unless_no (unmet_by false request (Some found.1)) 409 kept_for_media)

  moves_no : (found : Option (List ℕ × Page)) (to : Option (Result (List ℕ) PathError)) → NoEdit (move_to view beside found to request)
  moves_no found None = tt
  moves_no found (Some (Err e)) = tt
  moves_no found (Some (Ok to)) = move_no found (is_kept view beside to)

  edit_no : (browse : Option Browse) (what : EditRequest) → NoEdit (edit_at browse render view beside guest for_people request what)
  edit_no browse (requests.PutSource rest) = where_no (kept_at view beside (path_written rest)) read_alone refl
  edit_no browse (requests.PutPage rest) = where_no (kept_at view beside (path_written rest)) read_alone refl
  edit_no browse (requests.Remove rest) = where_no (stands_at beside (path_written rest)) read_alone refl
  edit_no browse (requests.Move rest) =
      moves_no (page_of view (path_written rest)) (option_map path_of (optional_parameter request.target (codes "to")))
  edit_no browse (requests.Open rest) = forms_no browse (path_written rest)
  edit_no browse (requests.Preview rest) = where_no (kept_at view beside (path_written rest)) (refused 404) refl
  edit_no browse (requests.ReadSource rest) = tt
  edit_no browse (requests.Regroup rest) = tt
  edit_no browse (requests.NotAllowed resource) = tt

  owner_no : (browse : Option Browse) (what : EditRequest) (owner : Bool)
      → NoEdit (if owner then edit_at browse render view beside guest for_people request what else None)
  owner_no browse what true = edit_no browse what
  owner_no browse what false = tt

  entry_no : (browse : Option Browse) (reader : Reader) (what : Option MediaRequest)
      → NoEdit (by_entry browse render view beside guest reader for_people request what)
  entry_no browse reader None = tt
  entry_no browse reader (Some (asks.Read rest)) = read_no beside (path_written rest)
  entry_no browse reader (Some (asks.Edit what)) = owner_no browse what reader.owner

response_no : (browse : Option Browse) (render : Renders) (view : View) (beside : Beside) (asking : Asking) (for_people : Bool)
    (request : Request) → NoEdit (response_by browse render view beside asking for_people request)
response_no browse render view beside asked.Nobody for_people request = tt
response_no browse render view beside (asked.Guest row) for_people request =
    entry_no render view beside true for_people request browse row (media_request_of browse request)
response_no browse render view beside (asked.Known row) for_people request =
    entry_no render view beside false for_people request browse row (media_request_of browse request)

no_edit : (browse : Option Browse) (render : Renders) (view : View) (beside : Beside) (asking : Asking) (for_people : Bool)
    (request : Request) → NoEdit (media_response browse render view beside asking for_people request)
unfolding media_response
no_edit browse render view None asking for_people request = tt
no_edit browse render view (Some held) asking for_people request =
    response_no browse render view (Some held) asking for_people request

as_sent : (dress : Dress) (response : MediaResponse) (close : Bool) (request : Request)
    → (media_answer dress response close request).edit ≡ edit_of response
as_sent dress (Medium kind bytes) close request = refl
as_sent dress (Other response) close request = refl

pub media_edit_nothing : MediaEditNothing
media_edit_nothing browse render view beside asking for_people close request dress response is =
    as_sent dress response close request ∙ subst NoEdit is (no_edit browse render view beside asking for_people request)

-- ---- to others than owners

abbrev IsMedium : MediaResponse → Type 0
IsMedium (Medium kind bytes) = ⊤
IsMedium (Other response) = ⊥

abbrev IfMedium : Option MediaResponse → Type 0
IfMedium None = ⊤
IfMedium (Some response) = IsMedium response

medium_alone : (medium : Option Page) (kind : Option MediaKind) → IfMedium (medium_response medium kind)
medium_alone None kind = tt
medium_alone (Some medium) None = tt
medium_alone (Some medium) (Some kind) = tt

read_is : (beside : Beside) (path : Option (List ℕ)) → IfMedium (read_at beside path)
read_is beside None = tt
read_is beside (Some path) = medium_alone (medium_in beside path) (kind_of path)

entry_alone : (browse : Option Browse) (render : Renders) (view : View) (beside : Beside) (guest : Bool) (reader : Reader)
    (for_people : Bool) (request : Request) (what : Option MediaRequest) → reader.owner ≡ false
    → IfMedium (by_entry browse render view beside guest reader for_people request what)
entry_alone browse render view beside guest reader for_people request None other = tt
entry_alone browse render view beside guest reader for_people request (Some (asks.Read rest)) other = read_is beside (path_written rest)
entry_alone browse render view beside guest reader for_people request (Some (asks.Edit what)) other =
    subst (λ owner. IfMedium (if owner then edit_at browse render view beside guest for_people request what else None)) (sym other) tt

alone_by : (browse : Option Browse) (render : Renders) (view : View) (beside : Beside) (asking : Asking) (for_people : Bool)
    (request : Request) → owns asking ≡ false → IfMedium (response_by browse render view beside asking for_people request)
alone_by browse render view beside asked.Nobody for_people request other = tt
alone_by browse render view beside (asked.Guest row) for_people request other =
    entry_alone browse render view beside true row for_people request (media_request_of browse request) other
alone_by browse render view beside (asked.Known row) for_people request other =
    entry_alone browse render view beside false row for_people request (media_request_of browse request) other

alone : (browse : Option Browse) (render : Renders) (view : View) (beside : Beside) (asking : Asking) (for_people : Bool)
    (request : Request) → owns asking ≡ false → IfMedium (media_response browse render view beside asking for_people request)
unfolding media_response
alone browse render view None asking for_people request other = tt
alone browse render view (Some held) asking for_people request other =
    alone_by browse render view (Some held) asking for_people request other

shown_alone : (response : MediaResponse) → IsMedium response → (kind : MediaKind) × (bytes : List ℕ) × (response ≡ Medium kind bytes)
shown_alone (Medium kind bytes) is = (kind, bytes, refl)
shown_alone (Other response) is = absurd is

pub others_are_shown_media_alone : OthersAreShownMediaAlone
others_are_shown_media_alone browse render view beside asking for_people request response other is =
    shown_alone response (subst IfMedium is (alone browse render view beside asking for_people request other))
