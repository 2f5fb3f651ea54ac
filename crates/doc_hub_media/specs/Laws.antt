-- Laws of what is answered by media.
use Rattle.std.specs.Prelude.{◌≡◌, Bool, false, List, ℕ, Option, Some, None}
use Rattle.doc_http.specs.declared.request.Request.{Request}
use Rattle.doc_http_replies.specs.Heads.{Dress}
use Rattle.doc_media.specs.Media.{Beside}
use Rattle.doc_media.specs.declared.kind.MediaKind.{MediaKind}
use Rattle.doc_people.specs.declared.settings.Browse.{Browse}
use Rattle.doc_store_readers.specs.Sites.{View}
use Rattle.doc_hub_editing.specs.Replies.{Renders}
use Rattle.doc_hub_asking.specs.Asking.{Asking, owns}
use Rattle.doc_hub_media.specs.MediaAnswers.{MediaResponse, Medium, media_answer, media_response}

-- without media they have a part in nothing
abbrev pub NothingWithoutMedia : Type 0
NothingWithoutMedia =
    (browse : Option Browse) (render : Renders) (view : View) (asking : Asking) (for_people : Bool) (request : Request)
    → media_response browse render view None asking for_people request ≡ None

-- no answer by media makes an edit
abbrev pub MediaEditNothing : Type 0
MediaEditNothing =
    (browse : Option Browse) (render : Renders) (view : View) (beside : Beside) (asking : Asking) (for_people close : Bool)
    (request : Request) (dress : Dress) (response : MediaResponse)
    → media_response browse render view beside asking for_people request ≡ Some response
    → (media_answer dress response close request).edit ≡ None

-- to one who is no owner media are told of by themselves alone: whatever else they ask is answered as without media
abbrev pub OthersAreShownMediaAlone : Type 0
OthersAreShownMediaAlone =
    (browse : Option Browse) (render : Renders) (view : View) (beside : Beside) (asking : Asking) (for_people : Bool)
    (request : Request) (response : MediaResponse)
    → owns asking ≡ false → media_response browse render view beside asking for_people request ≡ Some response
    → (kind : MediaKind) × (bytes : List ℕ) × (response ≡ Medium kind bytes)
