-- What one who is no owner is refused with, as the response that they get.
use Rattle.std.proofs.Common.{◌≡◌, Bool, true, false, refl, ◌∙◌, subst}
use Rattle.std.specs.Prelude.{IfOk, Result}
use Rattle.doc_page_parts.specs.declared.failure.Memory.{Memory}
use Rattle.doc_people.specs.declared.settings.Browse.{Browse}
use Rattle.doc_people.specs.declared.settings.Offers.{Offers}
use Rattle.doc_store_readers.specs.Sites.{View}
use Rattle.doc_hub_people.specs.Replies.{Renders}
use Rattle.doc_hub_people.specs.Answer.{Answer}
use Rattle.doc_hub_people.specs.Exchange.{Exchange}
use Rattle.doc_hub_editing_refusals.specs.Asked.{EditRequest}
use Rattle.doc_hub_editing_refusals.specs.Asked as requests
use Rattle.doc_hub_editing_refusals.specs.EditRefusals.{refusal_to}
use Rattle.doc_hub_editing_refusals.specs.declared.refusal.Refusal.{Refusal}
use Rattle.doc_hub_editing.specs.EditAnswers.{by_other}
use Rattle.doc_hub_editing.specs.EditResponses.{EditingResponse, only_reply}
use Rattle.doc_hub_editing.specs.EditSteps.{editing_sent, refusal_reply}

other_is : (render : Renders) (browse : Browse) (offers : Offers) (view : View) (guest for_people : Bool) (what : EditRequest)
    → only_reply (refusal_reply browse (refusal_to render browse offers view guest for_people what))
    ≡ by_other render browse offers view guest for_people what
other_is render browse offers view guest for_people (requests.NotAllowed resource) = refl
other_is render browse offers view true true what = refl
other_is render browse offers view true false what = refl
other_is render browse offers view false true (requests.Open rest) = refl
other_is render browse offers view false false (requests.Open rest) = refl
other_is render browse offers view false for_people what = refl

-- as it is sent
pub other_told : (result : Result Answer Memory) (sent exchange : Exchange) (settings browse : Browse) (refusal : Refusal)
    (render : Renders) (offers : Offers) (view : View) (guest for_people : Bool) (what : EditRequest)
    → IfOk result (λ a. a ≡ editing_sent sent (only_reply (refusal_reply settings refusal)))
    → sent ≡ exchange → settings ≡ browse → refusal ≡ refusal_to render browse offers view guest for_people what
    → IfOk result (λ a. a ≡ editing_sent exchange (by_other render browse offers view guest for_people what))
other_told result sent exchange settings browse refusal render offers view guest for_people what told same also is =
    subst (λ (response : EditingResponse). IfOk result (λ a. a ≡ editing_sent exchange response))
    ((λ i. only_reply (refusal_reply (also i) (is i))) ∙ other_is render browse offers view guest for_people what)
    (subst (λ e. IfOk result (λ a. a ≡ editing_sent e (only_reply (refusal_reply settings refusal)))) same told)
