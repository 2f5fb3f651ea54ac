-- What one who is no owner is answered where they ask to edit: by the route and the method alone, whatever stands in the site. Their view
-- goes only into what stands round the page that tells readers so. All of this is this project's choice.
use Rattle.std.specs.Prelude.{Bool, true, false, if◌then◌else◌}
use Rattle.doc_http_replies.specs.declared.reply_form.ReplyForm.TheVariants as forms
use Rattle.doc_http_replies.specs.declared.status.Status.{Status}
use Rattle.doc_http_replies.specs.declared.status.Status.TheVariants as statuses
use Rattle.doc_people.specs.Statuses.{refused_body}
use Rattle.doc_people.specs.Views.{Renders}
use Rattle.doc_people.specs.declared.settings.Browse.{Browse}
use Rattle.doc_people.specs.declared.settings.Offers.{Offers}
use Rattle.doc_store_readers.specs.Sites.{View}
use Rattle.doc_hub_editing_refusals.specs.Asked.{EditRequest}
use Rattle.doc_hub_editing_refusals.specs.Asked as requests
use Rattle.doc_hub_editing_refusals.specs.declared.refusal.Refusal.{Refusal}
use Rattle.doc_hub_editing_refusals.specs.declared.refusal.Refusal.TheVariants as refusals

-- no more than a status
abbrev pub no_more_than : Status → Refusal
no_more_than status = refusals.Plain (forms.Status status)

-- a guest isn't forbidden anything: they haven't signed in; to people a page says so
abbrev pub not_signed_in : Bool → Refusal
not_signed_in for_people = if for_people then refusals.SignIn else no_more_than statuses.Unauthorized

-- a reader who is no owner is forbidden what they ask; to people a page says so where the form is
abbrev pub forbidden : Renders → Browse → Offers → View → Bool → EditRequest → Refusal
forbidden render browse offers view for_people (requests.Open rest) =
    if for_people then refusals.Page (refused_body render browse offers view 403) else no_more_than statuses.Forbidden
forbidden render browse offers view for_people asked = no_more_than statuses.Forbidden

-- a method that a resource hasn't comes first, then who is a guest; `for_people`: the request is one for people
abbrev pub refusal_to : Renders → Browse → Offers → View → Bool → Bool → EditRequest → Refusal
refusal_to render browse offers view guest for_people (requests.NotAllowed resource) = refusals.Plain (forms.NotAllowed resource)
refusal_to render browse offers view true for_people asked = not_signed_in for_people
refusal_to render browse offers view false for_people asked = forbidden render browse offers view for_people asked
