-- What is said of requests that edit as they are answered.
use Rattle.std.specs.Prelude.{ℕ, List, Bool, true, false, codes, Option, Some}
use Rattle.doc_http.specs.declared.request.Request.{Request}
use Rattle.doc_http_replies.specs.Manners.{dress_of}
use Rattle.doc_http_replies.specs.ReplyForms.{reply_of}
use Rattle.doc_http_targets.specs.Queries.{optional_parameter, parameter}
use Rattle.doc_people.specs.declared.settings.Browse.{Browse}
use Rattle.doc_store_readers.specs.Sites.{View, view_of}
use Rattle.doc_hub_people.specs.Edits.{puts_taken}
use Rattle.doc_hub_people.specs.Answer.{Answer}
use Rattle.doc_hub_people.specs.Exchange.{Exchange}
use Rattle.doc_hub_people.specs.PeopleAnswers.{page_reply, unauthorized_reply}
use Rattle.doc_hub_editing_refusals.specs.Asked.{EditRequest}
use Rattle.doc_hub_editing_refusals.specs.Asked as requests
use Rattle.doc_hub_editing_refusals.specs.declared.refusal.Refusal.{Refusal}
use Rattle.doc_hub_editing_refusals.specs.declared.refusal.Refusal.TheVariants as refusals
use Rattle.doc_hub_editing.specs.EditResponses.{EditingReply, EditingResponse, Plain, Shown, only_reply, reply_sent}
use Rattle.doc_hub_editing.specs.declared.desk.Desk.{Desk}

-- whether a preview is asked for, for which a text may be rendered
abbrev pub asks_preview : EditRequest → Bool
asks_preview (requests.Preview rest) = true
asks_preview asked = false

-- a response as it is sent in an exchange
abbrev pub editing_sent : Exchange → EditingResponse → Answer
editing_sent exchange response = record {
  bytes = reply_sent (dress_of exchange.manner) response.reply exchange.manner.head_only exchange.manner.close;
  closes = exchange.manner.close;
  edit = response.edit;
}

-- a reply to which no edit belongs
abbrev pub reply_sent_in : Exchange → EditingReply → Answer
reply_sent_in exchange reply = editing_sent exchange (only_reply reply)

-- what one who is no owner is refused with, as a reply
abbrev pub refusal_reply : Browse → Refusal → EditingReply
refusal_reply browse (refusals.Plain form) = Plain (reply_of form)
refusal_reply browse refusals.SignIn = Shown (unauthorized_reply browse)
refusal_reply browse (refusals.Page body) = Shown (page_reply 403 body)

-- what the owner sees who sits at a desk, whether a put is taken, and what they ask
abbrev pub view_at : Desk → View
view_at desk = view_of desk.store.now.site (Some desk.reader.now)

abbrev pub left_at : Desk → Bool
left_at desk = puts_taken desk.exchange.now.takes_puts desk.store.now.puts

abbrev pub request_at : Desk → Request
request_at desk = desk.exchange.now.request.now

-- a response as it is sent from there
abbrev pub told_at : Desk → EditingResponse → Answer
told_at desk response = editing_sent desk.exchange.now response

-- the groups that the target of a put names, at the source where it names any
abbrev pub names_put : Bool → List ℕ → Option (List ℕ)
names_put true target = optional_parameter target (codes "groups")
names_put false target = Some (parameter target (codes "groups"))
