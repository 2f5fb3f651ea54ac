-- What is said of requests that media may have a part in as they are answered.
use Rattle.std.specs.Prelude.{Option, Some, None, option_map}
use Rattle.doc_media.specs.Media.{Beside, beside_of}
use Rattle.doc_store_readers.specs.Sites.{View}
use Rattle.doc_hub_editing.specs.Answer.{Answer}
use Rattle.doc_hub_editing.specs.Exchange.{Exchange}
use Rattle.doc_hub_editing_refusals.specs.AskedSteps.{edit_request_shown}
use Rattle.doc_hub_editing.specs.EditSteps.{editing_sent, view_at}
use Rattle.doc_http_media.specs.MediumReplies.{medium_bytes}
use Rattle.doc_hub_media.specs.MediaAnswers.{MediaResponse, Medium, Other, medium_reply}
use Rattle.doc_hub_media.specs.MediaRequests.{MediaRequest}
use Rattle.doc_hub_media.specs.MediaRequests as requests
use Rattle.doc_hub_media.specs.declared.media_desk.MediaDesk.{MediaDesk}
use Rattle.doc_hub_media.specs.declared.media_request.MediaRequest as code
use Rattle.doc_hub_media.specs.declared.media_request.MediaRequest.TheVariants as media_requests

-- what is asked, as it is defined
abbrev pub media_request_shown : code.MediaRequest → MediaRequest
media_request_shown (media_requests.Read rest) = requests.Read rest.now
media_request_shown (media_requests.Edit what) = requests.Edit (edit_request_shown what)

-- a response as it is sent in an exchange
abbrev pub media_sent : Exchange → MediaResponse → Answer
media_sent exchange (Medium kind bytes) = record {
  bytes = medium_bytes (medium_reply exchange.manner.private kind bytes) exchange.manner.head_only exchange.manner.close;
  closes = exchange.manner.close;
  edit = None;
}
media_sent exchange (Other response) = editing_sent exchange response

abbrev pub sent_if : Exchange → Option MediaResponse → Option Answer
sent_if exchange response = option_map (media_sent exchange) response

-- the media that who sits at a desk sees, and what they see of the pages
abbrev pub beside_at : MediaDesk → Beside
beside_at media = beside_of (Some media.media.now) (Some media.desk.reader.now)

abbrev pub pages_at : MediaDesk → View
pages_at media = view_at media.desk

-- a response as it is sent from there
abbrev pub told_there : MediaDesk → Option MediaResponse → Option Answer
told_there media response = sent_if media.desk.exchange.now response
