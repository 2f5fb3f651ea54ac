-- Responses to requests that edit: a reply of one of three kinds, and the edit of the site that goes with it.
use Rattle.std.specs.Prelude.{ℕ, List, [], Bool, Option, Some, None, option_map}
use Rattle.doc_http.specs.Requests.{is_bare}
use Rattle.doc_http.specs.declared.request.Request.{Request}
use Rattle.doc_http_conditions.specs.Verdicts.{verdict_of, why_failed, why_unread}
use Rattle.doc_http_conditions.specs.declared.verdict.Verdict.{Verdict}
use Rattle.doc_http_conditions.specs.declared.verdict.Verdict.TheVariants as verdicts
use Rattle.doc_http_replies.specs.EditReplies.{EditReply, edit_bytes}
use Rattle.doc_http_replies.specs.Heads.{Dress, dressed_bytes}
use Rattle.doc_http_replies.specs.PeopleReplies.{PeopleReply, people_bytes}
use Rattle.doc_http_replies.specs.declared.reply.Reply.{Reply}
use Rattle.doc_store_readers.specs.Pages.{Page}
use Rattle.doc_store_tags.specs.Tags.{names_text, tag_of}
use Rattle.doc_hub_people.specs.Replies.{status_reply}
use Rattle.doc_hub_people.specs.Answer.{Answer}
use Rattle.doc_hub_people.specs.Edit.{Edit}

-- a reply as programs get it of other routes, one that tells of a page's source or why an edit is refused, or a page for people
pub data EditingReply : Type 0 where
  Plain : Reply → EditingReply
  Told : EditReply → EditingReply
  Shown : PeopleReply → EditingReply

pub record EditingResponse : Type 0 where
  pub reply : EditingReply
  pub edit : Option Edit

abbrev pub only_reply : EditingReply → EditingResponse
only_reply reply = record { reply = reply; edit = None }

-- ---- replies

-- no more than a status
abbrev pub refused : ℕ → EditingResponse
refused code = only_reply (Plain (status_reply code))

-- a status, and why
abbrev pub why_reply : ℕ → List ℕ → EditingReply
why_reply code why = Told (record { code = code; text = []; why = Some why; tag = None; groups = None })

abbrev pub refused_for : ℕ → List ℕ → EditingResponse
refused_for code why = only_reply (why_reply code why)

-- the tag of the page that stands, if one does (RFC 9110, section 8.8.3)
abbrev pub tag_at : Option Page → Option (List ℕ)
tag_at stands = option_map tag_of stands

-- a condition fails, and why; with the tag of the page that stands (RFC 9110, section 15.5.13)
abbrev pub unmet_reply : List ℕ → Option (List ℕ) → EditingReply
unmet_reply why tag = Told (record { code = 412; text = []; why = Some why; tag = tag; groups = None })

-- nothing is new of the page that stands (RFC 9110, section 15.4.5)
abbrev pub unchanged_reply : Option (List ℕ) → EditingReply
unchanged_reply tag = Told (record { code = 304; text = []; why = None; tag = tag; groups = None })

-- the tag and the groups of a page, with this text as the content of 200
abbrev pub page_reply : ℕ → List ℕ → Page → EditingReply
page_reply code text page =
    Told (record { code = code; text = text; why = None; tag = Some (tag_of page); groups = Some (names_text page.groups) })

-- ---- what stands against a request

-- the response where nothing does
abbrev pub unless : Option EditingReply → EditingResponse → EditingResponse
unless None done = done
unless (Some reply) done = only_reply reply

-- conditions (RFC 9110, section 13.2.2), by what they come to and the tag of the page that stands
abbrev pub reply_to_verdict : Verdict → Option (List ℕ) → Option EditingReply
reply_to_verdict verdicts.Holds tag = None
reply_to_verdict (verdicts.Unread field) tag = Some (why_reply 400 (why_unread field))
reply_to_verdict (verdicts.Fails failure) tag = Some (unmet_reply (why_failed failure) tag)
reply_to_verdict verdicts.Unchanged tag = Some (unchanged_reply tag)

-- those of a request where this page stands, or none; `reads`: the request only reads
abbrev pub unmet_by : Bool → Request → Option Page → Option EditingReply
unmet_by reads request stands =
    reply_to_verdict (verdict_of reads request.if_match request.if_none_match (tag_at stands)) (tag_at stands)

-- no room, and why
abbrev pub full_by : Option (List ℕ) → Option EditingReply
full_by why = option_map (why_reply 507) why

-- ---- as it is sent

abbrev pub reply_sent : Dress → EditingReply → Bool → Bool → List ℕ
reply_sent dress (Plain reply) head_only close = dressed_bytes dress reply head_only close
reply_sent dress (Told reply) head_only close = edit_bytes reply head_only close
reply_sent dress (Shown reply) head_only close = people_bytes reply head_only close

abbrev pub editing_answer : Dress → EditingResponse → Bool → Request → Answer
editing_answer dress response close request = record {
  bytes = reply_sent dress response.reply (is_bare request.method) close;
  closes = close;
  edit = response.edit;
}
