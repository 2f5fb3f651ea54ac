-- What is said of answers to people as they are made.
use Rattle.std.specs.Prelude.{None}
use Rattle.doc_http_replies.specs.PeopleReplies.{PeopleReply, people_bytes}
use Rattle.doc_people.specs.declared.settings.Offers.{Offers}
use Rattle.doc_hub_answers.specs.declared.answer.Answer.{Answer}
use Rattle.doc_hub_answers.specs.declared.exchange.Exchange.{Exchange}
use Rattle.doc_hub_people.specs.PeopleAnswers.{offers_for}
use Rattle.doc_hub_people.specs.declared.visit.Visit.{Visit}

-- a reply to people as it is sent in an exchange
abbrev pub people_sent : Exchange → PeopleReply → Answer
people_sent exchange reply = record {
  bytes = people_bytes reply exchange.manner.head_only exchange.manner.close;
  closes = exchange.manner.close;
  edit = None;
}

-- what the pages of a visit offer
abbrev pub offers_of : Visit → Offers
offers_of visit = offers_for visit.browse.now visit.guest visit.owner
