-- What is said of how a reply is written, and of those to a person and to an owner who edits, whose parts are borrowed.
use Rattle.std.specs.Option.{option_copied}
use Rattle.doc_http_replies.specs.EditReplies.{EditReply}
use Rattle.doc_http_replies.specs.Heads.{Dress}
use Rattle.doc_http_replies.specs.PeopleReplies.{PeopleReply}
use Rattle.doc_http_replies.specs.declared.edit_reply.EditParts.{EditParts}
use Rattle.doc_http_replies.specs.declared.manner.Manner.{Manner}
use Rattle.doc_http_replies.specs.declared.people_reply.PeopleParts.{PeopleParts}

-- what a manner adds to the head of a reply
abbrev pub dress_of : Manner → Dress
dress_of manner = record { guarded = manner.guarded; private = manner.private; realm = option_copied manner.realm }

-- the reply to a person with these parts
abbrev pub people_with : PeopleParts → PeopleReply
people_with parts = record {
  code = parts.code;
  location = option_copied parts.location;
  realm = option_copied parts.realm;
  policy = parts.policy.now;
  body = parts.body.now;
}

-- the reply to an owner with these parts
abbrev pub edit_with : EditParts → EditReply
edit_with parts = record {
  code = parts.code;
  text = parts.text.now;
  why = option_copied parts.why;
  tag = option_copied parts.tag;
  groups = option_copied parts.groups;
}
