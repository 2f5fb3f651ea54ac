-- What is said of a reply whose parts are borrowed.
use Rattle.std.specs.Option.{option_copied}
use Rattle.doc_http_replies.specs.declared.reply.Reply.{Reply}
use Rattle.doc_http_replies.specs.declared.reply_parts.ReplyParts.{ReplyParts}

-- the reply with these parts
abbrev pub reply_with : ReplyParts → Reply
reply_with parts = record {
  code = parts.code;
  html = parts.html;
  allow = parts.allow;
  location = option_copied parts.location;
  body = parts.body.now;
}
