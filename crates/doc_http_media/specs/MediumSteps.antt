-- What is said of a reply that is a medium, whose parts are borrowed.
use Rattle.doc_http_media.specs.MediumReplies.{MediumReply}
use Rattle.doc_http_media.specs.declared.medium_reply.MediumParts.{MediumParts}

-- the reply with these parts
abbrev pub medium_with : MediumParts → MediumReply
medium_with parts = record {
  kind = parts.kind.now;
  boxed = parts.boxed;
  saved = parts.saved;
  private = parts.private;
  body = parts.body.now;
}
