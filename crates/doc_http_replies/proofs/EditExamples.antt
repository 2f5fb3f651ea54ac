-- Worked examples: the definitions of replies to owners who edit on literal values.
use Rattle.std.proofs.Common.{◌≡◌, ◌++◌, [], List, ℕ, true, false, codes, refl}
use Rattle.std.specs.Prelude.{Some, None}
use Rattle.std.specs.Fmt.{digits}
use Rattle.doc_http_replies.specs.EditReplies.{edit_bytes}
use Rattle.doc_http_replies.specs.Heads.{cache_line, nosniff_line}
use Rattle.doc_http_replies.specs.PeopleReplies.{typed_lines}
use Rattle.doc_http_replies.specs.Replies.{field_line, reason_of}

-- entity tags, of 64 digits within quotes
unfoldable tag_of_hello : List ℕ
tag_of_hello = codes "\"e912366ea2503539a892e8280dbd618b1f0f6b0710196100ce24c34900c89ef3\""

unfoldable tag_of_a_new_text : List ℕ
tag_of_a_new_text = codes "\"f5f016f16d8de59a2eb6c6a19187e8c3f32e1e49a1b0db34497503ccb8d49ef6\""

-- one name to unfold where an example computes
unfoldable computing : Unit {0}
unfolding digits reason_of field_line typed_lines nosniff_line cache_line edit_bytes tag_of_hello tag_of_a_new_text
computing = tt

-- ---- the source of a page

a_source : edit_bytes (record {
  code = 200;
  text = codes "Hello\n";
  why = None;
  tag = Some tag_of_hello;
  groups = Some (codes "staff");
}) false false
    ≡ codes "HTTP/1.1 200 OK\r\nContent-Type: text/plain; charset=utf-8\r\nContent-Length: 6\r\nETag: " ++ tag_of_hello
    ++ codes "\r\nDocs-Groups: staff\r\nX-Content-Type-Options: nosniff\r\nCache-Control: private, no-cache\r\n\r\nHello\n"
unfolding computing
a_source = refl

a_source_by_its_head : edit_bytes (record {
  code = 200;
  text = codes "Hello\n";
  why = None;
  tag = Some tag_of_hello;
  groups = Some (codes "staff");
}) true false
    ≡ codes "HTTP/1.1 200 OK\r\nContent-Type: text/plain; charset=utf-8\r\nContent-Length: 6\r\nETag: " ++ tag_of_hello
    ++ codes "\r\nDocs-Groups: staff\r\nX-Content-Type-Options: nosniff\r\nCache-Control: private, no-cache\r\n\r\n"
unfolding computing
a_source_by_its_head = refl

a_source_and_the_end : edit_bytes (record {
  code = 200;
  text = codes "Hello\n";
  why = None;
  tag = Some tag_of_hello;
  groups = Some (codes "staff");
}) false true
    ≡ codes "HTTP/1.1 200 OK\r\nContent-Type: text/plain; charset=utf-8\r\nContent-Length: 6\r\nETag: " ++ tag_of_hello
    ++ codes "\r\nDocs-Groups: staff\r\nX-Content-Type-Options: nosniff\r\nCache-Control: private, no-cache\r\n"
    ++ codes "Connection: close\r\n\r\nHello\n"
unfolding computing
a_source_and_the_end = refl

the_same_source : edit_bytes (record {
  code = 304;
  text = [];
  why = None;
  tag = Some tag_of_hello;
  groups = None;
}) false false
    ≡ codes "HTTP/1.1 304 Not Modified\r\nETag: " ++ tag_of_hello ++ codes "\r\nCache-Control: private, no-cache\r\n\r\n"
unfolding computing
the_same_source = refl

-- ---- a page that is written

written : edit_bytes (record {
  code = 204;
  text = [];
  why = None;
  tag = Some tag_of_a_new_text;
  groups = Some (codes "staff");
}) false false
    ≡ codes "HTTP/1.1 204 No Content\r\nETag: " ++ tag_of_a_new_text ++ codes "\r\nDocs-Groups: staff\r\n\r\n"
unfolding computing
written = refl

written_for_all : edit_bytes (record {
  code = 204;
  text = [];
  why = None;
  tag = Some tag_of_a_new_text;
  groups = Some [];
}) false false
    ≡ codes "HTTP/1.1 204 No Content\r\nETag: " ++ tag_of_a_new_text ++ codes "\r\nDocs-Groups: \r\n\r\n"
unfolding computing
written_for_all = refl

created : edit_bytes (record {
  code = 201;
  text = [];
  why = None;
  tag = Some tag_of_hello;
  groups = Some [];
}) false false
    ≡ codes "HTTP/1.1 201 Created\r\nContent-Type: text/plain; charset=utf-8\r\nContent-Length: 12\r\nETag: " ++ tag_of_hello
    ++ codes "\r\nDocs-Groups: \r\n\r\n201 Created\n"
unfolding computing
created = refl

-- ---- what is refused, and why

no_page_there : edit_bytes (record {
  code = 412;
  text = [];
  why = Some (codes "no page stands there");
  tag = None;
  groups = None;
}) false false
    ≡ codes "HTTP/1.1 412 Precondition Failed\r\nContent-Type: text/plain; charset=utf-8\r\nContent-Length: 45\r\n\r\n"
    ++ codes "412 Precondition Failed\nno page stands there\n"
unfolding computing
no_page_there = refl

another_text_there : edit_bytes (record {
  code = 412;
  text = [];
  why = Some (codes "no page stands there");
  tag = Some tag_of_hello;
  groups = None;
}) false false
    ≡ codes "HTTP/1.1 412 Precondition Failed\r\nContent-Type: text/plain; charset=utf-8\r\nContent-Length: 45\r\n"
    ++ codes "ETag: " ++ tag_of_hello ++ codes "\r\n\r\n412 Precondition Failed\nno page stands there\n"
unfolding computing
another_text_there = refl

no_path : edit_bytes (record {
  code = 400;
  text = [];
  why = Some (codes "this is no path of a page");
  tag = None;
  groups = None;
}) false false
    ≡ codes "HTTP/1.1 400 Bad Request\r\nContent-Type: text/plain; charset=utf-8\r\nContent-Length: 42\r\n\r\n"
    ++ codes "400 Bad Request\nthis is no path of a page\n"
unfolding computing
no_path = refl

no_edit_left : edit_bytes (record {
  code = 507;
  text = [];
  why = Some (codes "no edit is left");
  tag = None;
  groups = None;
}) false false
    ≡ codes "HTTP/1.1 507 Insufficient Storage\r\nContent-Type: text/plain; charset=utf-8\r\nContent-Length: 41\r\n\r\n"
    ++ codes "507 Insufficient Storage\nno edit is left\n"
unfolding computing
no_edit_left = refl

a_conflict_by_its_head : edit_bytes (record {
  code = 409;
  text = [];
  why = None;
  tag = None;
  groups = None;
}) true true
    ≡ codes "HTTP/1.1 409 Conflict\r\nContent-Type: text/plain; charset=utf-8\r\nContent-Length: 13\r\nConnection: close\r\n\r\n"
unfolding computing
a_conflict_by_its_head = refl
