-- Worked examples: the definitions on literal replies.
use Rattle.std.proofs.Common.{◌≡◌, ◌++◌, [], true, false, codes, refl}
use Rattle.std.specs.Prelude.{Some, None}
use Rattle.std.specs.Fmt.{digits}
use Rattle.doc_http_replies.specs.declared.reply.Allow.TheVariants.{Page, Read, Write, Post, Nothing}
use Rattle.doc_http_replies.specs.declared.reply_form.ReplyForm.TheVariants as forms
use Rattle.doc_http_replies.specs.declared.status.Status.TheVariants as statuses
use Rattle.doc_http_replies.specs.Replies.{reason_of, field_line, reply_head, reply_bytes}
use Rattle.doc_http_replies.specs.ReplyForms.{reply_of}

-- one name to unfold where an example computes
unfoldable computing : Unit {0}
unfolding digits reason_of field_line reply_head reply_bytes
computing = tt

-- ---- replies

a_page : reply_bytes (record {
  code = 200;
  html = true;
  allow = None;
  location = None;
  body = codes
      "<!DOCTYPE html>\n<title>a.md</title>\n<p>Hello</p>\n";
}) false false
    ≡ codes "HTTP/1.1 200 OK\r\nContent-Type: text/html; charset=utf-8\r\nContent-Length: 49\r\n\r\n<!DOCTYPE html>\n<title>a.md</title>\n<p>Hello</p>\n"
unfolding computing
a_page = refl

a_page_by_its_head : reply_bytes (record {
  code = 200;
  html = true;
  allow = None;
  location = None;
  body = codes
      "<!DOCTYPE html>\n<title>a.md</title>\n<p>Hello</p>\n";
}) true false
    ≡ codes "HTTP/1.1 200 OK\r\nContent-Type: text/html; charset=utf-8\r\nContent-Length: 49\r\n\r\n"
unfolding computing
a_page_by_its_head = refl

plain_text : reply_bytes (record { code = 200; html = false; allow = None; location = None; body = codes "1\ta.md\n" }) false true
    ≡ codes "HTTP/1.1 200 OK\r\nContent-Type: text/plain; charset=utf-8\r\nContent-Length: 7\r\nConnection: close\r\n\r\n1\ta.md\n"
unfolding computing
plain_text = refl

no_reader : reply_bytes (record { code = 401; html = false; allow = None; location = None; body = [] }) false false
    ≡ codes "HTTP/1.1 401 Unauthorized\r\nContent-Type: text/plain; charset=utf-8\r\nContent-Length: 17\r\nWWW-Authenticate: Bearer realm=\"docs\"\r\n\r\n401 Unauthorized\n"
unfolding computing
no_reader = refl

a_bad_request : reply_bytes (record { code = 400; html = false; allow = None; location = None; body = [] }) false true
    ≡ codes "HTTP/1.1 400 Bad Request\r\nContent-Type: text/plain; charset=utf-8\r\nContent-Length: 16\r\nConnection: close\r\n\r\n400 Bad Request\n"
unfolding computing
a_bad_request = refl

not_found : reply_bytes (record { code = 404; html = false; allow = None; location = None; body = [] }) false false
    ≡ codes "HTTP/1.1 404 Not Found\r\nContent-Type: text/plain; charset=utf-8\r\nContent-Length: 14\r\n\r\n404 Not Found\n"
unfolding computing
not_found = refl

no_content : reply_bytes (record { code = 204; html = false; allow = None; location = None; body = [] }) false false
    ≡ codes "HTTP/1.1 204 No Content\r\n\r\n"
unfolding computing
no_content = refl

too_long_a_head : reply_bytes (record { code = 431; html = false; allow = None; location = None; body = [] }) false true
    ≡ codes "HTTP/1.1 431 Request Header Fields Too Large\r\nContent-Type: text/plain; charset=utf-8\r\nContent-Length: 36\r\nConnection: close\r\n\r\n431 Request Header Fields Too Large\n"
unfolding computing
too_long_a_head = refl

another_method : reply_bytes (record { code = 405; html = false; allow = Some Page; location = None; body = [] }) false false
    ≡ codes "HTTP/1.1 405 Method Not Allowed\r\nContent-Type: text/plain; charset=utf-8\r\nContent-Length: 23\r\nAllow: GET, HEAD, PUT, DELETE\r\n\r\n405 Method Not Allowed\n"
unfolding computing
another_method = refl

a_resource_to_read : reply_bytes (record { code = 405; html = false; allow = Some Read; location = None; body = [] }) false true
    ≡ codes "HTTP/1.1 405 Method Not Allowed\r\nContent-Type: text/plain; charset=utf-8\r\nContent-Length: 23\r\nAllow: GET, HEAD\r\nConnection: close\r\n\r\n405 Method Not Allowed\n"
unfolding computing
a_resource_to_read = refl

a_resource_to_write : reply_bytes (record { code = 405; html = false; allow = Some Write; location = None; body = [] }) false false
    ≡ codes "HTTP/1.1 405 Method Not Allowed\r\nContent-Type: text/plain; charset=utf-8\r\nContent-Length: 23\r\n"
    ++ codes "Allow: PUT\r\n\r\n405 Method Not Allowed\n"
unfolding computing
a_resource_to_write = refl

a_resource_to_send_to : reply_bytes (record { code = 405; html = false; allow = Some Post; location = None; body = [] }) false false
    ≡ codes "HTTP/1.1 405 Method Not Allowed\r\nContent-Type: text/plain; charset=utf-8\r\nContent-Length: 23\r\n"
    ++ codes "Allow: POST\r\n\r\n405 Method Not Allowed\n"
unfolding computing
a_resource_to_send_to = refl

a_resource_without_methods : reply_bytes (record { code = 405; html = false; allow = Some Nothing; location = None; body = [] }) false false
    ≡ codes "HTTP/1.1 405 Method Not Allowed\r\nContent-Type: text/plain; charset=utf-8\r\nContent-Length: 23\r\n"
    ++ codes "Allow: \r\n\r\n405 Method Not Allowed\n"
unfolding computing
a_resource_without_methods = refl

moved : reply_bytes (record { code = 301; html = false; allow = None; location = Some (codes "/page/b.md"); body = [] }) false false
    ≡ codes "HTTP/1.1 301 Moved Permanently\r\nContent-Type: text/plain; charset=utf-8\r\nContent-Length: 22\r\nLocation: /page/b.md\r\n\r\n301 Moved Permanently\n"
unfolding computing
moved = refl

-- ---- replies by their forms

a_full_store : reply_bytes (reply_of (forms.Status statuses.InsufficientStorage)) false false
    ≡ codes "HTTP/1.1 507 Insufficient Storage\r\nContent-Type: text/plain; charset=utf-8\r\nContent-Length: 25\r\n\r\n507 Insufficient Storage\n"
unfolding computing
a_full_store = refl

another_type : reply_bytes (reply_of (forms.Status statuses.UnsupportedMediaType)) false false
    ≡ codes "HTTP/1.1 415 Unsupported Media Type\r\nContent-Type: text/plain; charset=utf-8\r\nContent-Length: 27\r\n\r\n"
    ++ codes "415 Unsupported Media Type\n"
unfolding computing
another_type = refl

moved_by_its_head : reply_bytes (reply_of (forms.Moved (codes "/page/b.md"))) true true
    ≡ codes "HTTP/1.1 301 Moved Permanently\r\nContent-Type: text/plain; charset=utf-8\r\nContent-Length: 22\r\nLocation: /page/b.md\r\nConnection: close\r\n\r\n"
unfolding computing
moved_by_its_head = refl
