-- Replies as bytes.
use Rattle.std.specs.Prelude.{ℕ, ◌==◌, ◌&&◌, ◌||◌, not, Bool, List, [], ◌∷◌, ◌++◌, Option, Some, None, length, codes, decimal, if◌then◌else◌}
use Rattle.std.specs.List.{list_any}
use Rattle.doc_http_replies.specs.Challenges.{bearer_challenge}
use Rattle.doc_http_replies.specs.declared.reply.Reply.{Reply}
use Rattle.doc_http_replies.specs.declared.reply.Allow.{Allow}
use Rattle.doc_http_replies.specs.declared.reply.Allow.TheVariants.{Page, Read, Write, Post, Nothing}

-- the reason phrase of a code (RFC 9110, section 15; 431: RFC 6585, section 5; 507: RFC 4918, section 11.5)
unfoldable pub reason_of : ℕ → List ℕ
reason_of code =
    if code == 200 then codes "OK" else (if code == 201 then codes "Created" else (if code == 204 then codes "No Content"
    else (if code == 301 then codes "Moved Permanently" else (if code == 304 then codes "Not Modified" else
    (if code == 400 then codes "Bad Request" else (if code == 401 then codes "Unauthorized" else (if code == 403 then codes "Forbidden"
    else (if code == 404 then codes "Not Found" else (if code == 405 then codes "Method Not Allowed" else
    (if code == 409 then codes "Conflict" else (if code == 412 then codes "Precondition Failed" else
    (if code == 413 then codes "Content Too Large" else (if code == 415 then codes "Unsupported Media Type"
    else (if code == 431 then codes "Request Header Fields Too Large" else (if code == 501 then codes "Not Implemented"
    else (if code == 507 then codes "Insufficient Storage" else []))))))))))))))))

-- whether a `Reply` may have the code; this project's choice
abbrev pub is_reply_code : ℕ → Bool
is_reply_code code =
    list_any (λ c. c == code) (200 ∷ 201 ∷ 204 ∷ 301 ∷ 400 ∷ 401 ∷ 403 ∷ 404 ∷ 405 ∷ 413 ∷ 415 ∷ 431 ∷ 501 ∷ 507 ∷ [])

-- the codes of faults (RFC 9110, sections 15.5.1, 15.5.14 and 15.6.2; RFC 6585, section 5)
abbrev pub is_fault_code : ℕ → Bool
is_fault_code code = (code == 400) || (code == 413) || (code == 431) || (code == 501)

-- the code and its reason phrase (RFC 9112, section 4)
abbrev pub status_of : ℕ → List ℕ
status_of code = decimal code ++ codes " " ++ reason_of code

-- the content: of 200 the reply's body, else the status and LF (this project's choice)
abbrev pub content_of : Reply → List ℕ
content_of reply = if reply.code == 200 then reply.body else status_of reply.code ++ codes "\n"

-- a field line (RFC 9112, section 5)
unfoldable pub field_line : List ℕ → List ℕ → List ℕ
field_line name value = name ++ codes ": " ++ value ++ codes "\r\n"

-- the text where the test holds
abbrev pub where_true : Bool → List ℕ → List ℕ
where_true test text = if test then text else []

-- the type of the content (RFC 9110, section 8.3)
abbrev pub content_type : Bool → List ℕ
content_type html = if html then codes "text/html; charset=utf-8" else codes "text/plain; charset=utf-8"

-- what says of the content its type and its length (RFC 9110, sections 8.3 and 8.6), which 204 has not
abbrev pub content_lines : Reply → List ℕ
content_lines reply = where_true (not (reply.code == 204))
    (field_line (codes "Content-Type") (content_type reply.html) ++ field_line (codes "Content-Length")
    (decimal (length (content_of reply))))

-- where the resource is (RFC 9110, section 10.2.2)
abbrev pub location_line : Option (List ℕ) → List ℕ
location_line None = []
location_line (Some location) = field_line (codes "Location") location

-- the methods of a resource: a page is read and written, of the others each is read, is written or takes texts, and no more
abbrev pub allowed_methods : Allow → List ℕ
allowed_methods Page = codes "GET, HEAD, PUT, DELETE"
allowed_methods Read = codes "GET, HEAD"
allowed_methods Write = codes "PUT"
allowed_methods Post = codes "POST"
allowed_methods Nothing = []

-- the methods that a resource has (RFC 9110, section 10.2.1)
abbrev pub allow_line : Option Allow → List ℕ
allow_line None = []
allow_line (Some allow) = field_line (codes "Allow") (allowed_methods allow)

-- how to ask again after 401 (RFC 9110, section 11.6.1)
abbrev pub challenge_line : ℕ → List ℕ
challenge_line code = where_true (code == 401) (field_line (codes "WWW-Authenticate") bearer_challenge)

-- that no further request is read (RFC 9112, section 9.6)
abbrev pub close_line : Bool → List ℕ
close_line close = where_true close (field_line (codes "Connection") (codes "close"))

-- the field lines of a reply
abbrev pub field_lines : Reply → Bool → List ℕ
field_lines reply close =
    content_lines reply ++ location_line reply.location ++ allow_line reply.allow ++ challenge_line reply.code ++ close_line close

-- the head of a reply, with the empty line that ends it (RFC 9112, sections 2.1 and 4)
unfoldable pub reply_head : Reply → Bool → List ℕ
reply_head reply close =
    codes "HTTP/1.1 " ++ status_of reply.code ++ codes "\r\n" ++ field_lines reply close ++ codes "\r\n"

-- the bytes of a reply: its head, and its content where it has one and more than the head is asked for (RFC 9112, section 6.3)
unfoldable pub reply_bytes : Reply → Bool → Bool → List ℕ
reply_bytes reply head_only close =
    reply_head reply close ++ where_true (not head_only && not (reply.code == 204)) (content_of reply)
