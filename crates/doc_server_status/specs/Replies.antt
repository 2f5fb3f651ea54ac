-- Replies at the door as bytes (RFC 9112).
use Rattle.std.specs.Prelude.{ℕ, ◌==◌, Bool, List, [], ◌++◌, codes, decimal, if◌then◌else◌, length}
use Rattle.doc_server_status.specs.declared.head.Shown.{Shown}

-- the reason phrase of 200, 404, 405 or 503, the codes that are said here (RFC 9110, section 15)
unfoldable pub reason_of : ℕ → List ℕ
reason_of code =
    if code == 200 then codes "OK" else (if code == 404 then codes "Not Found"
    else (if code == 503 then codes "Service Unavailable" else codes "Method Not Allowed"))

-- the type of the content (RFC 9110, section 8.3; Prometheus' text format)
abbrev pub kind_of : Bool → List ℕ
kind_of metrics = if metrics then codes "text/plain; version=0.0.4; charset=utf-8" else codes "text/plain; charset=utf-8"

unfoldable pub status_line : ℕ → List ℕ
status_line code = codes "HTTP/1.1 " ++ decimal code ++ codes " " ++ reason_of code ++ codes "\r\n"

unfoldable pub type_line : Bool → List ℕ
type_line metrics = codes "Content-Type: " ++ kind_of metrics ++ codes "\r\n"

-- the length of the content, whether it is sent or not (RFC 9110, section 8.6)
unfoldable pub length_line : ℕ → List ℕ
length_line len = codes "Content-Length: " ++ decimal len ++ codes "\r\n"

-- which methods there are (RFC 9110, section 15.5.6)
abbrev pub allow_line : ℕ → List ℕ
allow_line code = if code == 405 then codes "Allow: GET, HEAD\r\n" else []

-- the head, and the empty line that ends it; no further request is read (RFC 9112, section 9.6)
unfoldable pub head_of : Shown → List ℕ
head_of shown =
    status_line shown.code ++ type_line shown.metrics ++ length_line (length shown.content) ++ allow_line shown.code
    ++ codes "Connection: close\r\n\r\n"

-- the reply; to HEAD it has no content (RFC 9110, section 9.3.2)
unfoldable pub written : Shown → Bool → List ℕ
written shown head_only = head_of shown ++ (if head_only then [] else shown.content)
