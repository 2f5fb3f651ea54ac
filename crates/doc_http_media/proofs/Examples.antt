-- Worked examples: replies that are media.
use Rattle.std.proofs.Common.{◌≡◌, Bool, List, ℕ, true, false, codes, refl}
use Rattle.std.specs.Fmt.{digits}
use Rattle.doc_http_replies.specs.Heads.{cache_line, nosniff_line, vary_line}
use Rattle.doc_http_media.specs.MediumReplies.{MediumReply, box_line, medium_bytes, saved_line}
use Rattle.doc_http_replies.specs.PeopleReplies.{typed_lines}
use Rattle.doc_http_replies.specs.Replies.{field_line, reason_of}

-- one name to unfold where an example computes
unfoldable computing : Unit {0}
unfolding digits reason_of field_line nosniff_line cache_line vary_line typed_lines box_line saved_line medium_bytes
computing = tt

unfoldable a_picture : Bool → MediumReply
a_picture private = record { kind = codes "image/png"; boxed = false; saved = false; private = private; body = codes "8 bytes!" }

unfoldable a_drawing : MediumReply
a_drawing = record {
  kind = codes "image/svg+xml";
  boxed = true;
  saved = false;
  private = false;
  body = codes "<svg xmlns=\"http://www.w3.org/2000/svg\"/>";
}

unfoldable a_table : Bool → MediumReply
a_table private = record { kind = codes "text/csv; charset=utf-8"; boxed = false; saved = true; private = private; body = codes "a,b\n" }

a_picture_is_shown : medium_bytes (a_picture false) false false
    ≡ codes "HTTP/1.1 200 OK\r\nContent-Type: image/png\r\nContent-Length: 8\r\nX-Content-Type-Options: nosniff\r\n\r\n8 bytes!"
unfolding computing a_picture
a_picture_is_shown = refl

a_picture_by_its_head : medium_bytes (a_picture false) true false
    ≡ codes "HTTP/1.1 200 OK\r\nContent-Type: image/png\r\nContent-Length: 8\r\nX-Content-Type-Options: nosniff\r\n\r\n"
unfolding computing a_picture
a_picture_by_its_head = refl

a_picture_to_a_guest : medium_bytes (a_picture true) true false
    ≡ codes "HTTP/1.1 200 OK\r\nContent-Type: image/png\r\nContent-Length: 8\r\nX-Content-Type-Options: nosniff\r\nCache-Control: private, no-cache\r\nVary: Accept, Authorization\r\n\r\n"
unfolding computing a_picture
a_picture_to_a_guest = refl

a_drawing_is_boxed : medium_bytes a_drawing true false
    ≡ codes "HTTP/1.1 200 OK\r\nContent-Type: image/svg+xml\r\nContent-Length: 41\r\nContent-Security-Policy: default-src 'none'; style-src 'unsafe-inline'; sandbox\r\nX-Content-Type-Options: nosniff\r\n\r\n"
unfolding computing a_drawing
a_drawing_is_boxed = refl

a_table_is_saved : medium_bytes (a_table false) false true
    ≡ codes "HTTP/1.1 200 OK\r\nContent-Type: text/csv; charset=utf-8\r\nContent-Length: 4\r\nX-Content-Type-Options: nosniff\r\nContent-Disposition: attachment\r\nConnection: close\r\n\r\na,b\n"
unfolding computing a_table
a_table_is_saved = refl

a_table_to_a_guest : medium_bytes (a_table true) true true
    ≡ codes "HTTP/1.1 200 OK\r\nContent-Type: text/csv; charset=utf-8\r\nContent-Length: 4\r\nX-Content-Type-Options: nosniff\r\nContent-Disposition: attachment\r\nCache-Control: private, no-cache\r\nVary: Accept, Authorization\r\nConnection: close\r\n\r\n"
unfolding computing a_table
a_table_to_a_guest = refl
