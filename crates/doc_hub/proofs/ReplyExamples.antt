-- Worked examples: answers from a reader's view, the edits that go with them, and connections.
use Rattle.std.proofs.Common.{◌≡◌, ℕ, List, [], ◌∷◌, ◌++◌, Bool, true, false, codes, refl}
use Rattle.std.specs.Prelude.{replicate, Option, Some, None, Ok, Err, bytes_eq, if◌then◌else◌}
use Rattle.std.specs.Fmt.{digits}
use Rattle.std.specs.Str.{chars, is_utf8}
use Rattle.std.specs.Str.Lossy.{utf8_lossy, utf8_valid_len}
use lib.Utf8.{encode}
use Rattle.form_urlencoded.specs.Form.{raw_pairs, split}
use Rattle.percent_encoding.specs.Percent.{percent_decode, percent_encode_byte}
use Rattle.doc_page_parts.specs.Escaping.{escaped}
use Rattle.doc_page_parts.specs.Lines.{lines, without_ending, stripped}
use Rattle.doc_page_parts.specs.Pages.{filled}
use Rattle.doc_page_parts.specs.Paths.{is_path}
use Rattle.doc_page.specs.Plain.{paragraphs, plain_html, plain_page}
use Rattle.doc_page_parts.specs.declared.rendered.Piece.TheVariants.{Html, Link}
use Rattle.doc_page_parts.specs.declared.rendered.Rendered.{Rendered}
use Rattle.doc_store_readers.specs.Groups.{groups_of_names}
use Rattle.doc_store_readers.specs.Pages.{Page}
use Rattle.doc_store_readers.specs.Sites.{View, view_of}
use Rattle.doc_media.specs.Media.{beside_of}
use Rattle.doc_store.specs.Store.{text_limit, page_limit}
use Rattle.doc_store_readers.specs.declared.reader.Reader.{Reader}
use Rattle.doc_http_replies.specs.Replies.{reason_of, field_line, reply_head, reply_bytes}
use Rattle.doc_http.specs.declared.request.Next.TheVariants as nexts
use Rattle.doc_http.specs.declared.request.Request.{Request}
use Rattle.doc_resolve.specs.DotSegments.{put_all, without_dots}
use Rattle.doc_page_encoding.specs.Encoding.{encoded, encoded_path}
use Rattle.doc_resolve.specs.Links.{kind_on, kinds}
use Rattle.doc_resolve.specs.References.{reference}
use Rattle.doc_resolve.specs.Resolution.{resolve}
use Rattle.doc_resolve.specs.WrittenPaths.{path_written as target_path_written}
use Rattle.doc_links_pages.specs.Links.{backlinks, broken, contents}
use Rattle.doc_media_links.specs.Images.{broken_images}
use Rattle.doc_listings.specs.Listings.{backlinks_text, entry_lines, heading_line, report_text}
use Rattle.doc_hub.specs.Connections.{pushed_onto, finished, backlog_limit}
use Rattle.doc_hub_replies.specs.Edits.{puts_taken}
use Rattle.doc_hub_replies.specs.Replies.{Renders, fault_bytes}
use Rattle.doc_hub_asking.specs.Asking.{known_by}
use Rattle.doc_hub_replies.specs.MediaAnswers.{media_response}
use Rattle.doc_hub_replies.specs.Answers.{answer_of}
use Rattle.doc_hub_replies.specs.TakingEdits.{answer_given}
use Rattle.doc_http_replies.specs.Heads.{dressed_bytes, dressed_head}
use Rattle.doc_hub.specs.StepEdits.{edit_of_step}
use Rattle.doc_hub.specs.Worlds.{World, asking_of, plain_settings, reader_of}
use Rattle.doc_http_targets.specs.Queries.{value_of}
use Rattle.doc_http_targets.specs.Targets.{origin_form, route_of}
use Rattle.doc_http_targets.specs.WrittenPaths.{path_written}
use Rattle.doc_hub_replies.specs.Answer.{Answer}
use Rattle.doc_hub.specs.declared.connection.Connection.{Connection}
use Rattle.doc_hub_events.specs.declared.refusal.PushError.TheVariants.{Closed}
use Rattle.doc_hub_replies.specs.Edit.{Edit}
use Rattle.doc_hub_replies.specs.Edit.TheVariants as edits

-- one name to unfold where an example computes
unfoldable computing : Unit {0}
unfolding digits chars is_utf8 encode percent_decode percent_encode_byte encoded encoded_path kind_on target_path_written put_all reference
    resolve without_dots escaped lines without_ending stripped filled is_path paragraphs plain_html reason_of field_line reply_head
    reply_bytes dressed_head dressed_bytes answer_given answer_of media_response origin_form route_of path_written value_of raw_pairs split utf8_lossy
    utf8_valid_len
    groups_of_names text_limit
    page_limit backlog_limit kinds backlinks broken broken_images contents backlinks_text entry_lines heading_line report_text
computing = tt

-- the pages of the demonstration site
abbrev page_a : List ℕ × Page
page_a = (codes "a.md", record { groups = codes "staff" ∷ []; text = codes "Hello\n" })

abbrev page_b : List ℕ × Page
page_b = (codes "b.md", record { groups = codes "staff" ∷ []; text = codes "[c](c.md) [d](d.md)\n" })

abbrev page_c : List ℕ × Page
page_c = (codes "c.md", record { groups = codes "ops" ∷ []; text = codes "See [b](b.md), [b](b.md).\n" })

-- what a reader of staff sees of it, what an owner does, and what is seen of a site without pages
abbrev staff_view : View
staff_view = record { pages = page_a ∷ page_b ∷ []; aliases = [] }

abbrev owner_view : View
owner_view = record { pages = page_a ∷ page_b ∷ page_c ∷ []; aliases = [] }

abbrev empty_view : View
empty_view = record { pages = []; aliases = [] }

abbrev ann : Option Reader
ann = Some (record { owner = false; groups = codes "staff" ∷ [] })

abbrev owner : Option Reader
owner = Some (record { owner = true; groups = [] })

abbrev asked : List ℕ → List ℕ → Request
asked method target = record {
  method = method;
  target = target;
  authorization = None;
  close = false;
  html = false;
  markdown = false;
  if_match = None;
  if_none_match = None;
  body = [];
}

-- the answer to whom an entry names, without pages for people
abbrev answer_by_entry : Renders → View → Option Reader → Bool → Bool → Request → Answer
answer_by_entry render view reader left keep_alive request =
    answer_given (plain_settings keep_alive) render view None (known_by reader) left request

page_reply_bytes : (answer_by_entry plain_page staff_view ann true true (asked (codes "GET") (codes "/page/a.md"))).bytes
    ≡ codes "HTTP/1.1 200 OK\r\nContent-Type: text/html; charset=utf-8\r\n"
    ++ codes "Content-Length: 49\r\n\r\n<!DOCTYPE html>\n<title>a.md</title>\n<p>Hello</p>\n"
unfolding computing
page_reply_bytes = refl

-- ---- links, with a table of what a renderer makes of the texts

-- a renderer that knows the text of `b.md`, and shows any other text as it stands
abbrev rendered_b : Rendered
rendered_b = record {
  pieces = Html (codes "<p>") ∷ Link (record { dest = codes "c.md"; title = None }) ∷ Html (codes "c</a> ") ∷ Link
      (record { dest = codes "d.md"; title = None }) ∷ Html (codes "d</a></p>\n") ∷ [];
  headings = [];
  texts = [];
  images = [];
}

abbrev by_table : Renders
by_table text =
    if bytes_eq text page_b.1.text then rendered_b
    else record { pieces = Html text ∷ []; headings = []; texts = []; images = [] }

-- the reader of staff sees no `c.md`: it is shown as `d.md` is, which nobody has
links_for_staff : (answer_by_entry by_table staff_view ann true true (asked (codes "GET") (codes "/page/b.md"))).bytes
    ≡ codes "HTTP/1.1 200 OK\r\nContent-Type: text/html; charset=utf-8\r\n"
    ++ codes "Content-Length: 93\r\n\r\n<!DOCTYPE html>\n<title>b.md</title>\n"
    ++ codes "<p><a class=\"missing\">c</a> <a class=\"missing\">d</a></p>\n"
unfolding computing
links_for_staff = refl

links_for_an_owner : (answer_by_entry by_table owner_view owner true true (asked (codes "GET") (codes "/page/b.md"))).bytes
    ≡ codes "HTTP/1.1 200 OK\r\nContent-Type: text/html; charset=utf-8\r\n"
    ++ codes "Content-Length: 95\r\n\r\n<!DOCTYPE html>\n<title>b.md</title>\n"
    ++ codes "<p><a href=\"/page/c.md\">c</a> <a class=\"missing\">d</a></p>\n"
unfolding computing
links_for_an_owner = refl

-- an alias leads to its page, where the reader sees that
abbrev moved_view : View
moved_view = record { pages = page_a ∷ page_b ∷ (codes "e/c.md", page_c.1) ∷ []; aliases = (codes "c.md", codes "e/c.md") ∷ [] }

links_after_a_move : (answer_by_entry by_table moved_view owner true true (asked (codes "GET") (codes "/page/b.md"))).bytes
    ≡ codes "HTTP/1.1 200 OK\r\nContent-Type: text/html; charset=utf-8\r\n"
    ++ codes "Content-Length: 97\r\n\r\n<!DOCTYPE html>\n<title>b.md</title>\n"
    ++ codes "<p><a href=\"/page/e/c.md\">c</a> <a class=\"missing\">d</a></p>\n"
unfolding computing
links_after_a_move = refl

unknown_reader : (answer_by_entry plain_page empty_view None true true (asked (codes "GET") (codes "/page/a.md"))).bytes
    ≡ codes "HTTP/1.1 401 Unauthorized\r\nContent-Type: text/plain; charset=utf-8\r\n"
    ++ codes "Content-Length: 17\r\nWWW-Authenticate: Bearer realm=\"docs\"\r\n\r\n401 Unauthorized\n"
unfolding computing
unknown_reader = refl

unknown_reader_and_route : (answer_by_entry plain_page empty_view None true true (asked (codes "PUT") (codes "/x"))).bytes
    ≡ codes "HTTP/1.1 401 Unauthorized\r\nContent-Type: text/plain; charset=utf-8\r\n"
    ++ codes "Content-Length: 17\r\nWWW-Authenticate: Bearer realm=\"docs\"\r\n\r\n401 Unauthorized\n"
unfolding computing
unknown_reader_and_route = refl

hidden_page : (answer_by_entry plain_page staff_view ann true true (asked (codes "GET") (codes "/page/c.md"))).bytes
    ≡ codes "HTTP/1.1 404 Not Found\r\nContent-Type: text/plain; charset=utf-8\r\nContent-Length: 14\r\n\r\n404 Not Found\n"
unfolding computing
hidden_page = refl

absent_page : (answer_by_entry plain_page staff_view ann true true (asked (codes "GET") (codes "/page/zz.md"))).bytes
    ≡ (answer_by_entry plain_page staff_view ann true true (asked (codes "GET") (codes "/page/c.md"))).bytes
unfolding computing
absent_page = refl

dot_segments : (answer_by_entry plain_page staff_view ann true true (asked (codes "GET") (codes "/page/%2e%2e"))).bytes
    ≡ (answer_by_entry plain_page staff_view ann true true (asked (codes "GET") (codes "/page/c.md"))).bytes
unfolding computing
dot_segments = refl

head_has_no_body : (answer_by_entry plain_page staff_view ann true true (asked (codes "HEAD") (codes "/Contents"))).bytes
    ≡ codes "HTTP/1.1 404 Not Found\r\nContent-Type: text/plain; charset=utf-8\r\nContent-Length: 14\r\n\r\n"
unfolding computing
head_has_no_body = refl

without_keep_alive : (answer_by_entry plain_page staff_view ann true false (asked (codes "GET") (codes "/page/zz.md"))).bytes
    ≡ codes "HTTP/1.1 404 Not Found\r\nContent-Type: text/plain; charset=utf-8\r\n"
    ++ codes "Content-Length: 14\r\nConnection: close\r\n\r\n404 Not Found\n"
unfolding computing
without_keep_alive = refl

bare_fault : fault_bytes 501 true
    ≡ codes "HTTP/1.1 501 Not Implemented\r\nContent-Type: text/plain; charset=utf-8\r\nContent-Length: 20\r\nConnection: close\r\n\r\n"
unfolding computing
bare_fault = refl

bad_request : fault_bytes 400 false
    ≡ codes "HTTP/1.1 400 Bad Request\r\nContent-Type: text/plain; charset=utf-8\r\n"
    ++ codes "Content-Length: 16\r\nConnection: close\r\n\r\n400 Bad Request\n"
unfolding computing
bad_request = refl

-- ---- methods, aliases and edits

-- the answer of a server that keeps connections alive and has puts left
abbrev answered : View → Option Reader → Request → Answer
answered view reader request = answer_by_entry plain_page view reader true true request

abbrev sent : List ℕ → List ℕ → List ℕ → Request
sent method target body = record (asked method target) { body = body }

-- an answer that edits nothing, and one that goes with an edit; the connection stays open after both
abbrev only : List ℕ → Answer
only bytes = record { bytes = bytes; closes = false; edit = None }

abbrev with_edit : List ℕ → Edit → Answer
with_edit bytes edit = record { bytes = bytes; closes = false; edit = Some edit }

abbrev created : List ℕ
created = codes "HTTP/1.1 201 Created\r\nContent-Type: text/plain; charset=utf-8\r\nContent-Length: 12\r\n\r\n201 Created\n"

abbrev no_content : List ℕ
no_content = codes "HTTP/1.1 204 No Content\r\n\r\n"

abbrev bad : List ℕ
bad = codes "HTTP/1.1 400 Bad Request\r\nContent-Type: text/plain; charset=utf-8\r\nContent-Length: 16\r\n\r\n400 Bad Request\n"

abbrev forbidden : List ℕ
forbidden = codes "HTTP/1.1 403 Forbidden\r\nContent-Type: text/plain; charset=utf-8\r\nContent-Length: 14\r\n\r\n403 Forbidden\n"

abbrev not_found : List ℕ
not_found = codes "HTTP/1.1 404 Not Found\r\nContent-Type: text/plain; charset=utf-8\r\nContent-Length: 14\r\n\r\n404 Not Found\n"

abbrev other_method : List ℕ
other_method = codes
    "HTTP/1.1 405 Method Not Allowed\r\nContent-Type: text/plain; charset=utf-8\r\n"
    ++ codes "Content-Length: 23\r\nAllow: GET, HEAD, PUT, DELETE\r\n\r\n405 Method Not Allowed\n"

abbrev full : List ℕ
full = codes
    "HTTP/1.1 507 Insufficient Storage\r\nContent-Type: text/plain; charset=utf-8\r\nContent-Length: 25\r\n\r\n507 Insufficient Storage\n"

-- the methods of a page; methods have case
patch : answered staff_view ann (asked (codes "PATCH") (codes "/page/a.md")) ≡ only other_method
unfolding computing
patch = refl

small_get : answered owner_view owner (asked (codes "get") (codes "/page/a.md")) ≡ only other_method
unfolding computing
small_get = refl

-- the route is refused before the method, and the reader before both
patch_of_no_route : answered staff_view ann (asked (codes "PATCH") (codes "/x")) ≡ only not_found
unfolding computing
patch_of_no_route = refl

unknown_reader_patches : (answered empty_view None (asked (codes "PATCH") (codes "/page/a.md"))).bytes
    ≡ (answered empty_view None (asked (codes "GET") (codes "/page/a.md"))).bytes
unfolding computing
unknown_reader_patches = refl

-- HEAD has the head that GET has, and nothing else
head_of_a_page : answered staff_view ann (asked (codes "HEAD") (codes "/page/a.md"))
    ≡ only (codes "HTTP/1.1 200 OK\r\nContent-Type: text/html; charset=utf-8\r\nContent-Length: 49\r\n\r\n")
unfolding computing
head_of_a_page = refl

-- an alias leads to its page, where that is in the view; else it is nothing
get_of_an_alias : answered moved_view owner (asked (codes "GET") (codes "/page/c.md?x"))
    ≡ only (codes
    "HTTP/1.1 301 Moved Permanently\r\nContent-Type: text/plain; charset=utf-8\r\n"
    ++ codes "Content-Length: 22\r\nLocation: /page/e/c.md\r\n\r\n301 Moved Permanently\n")
unfolding computing
get_of_an_alias = refl

head_of_an_alias : answered moved_view owner (asked (codes "HEAD") (codes "/page/c.md"))
    ≡ only (codes
    "HTTP/1.1 301 Moved Permanently\r\nContent-Type: text/plain; charset=utf-8\r\nContent-Length: 22\r\nLocation: /page/e/c.md\r\n\r\n")
unfolding computing
head_of_an_alias = refl

-- of a location all bytes are encoded but letters, digits and `-._~`
encoded_location : answered (record { pages = (codes "c++.md", page_c.1) ∷ []; aliases = (codes "c.md", codes "c++.md") ∷ [] }) owner
    (asked (codes "GET") (codes "/page/c.md"))
    ≡ only (codes
    "HTTP/1.1 301 Moved Permanently\r\nContent-Type: text/plain; charset=utf-8\r\n"
    ++ codes "Content-Length: 22\r\nLocation: /page/c%2B%2B.md\r\n\r\n301 Moved Permanently\n")
unfolding computing
encoded_location = refl

alias_out_of_view : answered staff_view ann (asked (codes "GET") (codes "/page/c.md")) ≡ only not_found
unfolding computing
alias_out_of_view = refl

-- an owner's PUT
put_of_a_new_page : answered owner_view owner (sent (codes "PUT") (codes "/page/n.md?groups=staff") (codes "hi"))
    ≡ with_edit created (edits.Put (codes "n.md") (codes "staff" ∷ []))
unfolding computing
put_of_a_new_page = refl

-- without groups the page has none, whatever it had
put_of_an_old_page : answered owner_view owner (sent (codes "PUT") (codes "/page/a.md") (codes "hi"))
    ≡ with_edit no_content (edits.Put (codes "a.md") [])
unfolding computing
put_of_an_old_page = refl

put_of_an_alias : answered moved_view owner (sent (codes "PUT") (codes "/page/c.md") (codes "hi"))
    ≡ with_edit created (edits.Put (codes "c.md") [])
unfolding computing
put_of_an_alias = refl

put_of_a_folder : answered owner_view owner (sent (codes "PUT") (codes "/page/guide/") (codes "hi"))
    ≡ with_edit created (edits.Put (codes "guide/index.md") [])
unfolding computing
put_of_a_folder = refl

put_of_an_empty_text : answered owner_view owner (sent (codes "PUT") (codes "/page/a.md") [])
    ≡ with_edit no_content (edits.Put (codes "a.md") [])
unfolding computing
put_of_an_empty_text = refl

-- the first pair of the name counts; `%2C` is a comma
first_groups : answered owner_view owner (sent (codes "PUT") (codes "/page/n.md?x=y&groups=staff%2Cops&groups=A") (codes "hi"))
    ≡ with_edit created (edits.Put (codes "n.md") (codes "ops" ∷ codes "staff" ∷ []))
unfolding computing
first_groups = refl

-- `+` is a space, which no group has
put_of_bad_groups : answered owner_view owner (sent (codes "PUT") (codes "/page/n.md?groups=staff,+ops") (codes "hi")) ≡ only bad
unfolding computing
put_of_bad_groups = refl

put_of_an_empty_group : answered owner_view owner (sent (codes "PUT") (codes "/page/a.md?groups=a,,b") (codes "hi")) ≡ only bad
unfolding computing
put_of_an_empty_group = refl

put_of_no_utf8 : answered owner_view owner (sent (codes "PUT") (codes "/page/n.md") (255 ∷ [])) ≡ only bad
unfolding computing
put_of_no_utf8 = refl

put_of_a_bad_path : answered owner_view owner (sent (codes "PUT") (codes "/page/%2e%2e") (codes "hi")) ≡ only bad
unfolding computing
put_of_a_bad_path = refl

put_where_it_closes : answer_by_entry plain_page owner_view owner true false (sent (codes "PUT") (codes "/page/a.md") (codes "hi"))
    ≡ record {
      bytes = codes "HTTP/1.1 204 No Content\r\nConnection: close\r\n\r\n";
      closes = true;
      edit = Some
          (edits.Put (codes "a.md") []);
    }
unfolding computing
put_where_it_closes = refl

-- where no put is left, also of an old page; what is bad is refused before
put_of_none_left : answer_by_entry plain_page owner_view owner false true (sent (codes "PUT") (codes "/page/n.md") (codes "hi")) ≡ only full
unfolding computing
put_of_none_left = refl

old_put_of_none_left : answer_by_entry plain_page owner_view owner false true (sent (codes "PUT") (codes "/page/a.md") (codes "hi")) ≡ only full
unfolding computing
old_put_of_none_left = refl

bad_put_of_none_left : answer_by_entry plain_page owner_view owner false true (sent (codes "PUT") (codes "/page/n.md?groups=A") (codes "hi"))
    ≡ only bad
unfolding computing
bad_put_of_none_left = refl

-- where 10,000 pages stand, a new one is refused and an old one is written; where one fewer stands, a new one is the last
abbrev pages_in_number : ℕ → View
pages_in_number n = record { pages = replicate n page_a; aliases = [] }

put_into_a_full_site : answered (pages_in_number 10000) owner (sent (codes "PUT") (codes "/page/n.md") (codes "hi")) ≡ only full
unfolding computing
put_into_a_full_site = refl

old_put_into_a_full_site : answered (pages_in_number 10000) owner (sent (codes "PUT") (codes "/page/a.md") (codes "hi"))
    ≡ with_edit no_content (edits.Put (codes "a.md") [])
unfolding computing
old_put_into_a_full_site = refl

last_put : answered (pages_in_number 9999) owner (sent (codes "PUT") (codes "/page/n.md") (codes "hi"))
    ≡ with_edit created (edits.Put (codes "n.md") [])
unfolding computing
last_put = refl

-- a reader who is no owner writes nothing, whatever the path and the groups are
put_by_another : answered staff_view ann (sent (codes "PUT") (codes "/page/a.md") (codes "hi")) ≡ only forbidden
unfolding computing
put_by_another = refl

bad_put_by_another : answered staff_view ann (sent (codes "PUT") (codes "/page/%2e%2e?groups=A") (255 ∷ [])) ≡ only forbidden
unfolding computing
bad_put_by_another = refl

removal_by_another : answered staff_view ann (asked (codes "DELETE") (codes "/page/zz.md")) ≡ only forbidden
unfolding computing
removal_by_another = refl

-- an owner's DELETE; it takes no put
removal : answer_by_entry plain_page owner_view owner false true (asked (codes "DELETE") (codes "/page/a.md"))
    ≡ with_edit no_content (edits.Remove (codes "a.md"))
unfolding computing
removal = refl

removal_of_no_page : answered owner_view owner (asked (codes "DELETE") (codes "/page/zz.md")) ≡ only not_found
unfolding computing
removal_of_no_page = refl

removal_of_an_alias : answered moved_view owner (asked (codes "DELETE") (codes "/page/c.md")) ≡ only not_found
unfolding computing
removal_of_an_alias = refl

removal_of_a_bad_path : answered owner_view owner (asked (codes "DELETE") (codes "/page/%2e%2e")) ≡ only not_found
unfolding computing
removal_of_a_bad_path = refl

-- ---- the edit that a step tells

-- by what a step knows of a world for a request
abbrev edit_seen : View → Option Reader → Bool → Request → Option Edit
edit_seen view reader left request = (answer_by_entry plain_page view reader left true request).edit

step_tells_what_is_seen : (w : World) (used : ℕ) (request : Request) (view : View) (reader : Option Reader) (left : Bool)
    → view_of w.site (reader_of w request) ≡ view → beside_of w.media (reader_of w request) ≡ None → asking_of w request ≡ known_by reader
    → puts_taken w.takes_puts w.puts ≡ left
    → w.settings ≡ plain_settings true
    → edit_of_step plain_page w (nexts.Request used request) ≡ edit_seen view reader left request
step_tells_what_is_seen w used request view reader left sees none is remains keeps =
    λ i. (answer_given (keeps i) plain_page (sees i) (none i) (is i) (remains i) request).edit

step_of_a_fault : (w : World) → edit_of_step plain_page w (nexts.Fault 400 false) ≡ None
step_of_a_fault w = refl

step_of_no_request : (w : World) → edit_of_step plain_page w nexts.More ≡ None
step_of_no_request w = refl

step_of_a_get : edit_seen owner_view owner true (asked (codes "GET") (codes "/page/a.md")) ≡ None
unfolding computing
step_of_a_get = refl

step_of_a_put : edit_seen owner_view owner true (sent (codes "PUT") (codes "/page/n.md?groups=staff") (codes "hi")) ≡ Some (edits.Put (codes "n.md") (codes "staff" ∷ []))
unfolding computing
step_of_a_put = refl

step_of_a_put_of_an_old_page : edit_seen owner_view owner true (sent (codes "PUT") (codes "/page/a.md") (codes "hi"))
    ≡ Some (edits.Put (codes "a.md") [])
unfolding computing
step_of_a_put_of_an_old_page = refl

-- a put under an alias makes a page there; a removal under one is refused, since no page stands there
step_of_a_put_of_an_alias : edit_seen moved_view owner true (sent (codes "PUT") (codes "/page/c.md") (codes "hi"))
    ≡ Some (edits.Put (codes "c.md") [])
unfolding computing
step_of_a_put_of_an_alias = refl

step_of_a_removal_of_an_alias : edit_seen moved_view owner true (asked (codes "DELETE") (codes "/page/c.md")) ≡ None
unfolding computing
step_of_a_removal_of_an_alias = refl

step_of_a_removal : edit_seen owner_view owner true (asked (codes "DELETE") (codes "/page/a.md")) ≡ Some (edits.Remove (codes "a.md"))
unfolding computing
step_of_a_removal = refl

-- refused by 404, 403, 507, 400 and 401
step_of_a_removal_of_no_page : edit_seen owner_view owner true (asked (codes "DELETE") (codes "/page/zz.md")) ≡ None
unfolding computing
step_of_a_removal_of_no_page = refl

step_of_a_put_by_another : edit_seen staff_view ann true (sent (codes "PUT") (codes "/page/a.md") (codes "hi")) ≡ None
unfolding computing
step_of_a_put_by_another = refl

step_of_a_removal_by_another : edit_seen staff_view ann true (asked (codes "DELETE") (codes "/page/a.md")) ≡ None
unfolding computing
step_of_a_removal_by_another = refl

step_of_a_put_of_none_left : edit_seen owner_view owner false (sent (codes "PUT") (codes "/page/n.md") (codes "hi")) ≡ None
unfolding computing
step_of_a_put_of_none_left = refl

step_of_a_put_into_a_full_site : edit_seen (pages_in_number 10000) owner true (sent (codes "PUT") (codes "/page/n.md") (codes "hi")) ≡ None
unfolding computing
step_of_a_put_into_a_full_site = refl

step_of_a_put_of_bad_groups : edit_seen owner_view owner true (sent (codes "PUT") (codes "/page/n.md?groups=A") (codes "hi")) ≡ None
unfolding computing
step_of_a_put_of_bad_groups = refl

step_of_an_unknown_reader : edit_seen empty_view None true (sent (codes "PUT") (codes "/page/a.md") (codes "hi")) ≡ None
unfolding computing
step_of_an_unknown_reader = refl

-- ---- lists

-- the answer of such a server with the table of renderings
abbrev listed : View → Option Reader → Request → Answer
listed view reader request = answer_by_entry by_table view reader true true request

contents_of_staff : listed staff_view ann (asked (codes "GET") (codes "/contents"))
    ≡ only (codes "HTTP/1.1 200 OK\r\nContent-Type: text/html; charset=utf-8\r\nContent-Length: 129\r\n\r\n"
    ++ codes "<!DOCTYPE html>\n<title>Contents</title>\n<ul>\n<li><a href=\"/page/a.md\">a.md</a></li>\n<li><a href=\"/page/b.md\">b.md</a></li>\n</ul>\n")
unfolding computing
contents_of_staff = refl

head_of_contents : listed staff_view ann (asked (codes "HEAD") (codes "/contents?x"))
    ≡ only (codes "HTTP/1.1 200 OK\r\nContent-Type: text/html; charset=utf-8\r\nContent-Length: 129\r\n\r\n")
unfolding computing
head_of_contents = refl

-- who links to a page, where that is seen
backlinks_for_an_owner : listed owner_view owner (asked (codes "GET") (codes "/backlinks/c.md"))
    ≡ only (codes "HTTP/1.1 200 OK\r\nContent-Type: text/plain; charset=utf-8\r\nContent-Length: 7\r\n\r\n"
    ++ codes "b.md\t1\n")
unfolding computing
backlinks_for_an_owner = refl

backlinks_of_a_hidden_page : listed staff_view ann (asked (codes "GET") (codes "/backlinks/c.md")) ≡ only not_found
unfolding computing
backlinks_of_a_hidden_page = refl

backlinks_of_no_page : listed staff_view ann (asked (codes "GET") (codes "/backlinks/zz.md")) ≡ only not_found
unfolding computing
backlinks_of_no_page = refl

backlinks_of_a_bad_path : listed staff_view ann (asked (codes "GET") (codes "/backlinks/%2e%2e")) ≡ only not_found
unfolding computing
backlinks_of_a_bad_path = refl

backlinks_of_an_alias : listed moved_view owner (asked (codes "GET") (codes "/backlinks/c.md?x"))
    ≡ only (codes "HTTP/1.1 301 Moved Permanently\r\nContent-Type: text/plain; charset=utf-8\r\nContent-Length: 22\r\n"
    ++ codes "Location: /backlinks/e/c.md\r\n\r\n301 Moved Permanently\n")
unfolding computing
backlinks_of_an_alias = refl

backlinks_of_a_goal : listed moved_view owner (asked (codes "GET") (codes "/backlinks/e/c.md"))
    ≡ only (codes "HTTP/1.1 200 OK\r\nContent-Type: text/plain; charset=utf-8\r\nContent-Length: 7\r\n\r\n"
    ++ codes "b.md\t1\n")
unfolding computing
backlinks_of_a_goal = refl

-- a link to a hidden page is broken as one to no page is
broken_for_staff : listed staff_view ann (asked (codes "GET") (codes "/broken"))
    ≡ only (codes "HTTP/1.1 200 OK\r\nContent-Type: text/plain; charset=utf-8\r\nContent-Length: 34\r\n\r\n"
    ++ codes "b.md\t1\tpage\tc.md\nb.md\t2\tpage\td.md\n")
unfolding computing
broken_for_staff = refl

broken_for_an_owner : listed owner_view owner (asked (codes "GET") (codes "/broken"))
    ≡ only (codes "HTTP/1.1 200 OK\r\nContent-Type: text/plain; charset=utf-8\r\nContent-Length: 17\r\n\r\n"
    ++ codes "b.md\t2\tpage\td.md\n")
unfolding computing
broken_for_an_owner = refl

-- lists are read alone, by owners too; the reader comes before that, and the method before the path and the query
abbrev only_read : List ℕ
only_read = codes
    "HTTP/1.1 405 Method Not Allowed\r\nContent-Type: text/plain; charset=utf-8\r\n"
    ++ codes "Content-Length: 23\r\nAllow: GET, HEAD\r\n\r\n405 Method Not Allowed\n"

put_of_contents : listed owner_view owner (sent (codes "PUT") (codes "/contents") (codes "hi")) ≡ only only_read
unfolding computing
put_of_contents = refl

put_of_contents_by_another : listed staff_view ann (sent (codes "PUT") (codes "/contents") (codes "hi")) ≡ only only_read
unfolding computing
put_of_contents_by_another = refl

removal_of_backlinks : listed owner_view owner (asked (codes "DELETE") (codes "/backlinks/%2e%2e")) ≡ only only_read
unfolding computing
removal_of_backlinks = refl

post_of_a_search : listed staff_view ann (asked (codes "POST") (codes "/search")) ≡ only only_read
unfolding computing
post_of_a_search = refl

lists_of_an_unknown_reader : (listed empty_view None (asked (codes "PUT") (codes "/broken"))).bytes
    ≡ (listed empty_view None (asked (codes "GET") (codes "/page/a.md"))).bytes
unfolding computing
lists_of_an_unknown_reader = refl

-- ---- connections

abbrev half : Connection
half = record { unread = codes "GET /"; closed = false }

more_unread : pushed_onto half (codes "page") ≡ (record { unread = codes "GET /page"; closed = false }, Ok tt)
unfolding computing
more_unread = refl

closed_unread : pushed_onto (record half { closed = true }) (codes "page") ≡ (record half { closed = true }, Err Closed)
unfolding computing
closed_unread = refl

rest_stays : finished half 4 false ≡ record { unread = codes "/"; closed = false }
rest_stays = refl

nothing_stays : finished half 4 true ≡ record { unread = []; closed = true }
nothing_stays = refl
