-- Worked examples: answers in which media have a part, and those of the same paths to readers who see none there.
use Rattle.std.proofs.Common.{◌≡◌, ℕ, List, [], ◌∷◌, ◌++◌, Bool, true, false, codes, refl}
use Rattle.std.specs.Prelude.{Option, Some, None}
use Rattle.std.specs.Fmt.{digits}
use Rattle.std.specs.Path.{rsplit_once}
use Rattle.std.specs.Str.{chars, is_utf8}
use Rattle.std.specs.Str.Lossy.{utf8_lossy, utf8_valid_len}
use lib.Utf8.{encode}
use Rattle.form_urlencoded.specs.Form.{raw_pairs, split}
use Rattle.percent_encoding.specs.Percent.{percent_decode, percent_encode_byte}
use Rattle.doc_page_parts.specs.Paths.{is_path}
use Rattle.doc_page_parts.specs.declared.rendered.Rendered.{Rendered}
use Rattle.doc_store.specs.Store.{page_limit, text_limit}
use Rattle.doc_store_readers.specs.Groups.{groups_of_names}
use Rattle.doc_store_readers.specs.Pages.{Page}
use Rattle.doc_store_readers.specs.Sites.{View}
use Rattle.doc_store_readers.specs.declared.reader.Reader.{Reader}
use Rattle.doc_page_encoding.specs.Encoding.{encoded, encoded_path}
use Rattle.doc_resolve.specs.DotSegments.{put_all, without_dots}
use Rattle.doc_resolve.specs.WrittenPaths.{path_written as target_path_written}
use Rattle.doc_http.specs.declared.request.Request.{Request}
use Rattle.doc_http_conditions.specs.Verdicts.{verdict_of}
use Rattle.doc_http_media.specs.MediumReplies.{box_line, medium_bytes, saved_line}
use Rattle.doc_http_replies.specs.EditReplies.{edit_bytes}
use Rattle.doc_http_replies.specs.Heads.{cache_line, dressed_bytes, dressed_head, nosniff_line, vary_line}
use Rattle.doc_http_replies.specs.PeopleReplies.{typed_lines}
use Rattle.doc_http_replies.specs.Replies.{field_line, reason_of, reply_bytes, reply_head}
use Rattle.doc_http_targets.specs.PeopleTargets.{target_path}
use Rattle.doc_http_targets.specs.Queries.{value_of}
use Rattle.doc_http_targets.specs.Targets.{origin_form, route_of}
use Rattle.doc_http_targets.specs.WrittenPaths.{path_written}
use Rattle.doc_media.specs.Kinds.{kind_of}
use Rattle.doc_media.specs.Media.{Beside}
use Rattle.doc_people.specs.declared.settings.Browse.{Browse}
use Rattle.doc_people.specs.declared.settings.Settings.{Settings}
use Rattle.doc_hub_media.specs.Replies.{Renders}
use Rattle.doc_hub_media.specs.Answer.{Answer}
use Rattle.doc_hub_asking.specs.Asking.{Asking, Guest, Known}
use Rattle.doc_hub_media.specs.EditAnswers.{edit_response}
use Rattle.doc_hub_media.specs.MediaAnswers.{media_response}
use Rattle.doc_hub_replies.specs.Answers.{answer_of}

-- one name to unfold where an example computes
unfoldable computing : Unit {0}
unfolding digits chars is_utf8 utf8_lossy utf8_valid_len encode raw_pairs split percent_decode percent_encode_byte is_path groups_of_names
    encoded encoded_path put_all without_dots target_path_written box_line medium_bytes saved_line edit_bytes cache_line dressed_bytes
    dressed_head nosniff_line vary_line typed_lines field_line reason_of reply_bytes reply_head target_path value_of origin_form route_of
    path_written rsplit_once kind_of text_limit page_limit verdict_of edit_response media_response answer_of
computing = tt

abbrev for_staff : List ℕ → Page
for_staff text = record { groups = codes "staff" ∷ []; text = text }

-- a drawing of 41 bytes
abbrev drawing : List ℕ
drawing = codes "<svg xmlns=\"http://www.w3.org/2000/svg\"/>"

-- what readers of the staff see, owners too: a page, and the media beside it
abbrev staff_view : View
staff_view = record { pages = (codes "guide/start.md", for_staff (codes "# Start\n")) ∷ []; aliases = [] }

abbrev staff_media : Beside
staff_media =
    Some ((codes "guide/a.svg", for_staff drawing) ∷ (codes "guide/doc/spec.PDF", for_staff (codes "%PDF"))
    ∷ (codes "guide/pic.png", for_staff (codes "8 bytes!")) ∷ (codes "guide/t.csv", for_staff (codes "a,b\n")) ∷ [])

-- what others see
abbrev no_view : View
no_view = record { pages = []; aliases = [] }

abbrev no_media : Beside
no_media = Some []

abbrev ann : Asking
ann = Known (record { owner = false; groups = codes "staff" ∷ [] })

abbrev a_guest : Asking
a_guest = Guest (record { owner = false; groups = codes "staff" ∷ [] })

abbrev bob : Asking
bob = Known (record { owner = false; groups = [] })

abbrev an_owner : Asking
an_owner = Known (record { owner = true; groups = [] })

abbrev where_edited : Browse
where_edited = record {
  title = codes "Handbook";
  language = codes "en";
  home = codes "index.md";
  guest = None;
  login = false;
  editing = true;
}

abbrev without_pages_for_people : Settings
without_pages_for_people = record { keep_alive = true; takes_edits = true; browse = None }

abbrev with_editing : Settings
with_editing = record { keep_alive = true; takes_edits = true; browse = Some where_edited }

abbrev a_request : List ℕ → List ℕ → Request
a_request method target = record {
  method = method;
  target = target;
  authorization = None;
  close = false;
  html = false;
  markdown = false;
  if_match = None;
  if_none_match = None;
  body = [];
}

-- a renderer of which nothing is asked here
abbrev nothing : Renders
nothing text = record { pieces = []; headings = []; texts = []; images = [] }

-- what each is answered
abbrev to_ann : Request → Answer
to_ann request = answer_of without_pages_for_people nothing staff_view staff_media ann true request

abbrev to_bob : Request → Answer
to_bob request = answer_of without_pages_for_people nothing no_view no_media bob true request

abbrev to_owner : Request → Answer
to_owner request = answer_of without_pages_for_people nothing staff_view staff_media an_owner true request

abbrev to_editor : Request → Answer
to_editor request = answer_of with_editing nothing staff_view staff_media an_owner true request

-- with pages for people
abbrev to_person : Asking → Request → Answer
to_person asking request = answer_of with_editing nothing staff_view staff_media asking true request

-- where a page stands under the name of a medium
abbrev to_owner_of_old : Request → Answer
to_owner_of_old request =
    answer_of without_pages_for_people nothing (record { pages = (codes "old.png", for_staff []) ∷ []; aliases = [] }) no_media an_owner
    true request

-- without media
abbrev to_owner_without : Request → Answer
to_owner_without request = answer_of without_pages_for_people nothing staff_view None an_owner true request

-- ---- what is read

a_picture : (to_ann (a_request (codes "GET") (codes "/page/guide/pic.png"))).bytes
    ≡ codes "HTTP/1.1 200 OK\r\nContent-Type: image/png\r\nContent-Length: 8\r\nX-Content-Type-Options: nosniff\r\n\r\n8 bytes!"
unfolding computing
a_picture = refl

a_picture_by_its_head : (to_ann (a_request (codes "HEAD") (codes "/page/guide/pic.png"))).bytes
    ≡ codes "HTTP/1.1 200 OK\r\nContent-Type: image/png\r\nContent-Length: 8\r\nX-Content-Type-Options: nosniff\r\n\r\n"
unfolding computing
a_picture_by_its_head = refl

a_drawing : (to_ann (a_request (codes "GET") (codes "/page/guide/a.svg"))).bytes
    ≡ codes "HTTP/1.1 200 OK\r\nContent-Type: image/svg+xml\r\nContent-Length: 41\r\n"
    ++ codes "Content-Security-Policy: default-src 'none'; style-src 'unsafe-inline'; sandbox\r\n"
    ++ codes "X-Content-Type-Options: nosniff\r\n\r\n" ++ drawing
unfolding computing
a_drawing = refl

a_table_and_the_end : (to_ann (record (a_request (codes "GET") (codes "/page/guide/t.csv")) { close = true })).bytes
    ≡ codes "HTTP/1.1 200 OK\r\nContent-Type: text/csv; charset=utf-8\r\nContent-Length: 4\r\nX-Content-Type-Options: nosniff\r\n"
    ++ codes "Content-Disposition: attachment\r\nConnection: close\r\n\r\na,b\n"
unfolding computing
a_table_and_the_end = refl

-- a browser that follows a link gets the medium too
a_medium_for_people : (to_person ann (record (a_request (codes "GET") (codes "/page/guide/doc/spec.PDF")) { html = true })).bytes
    ≡ codes "HTTP/1.1 200 OK\r\nContent-Type: application/pdf\r\nContent-Length: 4\r\nX-Content-Type-Options: nosniff\r\n\r\n%PDF"
unfolding computing
a_medium_for_people = refl

a_picture_for_a_guest : (to_person a_guest (a_request (codes "HEAD") (codes "/page/guide/pic.png"))).bytes
    ≡ codes "HTTP/1.1 200 OK\r\nContent-Type: image/png\r\nContent-Length: 8\r\nX-Content-Type-Options: nosniff\r\n"
    ++ codes "Cache-Control: private, no-cache\r\nVary: Accept, Authorization\r\n\r\n"
unfolding computing
a_picture_for_a_guest = refl

-- ---- what is hidden is as what is absent

hidden : (to_bob (a_request (codes "GET") (codes "/page/guide/pic.png"))).bytes
    ≡ codes "HTTP/1.1 404 Not Found\r\nContent-Type: text/plain; charset=utf-8\r\nContent-Length: 14\r\n\r\n404 Not Found\n"
unfolding computing
hidden = refl

absent : (to_bob (a_request (codes "GET") (codes "/page/guide/none.png"))).bytes
    ≡ (to_bob (a_request (codes "GET") (codes "/page/guide/pic.png"))).bytes
unfolding computing
absent = refl

of_no_kind : (to_bob (a_request (codes "GET") (codes "/page/guide/n.xyz"))).bytes
    ≡ (to_bob (a_request (codes "GET") (codes "/page/guide/pic.png"))).bytes
unfolding computing
of_no_kind = refl

in_no_folder : (to_bob (a_request (codes "GET") (codes "/page/.git/x.png"))).bytes
    ≡ (to_bob (a_request (codes "GET") (codes "/page/guide/pic.png"))).bytes
unfolding computing
in_no_folder = refl

-- a reader who sees the medium is forbidden no more and no less
a_reader_puts_a_medium : (to_ann (a_request (codes "PUT") (codes "/page/guide/pic.png"))).bytes
    ≡ codes "HTTP/1.1 403 Forbidden\r\nContent-Type: text/plain; charset=utf-8\r\nContent-Length: 14\r\n\r\n403 Forbidden\n"
unfolding computing
a_reader_puts_a_medium = refl

a_reader_puts_a_hidden_one : (to_bob (a_request (codes "PUT") (codes "/page/guide/pic.png"))).bytes
    ≡ (to_ann (a_request (codes "PUT") (codes "/page/guide/pic.png"))).bytes
unfolding computing
a_reader_puts_a_hidden_one = refl

a_reader_puts_an_absent_one : (to_bob (a_request (codes "PUT") (codes "/page/guide/none.png"))).bytes
    ≡ (to_ann (a_request (codes "PUT") (codes "/page/guide/pic.png"))).bytes
unfolding computing
a_reader_puts_an_absent_one = refl

-- ---- what owners don't write

abbrev only_read : List ℕ
only_read =
    codes "HTTP/1.1 405 Method Not Allowed\r\nContent-Type: text/plain; charset=utf-8\r\nContent-Length: 23\r\nAllow: GET, HEAD\r\n\r\n"
    ++ codes "405 Method Not Allowed\n"

an_owner_puts_no_text : (to_owner (record (a_request (codes "PUT") (codes "/page/guide/pic.png")) { body = 0xFF ∷ [] })).bytes ≡ only_read
unfolding computing
an_owner_puts_no_text = refl

an_owner_removes_a_medium : (to_owner (a_request (codes "DELETE") (codes "/page/guide/pic.png"))).bytes ≡ only_read
unfolding computing
an_owner_removes_a_medium = refl

an_owner_puts_a_drawing : (to_owner (a_request (codes "PUT") (codes "/page/guide/new.SVG"))).bytes ≡ only_read
unfolding computing
an_owner_puts_a_drawing = refl

an_owner_removes_nothing : (to_owner (a_request (codes "DELETE") (codes "/page/guide/new.png"))).bytes
    ≡ codes "HTTP/1.1 404 Not Found\r\nContent-Type: text/plain; charset=utf-8\r\nContent-Length: 14\r\n\r\n404 Not Found\n"
unfolding computing
an_owner_removes_nothing = refl

-- a page of an older journal under such a path is written as before
a_page_of_such_a_name : (to_owner_of_old (a_request (codes "PUT") (codes "/page/old.png"))).bytes
    ≡ codes "HTTP/1.1 204 No Content\r\n\r\n"
unfolding computing
a_page_of_such_a_name = refl

-- ---- with editing

a_source_of_a_medium : (to_editor (a_request (codes "PUT") (codes "/source/guide/pic.png"))).bytes ≡ only_read
unfolding computing
a_source_of_a_medium = refl

a_removal_at_the_source : (to_editor (a_request (codes "DELETE") (codes "/source/guide/pic.png"))).bytes ≡ only_read
unfolding computing
a_removal_at_the_source = refl

a_put_at_the_page : (to_editor (a_request (codes "PUT") (codes "/page/guide/new.png"))).bytes ≡ only_read
unfolding computing
a_put_at_the_page = refl

a_form_of_a_medium : (to_editor (a_request (codes "GET") (codes "/edit/guide/pic.png"))).bytes
    ≡ codes "HTTP/1.1 301 Moved Permanently\r\nContent-Type: text/plain; charset=utf-8\r\nContent-Length: 22\r\n"
    ++ codes "Location: /page/guide/pic.png\r\n\r\n301 Moved Permanently\n"
unfolding computing
a_form_of_a_medium = refl

a_form_that_is_kept : (to_editor (a_request (codes "GET") (codes "/edit/guide/new.png"))).bytes
    ≡ codes "HTTP/1.1 404 Not Found\r\nContent-Type: text/plain; charset=utf-8\r\nContent-Length: 14\r\n\r\n404 Not Found\n"
unfolding computing
a_form_that_is_kept = refl

a_preview_that_is_kept : (to_editor (record (a_request (codes "POST") (codes "/preview/guide/pic.png")) { markdown = true })).bytes
    ≡ codes "HTTP/1.1 404 Not Found\r\nContent-Type: text/plain; charset=utf-8\r\nContent-Length: 14\r\n\r\n404 Not Found\n"
unfolding computing
a_preview_that_is_kept = refl

a_move_to_a_kept_path : (to_editor (a_request (codes "PUT") (codes "/move/guide/start.md?to=guide/new.png"))).bytes
    ≡ codes "HTTP/1.1 409 Conflict\r\nContent-Type: text/plain; charset=utf-8\r\nContent-Length: 34\r\n\r\n"
    ++ codes "409 Conflict\nto is kept for media\n"
unfolding computing
a_move_to_a_kept_path = refl

a_move_of_nothing : (to_editor (a_request (codes "PUT") (codes "/move/guide/none.md?to=guide/new.png"))).bytes
    ≡ codes "HTTP/1.1 404 Not Found\r\nContent-Type: text/plain; charset=utf-8\r\nContent-Length: 14\r\n\r\n404 Not Found\n"
unfolding computing
a_move_of_nothing = refl

-- ---- without media

without_media : (to_owner_without (a_request (codes "PUT") (codes "/page/guide/new.png"))).bytes
    ≡ codes "HTTP/1.1 201 Created\r\nContent-Type: text/plain; charset=utf-8\r\nContent-Length: 12\r\n\r\n201 Created\n"
unfolding computing
without_media = refl
