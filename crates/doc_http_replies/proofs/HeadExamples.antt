-- Worked examples: the definitions of dressed heads and of replies to people on literal values.
use Rattle.std.proofs.Common.{◌≡◌, ◌++◌, ◌∷◌, [], Bool, List, ℕ, true, false, codes, refl}
use Rattle.std.specs.Prelude.{Some, None}
use Rattle.std.specs.Fmt.{digits}
use Rattle.std.specs.Str.{chars}
use Rattle.doc_http_replies.specs.Challenges.{quoted_realm}
use Rattle.doc_http_replies.specs.declared.reply_form.ReplyForm.TheVariants as forms
use Rattle.doc_http_replies.specs.declared.status.Status.TheVariants as statuses
use Rattle.doc_http_replies.specs.Heads.{Dress, cache_line, dressed_bytes, dressed_head, nosniff_line, policy, policy_line, referrer_line, vary_line}
use Rattle.doc_http_replies.specs.PeopleReplies.{people_bytes, sheet_cache_line, style_sheet_bytes, typed_lines}
use Rattle.doc_http_replies.specs.Replies.{reason_of, field_line}
use Rattle.doc_http_replies.specs.ReplyForms.{content_reply, reply_of}

-- U+2013, and U+00B7
unfoldable dash : List ℕ
dash = 0xE2 ∷ 0x80 ∷ 0x93 ∷ []

unfoldable dot : List ℕ
dot = 0xC2 ∷ 0xB7 ∷ []

-- a title with quotes, with a character beyond ASCII and with a `\`
unfoldable a_title : List ℕ
a_title = codes "The \"Blue\" Handbook " ++ dash ++ codes " A\\B"

-- a page that says no more than its code, by its title, the site's title and what it says
unfoldable a_notice : List ℕ → List ℕ → List ℕ → List ℕ
a_notice title site text =
    codes "<!DOCTYPE html>\n<html lang=\"en\">\n<head>\n<meta charset=\"utf-8\">\n"
    ++ codes "<meta name=\"viewport\" content=\"width=device-width, initial-scale=1\">\n"
    ++ codes "<meta name=\"color-scheme\" content=\"light dark\">\n<title>" ++ title ++ codes " " ++ dot ++ codes " " ++ site
    ++ codes "</title>\n<link rel=\"icon\" href=\"data:,\">\n<link rel=\"stylesheet\" href=\"/style.css?5\">\n</head>\n<body>\n"
    ++ codes "<div class=\"frame bare\">\n<main id=\".main\">\n<h1>" ++ title ++ codes "</h1>\n" ++ text
    ++ codes "</main>\n</div>\n</body>\n</html>\n"

unfoldable not_signed_in : List ℕ
not_signed_in = codes "<p>These pages are for readers who are signed in. Whoever runs this site can let you in.</p>\n"

-- what guards a page for people, and a plain one
unfoldable lines_of_people : List ℕ
lines_of_people =
    codes "Content-Security-Policy: default-src 'none'; style-src 'self'; img-src 'self' https: data:; form-action 'self'; "
    ++ codes "base-uri 'none'; frame-ancestors 'none'; sandbox allow-same-origin allow-forms allow-popups "
    ++ codes "allow-popups-to-escape-sandbox allow-downloads\r\nX-Content-Type-Options: nosniff\r\nReferrer-Policy: same-origin\r\n"
    ++ codes "Cache-Control: private, no-cache\r\nVary: Accept, Authorization\r\n"

unfoldable lines_of_html : List ℕ
lines_of_html =
    codes "Content-Security-Policy: default-src 'none'; style-src 'self'; img-src 'self' https: data:; form-action 'self'; "
    ++ codes "base-uri 'none'; frame-ancestors 'none'; sandbox allow-same-origin allow-forms allow-popups "
    ++ codes "allow-popups-to-escape-sandbox allow-downloads\r\nX-Content-Type-Options: nosniff\r\n"
    ++ codes "Cache-Control: private, no-cache\r\nVary: Accept, Authorization\r\n"

-- a site with settings, without a way to sign in for browsers and with it: to readers, or to guests
unfoldable without_login : Dress
without_login = record { guarded = true; private = false; realm = None }

unfoldable with_login : Bool → Dress
with_login guest = record { guarded = true; private = guest; realm = Some a_title }

-- one name to unfold where an example computes
unfoldable computing : Unit {0}
unfolding
    digits reason_of field_line chars quoted_realm policy policy_line nosniff_line referrer_line cache_line vary_line dressed_head
    dressed_bytes typed_lines people_bytes sheet_cache_line style_sheet_bytes dash dot a_title a_notice
    not_signed_in lines_of_people lines_of_html without_login with_login
computing = tt

-- ---- replies to people

the_front_is_elsewhere : people_bytes (record {
  code = 301;
  location = Some (codes "/contents");
  realm = None;
  policy = policy;
  body = a_notice (codes "Moved") (codes "Handbook")
      (codes "<p>The page stands at another address now:</p>\n<p><a href=\"/contents\">/contents</a></p>\n");
}) true false
    ≡ codes "HTTP/1.1 301 Moved Permanently\r\nContent-Type: text/html; charset=utf-8\r\nContent-Length: 481\r\nLocation: /contents\r\n" ++ lines_of_people ++ codes "\r\n"
unfolding computing
the_front_is_elsewhere = refl

without_a_token : people_bytes (record {
  code = 401;
  location = None;
  realm = None;
  policy = policy;
  body = a_notice (codes "Not signed in") (codes "Handbook") not_signed_in;
}) true false
    ≡ codes "HTTP/1.1 401 Unauthorized\r\nContent-Type: text/html; charset=utf-8\r\nContent-Length: 502\r\nWWW-Authenticate: Bearer realm=\"docs\"\r\n" ++ lines_of_people ++ codes "\r\n"
unfolding computing
without_a_token = refl

no_page_and_the_end : people_bytes (record {
  code = 404;
  location = None;
  realm = None;
  policy = policy;
  body = codes "<h1>Not found</h1>\n";
}) false true
    ≡ codes "HTTP/1.1 404 Not Found\r\nContent-Type: text/html; charset=utf-8\r\nContent-Length: 19\r\n" ++ lines_of_people ++ codes "Connection: close\r\n\r\n<h1>Not found</h1>\n"
unfolding computing
no_page_and_the_end = refl

a_guest_signs_in : people_bytes (record {
  code = 401;
  location = None;
  realm = Some a_title;
  policy = policy;
  body = a_notice (codes "Not signed in") (codes "The &quot;Blue&quot; Handbook " ++ dash ++ codes " A\\B") not_signed_in;
}) true false
    ≡ codes "HTTP/1.1 401 Unauthorized\r\nContent-Type: text/html; charset=utf-8\r\nContent-Length: 531\r\nWWW-Authenticate: Basic realm=\"The \\\"Blue\\\" Handbook ? A\\\\B\", charset=\"UTF-8\"\r\n" ++ lines_of_people ++ codes "\r\n"
unfolding computing
a_guest_signs_in = refl

a_policy_of_its_own : people_bytes (record {
  code = 200;
  location = None;
  realm = None;
  policy = codes "default-src 'none'; sandbox";
  body = codes "<p>Hello</p>\n";
}) false false
    ≡ codes "HTTP/1.1 200 OK\r\nContent-Type: text/html; charset=utf-8\r\nContent-Length: 13\r\n"
    ++ codes "Content-Security-Policy: default-src 'none'; sandbox\r\n"
    ++ codes "X-Content-Type-Options: nosniff\r\nReferrer-Policy: same-origin\r\nCache-Control: private, no-cache\r\n"
    ++ codes "Vary: Accept, Authorization\r\n\r\n<p>Hello</p>\n"
unfolding computing
a_policy_of_its_own = refl

-- ---- plain replies of a site with settings

html_is_guarded : dressed_bytes without_login (content_reply true (codes "<!DOCTYPE html>\n<title>b.md</title>\n<p><a class=\"missing\">c</a> <a class=\"missing\">d</a></p>\n")) false false
    ≡ codes "HTTP/1.1 200 OK\r\nContent-Type: text/html; charset=utf-8\r\nContent-Length: 93\r\n" ++ lines_of_html ++ codes "\r\n<!DOCTYPE html>\n<title>b.md</title>\n<p><a class=\"missing\">c</a> <a class=\"missing\">d</a></p>\n"
unfolding computing
html_is_guarded = refl

html_to_a_guest : dressed_bytes (with_login true) (content_reply true (codes "<!DOCTYPE html>\n<title>p.md</title>\n<p>Hello, all. <a class=\"missing\">b</a></p>\n")) false false
    ≡ codes "HTTP/1.1 200 OK\r\nContent-Type: text/html; charset=utf-8\r\nContent-Length: 80\r\n" ++ lines_of_html ++ codes "\r\n<!DOCTYPE html>\n<title>p.md</title>\n<p>Hello, all. <a class=\"missing\">b</a></p>\n"
unfolding computing
html_to_a_guest = refl

nobody_by_a_program : dressed_bytes (with_login false) (reply_of (forms.Status statuses.Unauthorized)) false false
    ≡ codes "HTTP/1.1 401 Unauthorized\r\nContent-Type: text/plain; charset=utf-8\r\nContent-Length: 17\r\nWWW-Authenticate: Basic realm=\"The \\\"Blue\\\" Handbook ? A\\\\B\", charset=\"UTF-8\"\r\nWWW-Authenticate: Bearer realm=\"docs\"\r\n\r\n401 Unauthorized\n"
unfolding computing
nobody_by_a_program = refl

an_edit_by_a_guest : dressed_bytes (with_login true) (reply_of (forms.Status statuses.Unauthorized)) false false
    ≡ codes "HTTP/1.1 401 Unauthorized\r\nContent-Type: text/plain; charset=utf-8\r\nContent-Length: 17\r\nWWW-Authenticate: Basic realm=\"The \\\"Blue\\\" Handbook ? A\\\\B\", charset=\"UTF-8\"\r\nWWW-Authenticate: Bearer realm=\"docs\"\r\nCache-Control: private, no-cache\r\nVary: Accept, Authorization\r\n\r\n401 Unauthorized\n"
unfolding computing
an_edit_by_a_guest = refl

a_login_where_none_is_set : dressed_bytes without_login (reply_of (forms.Status statuses.Unauthorized)) false false
    ≡ codes "HTTP/1.1 401 Unauthorized\r\nContent-Type: text/plain; charset=utf-8\r\nContent-Length: 17\r\nWWW-Authenticate: Bearer realm=\"docs\"\r\n\r\n401 Unauthorized\n"
unfolding computing
a_login_where_none_is_set = refl

-- ---- the style sheet

the_sheet_by_its_head : style_sheet_bytes (codes "a { color: red; }\n") true false
    ≡ codes "HTTP/1.1 200 OK\r\nContent-Type: text/css; charset=utf-8\r\nContent-Length: 18\r\nX-Content-Type-Options: nosniff\r\nCache-Control: public, max-age=86400\r\n\r\n"
unfolding computing
the_sheet_by_its_head = refl

the_sheet_and_the_end : style_sheet_bytes (codes "a { color: red; }\n") false true
    ≡ codes "HTTP/1.1 200 OK\r\nContent-Type: text/css; charset=utf-8\r\nContent-Length: 18\r\nX-Content-Type-Options: nosniff\r\nCache-Control: public, max-age=86400\r\nConnection: close\r\n\r\na { color: red; }\n"
unfolding computing
the_sheet_and_the_end = refl
