-- Worked examples: the definitions on literal requests.
use Rattle.std.proofs.Common.{◌≡◌, [], ◌∷◌, true, false, codes, refl}
use Rattle.std.specs.Prelude.{Some, None}
use Rattle.httparse.specs.Grammar.{crlf, trim_ows}
use Rattle.doc_http_bodies.specs.Chunks.{extent_in, data_in}
use Rattle.doc_http_bodies.specs.Framings.{framing_of, body_limit}
use Rattle.doc_http_bodies.specs.Readings.{encoded_limit, reading_of}
use Rattle.doc_http.specs.declared.head.HeadSpan.TheVariants.{Unfinished, At}
use Rattle.doc_http.specs.declared.request.Next.TheVariants as next
use Rattle.doc_http.specs.Accepts.{names_html}
use Rattle.doc_http.specs.Bearers.{bearer_in}
use Rattle.doc_http.specs.Conditions.{joined_values}
use Rattle.doc_http.specs.ContentTypes.{names_markdown}
use Rattle.doc_http.specs.Fields.{lists_close}
use Rattle.doc_http.specs.Heads.{head_limit, head_span_of, has_bare_line_feed}
use Rattle.doc_http.specs.Requests.{next_behind, request_of}
use Rattle.doc_page_parts.specs.Lines.{stripped}
use Rattle.doc_page_parts.specs.Tokens.{is_token}

-- one name to unfold where an example computes
unfoldable computing : Unit {0}
unfolding names_html joined_values names_markdown stripped trim_ows head_limit head_span_of next_behind framing_of body_limit encoded_limit
    extent_in data_in reading_of is_token
computing = tt

-- ---- heads

span_of_a_request : head_span_of (codes "GET /page/a.md HTTP/1.1\r\nHost: docs\r\nAuthorization: Bearer tok-ann\r\n\r\n") ≡ At 0 70
unfolding computing
span_of_a_request = refl

span_behind_empty_lines : head_span_of (codes "\r\n\r\nGET / HTTP/1.1\r\n\r\nGET") ≡ At 4 22
unfolding computing
span_behind_empty_lines = refl

span_unfinished : head_span_of (codes "GET / HTTP/1.1\r\nHost: x\n\n") ≡ Unfinished
unfolding computing
span_unfinished = refl

bare_line_feed : has_bare_line_feed (codes "GET / HTTP/1.1\nHost: x\r\n\r\n") ≡ true
unfolding computing
bare_line_feed = refl

no_bare_line_feed : has_bare_line_feed (codes "GET / HTTP/1.1\r\nHost: x\r\n\r\n") ≡ false
unfolding computing
no_bare_line_feed = refl

listed_close : lists_close (codes "keep-alive, Close") ≡ true
unfolding computing
listed_close = refl

close_with_a_parameter : lists_close (codes "close;q=1") ≡ false
unfolding computing
close_with_a_parameter = refl

-- ---- requests

a_request : request_of (codes "GET /page/a.md HTTP/1.1\r\nHost: docs\r\nAuthorization: Bearer tok-ann\r\n\r\n")
    (Some (record {
      blank = [];
      method = codes "GET";
      target = codes "/page/a.md";
      minor = 1;
      line_end = crlf;
      fields = record { name = codes "Host"; raw = codes " docs"; end = crlf } ∷
          record { name = codes "Authorization"; raw = codes " Bearer tok-ann"; end = crlf } ∷ [];
      last = crlf;
    }))
    ≡ next.Request 70 (record {
      method = codes "GET";
      target = codes "/page/a.md";
      authorization = Some (codes "Bearer tok-ann");
      close = false;
      html = false;
      markdown = false;
      if_match = None;
      if_none_match = None;
      body = [];
    })
unfolding computing
a_request = refl

a_request_and_more : request_of (codes "GET /page/a.md HTTP/1.1\r\nHost: docs\r\nAuthorization: Bearer tok-ann\r\n\r\nGET /")
    (Some (record {
      blank = [];
      method = codes "GET";
      target = codes "/page/a.md";
      minor = 1;
      line_end = crlf;
      fields = record { name = codes "Host"; raw = codes " docs"; end = crlf } ∷
          record { name = codes "Authorization"; raw = codes " Bearer tok-ann"; end = crlf } ∷ [];
      last = crlf;
    }))
    ≡ next.Request 70 (record {
      method = codes "GET";
      target = codes "/page/a.md";
      authorization = Some (codes "Bearer tok-ann");
      close = false;
      html = false;
      markdown = false;
      if_match = None;
      if_none_match = None;
      body = [];
    })
unfolding computing
a_request_and_more = refl

without_authorization : request_of (codes "GET /page/a.md HTTP/1.1\r\nHost: docs\r\n\r\n")
    (Some (record {
      blank = [];
      method = codes "GET";
      target = codes "/page/a.md";
      minor = 1;
      line_end = crlf;
      fields = record { name = codes "Host"; raw = codes " docs"; end = crlf } ∷ [];
      last = crlf;
    }))
    ≡ next.Request 39 (record {
      method = codes "GET";
      target = codes "/page/a.md";
      authorization = None;
      close = false;
      html = false;
      markdown = false;
      if_match = None;
      if_none_match = None;
      body = [];
    })
unfolding computing
without_authorization = refl

two_authorization_fields : request_of
    (codes "GET /page/a.md HTTP/1.1\r\nHost: docs\r\nAuthorization: Bearer tok-ann\r\nAuthorization: Bearer tok-ann\r\n\r\n")
    (Some (record {
      blank = [];
      method = codes "GET";
      target = codes "/page/a.md";
      minor = 1;
      line_end = crlf;
      fields = record { name = codes "Host"; raw = codes " docs"; end = crlf } ∷
          record { name = codes "Authorization"; raw = codes " Bearer tok-ann"; end = crlf } ∷
          record { name = codes "Authorization"; raw = codes " Bearer tok-ann"; end = crlf } ∷ [];
      last = crlf;
    })) ≡ next.Fault 400 false
unfolding computing
two_authorization_fields = refl

without_host : request_of (codes "GET /page/a.md HTTP/1.1\r\nAuthorization: Bearer tok-ann\r\n\r\n")
    (Some (record {
      blank = [];
      method = codes "GET";
      target = codes "/page/a.md";
      minor = 1;
      line_end = crlf;
      fields = record { name = codes "Authorization"; raw = codes " Bearer tok-ann"; end = crlf } ∷ [];
      last = crlf;
    })) ≡ next.Fault 400 false
unfolding computing
without_host = refl

two_hosts : request_of (codes "GET / HTTP/1.1\r\nHost: docs\r\nhost:docs\r\n\r\n")
    (Some (record {
      blank = [];
      method = codes "GET";
      target = codes "/";
      minor = 1;
      line_end = crlf;
      fields = record { name = codes "Host"; raw = codes " docs"; end = crlf } ∷
          record { name = codes "host"; raw = codes "docs"; end = crlf } ∷ [];
      last = crlf;
    })) ≡ next.Fault 400 false
unfolding computing
two_hosts = refl

the_older_version : request_of (codes "GET /page/a.md HTTP/1.0\r\nAuthorization: Bearer tok-ann\r\n\r\n")
    (Some (record {
      blank = [];
      method = codes "GET";
      target = codes "/page/a.md";
      minor = 0;
      line_end = crlf;
      fields = record { name = codes "Authorization"; raw = codes " Bearer tok-ann"; end = crlf } ∷ [];
      last = crlf;
    }))
    ≡ next.Request 58 (record {
      method = codes "GET";
      target = codes "/page/a.md";
      authorization = Some (codes "Bearer tok-ann");
      close = true;
      html = false;
      markdown = false;
      if_match = None;
      if_none_match = None;
      body = [];
    })
unfolding computing
the_older_version = refl

close_asked : request_of (codes "GET / HTTP/1.1\r\nHost: docs\r\nCONNECTION: keep-alive,\tClose \r\n\r\n")
    (Some (record {
      blank = [];
      method = codes "GET";
      target = codes "/";
      minor = 1;
      line_end = crlf;
      fields = record { name = codes "Host"; raw = codes " docs"; end = crlf } ∷
          record { name = codes "CONNECTION"; raw = codes " keep-alive,\tClose "; end = crlf } ∷ [];
      last = crlf;
    }))
    ≡ next.Request 62 (record {
      method = codes "GET";
      target = codes "/";
      authorization = None;
      close = true;
      html = false;
      markdown = false;
      if_match = None;
      if_none_match = None;
      body = [];
    })
unfolding computing
close_asked = refl

html_asked : request_of (codes "GET / HTTP/1.1\r\nHost: docs\r\nACCEPT: */*\r\nAccept: text/plain;q=1,\tTEXT/html ;q=0\r\n\r\n")
    (Some (record {
      blank = [];
      method = codes "GET";
      target = codes "/";
      minor = 1;
      line_end = crlf;
      fields = record { name = codes "Host"; raw = codes " docs"; end = crlf } ∷
          record { name = codes "ACCEPT"; raw = codes " */*"; end = crlf } ∷
          record { name = codes "Accept"; raw = codes " text/plain;q=1,\tTEXT/html ;q=0"; end = crlf } ∷ [];
      last = crlf;
    }))
    ≡ next.Request 83 (record {
      method = codes "GET";
      target = codes "/";
      authorization = None;
      close = false;
      html = true;
      markdown = false;
      if_match = None;
      if_none_match = None;
      body = [];
    })
unfolding computing
html_asked = refl

html_in_another_field : request_of (codes "GET / HTTP/1.1\r\nHost: docs\r\nAccept: */*\r\nContent-Type: text/html\r\n\r\n")
    (Some (record {
      blank = [];
      method = codes "GET";
      target = codes "/";
      minor = 1;
      line_end = crlf;
      fields = record { name = codes "Host"; raw = codes " docs"; end = crlf } ∷
          record { name = codes "Accept"; raw = codes " */*"; end = crlf } ∷
          record { name = codes "Content-Type"; raw = codes " text/html"; end = crlf } ∷ [];
      last = crlf;
    }))
    ≡ next.Request 68 (record {
      method = codes "GET";
      target = codes "/";
      authorization = None;
      close = false;
      html = false;
      markdown = false;
      if_match = None;
      if_none_match = None;
      body = [];
    })
unfolding computing
html_in_another_field = refl

conditions_joined : request_of (codes "GET / HTTP/1.1\r\nHost: docs\r\nIf-Match: \"a\"\r\nIF-MATCH: \"b\", \"c\"\r\n\r\n")
    (Some (record {
      blank = [];
      method = codes "GET";
      target = codes "/";
      minor = 1;
      line_end = crlf;
      fields = record { name = codes "Host"; raw = codes " docs"; end = crlf } ∷
          record { name = codes "If-Match"; raw = codes " \"a\""; end = crlf } ∷
          record { name = codes "IF-MATCH"; raw = codes " \"b\", \"c\""; end = crlf } ∷ [];
      last = crlf;
    }))
    ≡ next.Request 65 (record {
      method = codes "GET";
      target = codes "/";
      authorization = None;
      close = false;
      html = false;
      markdown = false;
      if_match = Some (codes "\"a\", \"b\", \"c\"");
      if_none_match = None;
      body = [];
    })
unfolding computing
conditions_joined = refl

an_empty_condition : request_of (codes "GET / HTTP/1.1\r\nHost: docs\r\nIf-None-Match:\r\n\r\n")
    (Some (record {
      blank = [];
      method = codes "GET";
      target = codes "/";
      minor = 1;
      line_end = crlf;
      fields = record { name = codes "Host"; raw = codes " docs"; end = crlf } ∷
          record { name = codes "If-None-Match"; raw = codes ""; end = crlf } ∷ [];
      last = crlf;
    }))
    ≡ next.Request 46 (record {
      method = codes "GET";
      target = codes "/";
      authorization = None;
      close = false;
      html = false;
      markdown = false;
      if_match = None;
      if_none_match = Some [];
      body = [];
    })
unfolding computing
an_empty_condition = refl

markdown_sent : request_of (codes "GET / HTTP/1.1\r\nHost: docs\r\ncontent-type: Text/Markdown; charset=utf-8\r\n\r\n")
    (Some (record {
      blank = [];
      method = codes "GET";
      target = codes "/";
      minor = 1;
      line_end = crlf;
      fields = record { name = codes "Host"; raw = codes " docs"; end = crlf } ∷
          record { name = codes "content-type"; raw = codes " Text/Markdown; charset=utf-8"; end = crlf } ∷ [];
      last = crlf;
    }))
    ≡ next.Request 74 (record {
      method = codes "GET";
      target = codes "/";
      authorization = None;
      close = false;
      html = false;
      markdown = true;
      if_match = None;
      if_none_match = None;
      body = [];
    })
unfolding computing
markdown_sent = refl

markdown_sent_twice : request_of
    (codes "GET / HTTP/1.1\r\nHost: docs\r\nContent-Type: text/markdown\r\nContent-Type: text/markdown\r\n\r\n")
    (Some (record {
      blank = [];
      method = codes "GET";
      target = codes "/";
      minor = 1;
      line_end = crlf;
      fields = record { name = codes "Host"; raw = codes " docs"; end = crlf } ∷
          record { name = codes "Content-Type"; raw = codes " text/markdown"; end = crlf } ∷
          record { name = codes "Content-Type"; raw = codes " text/markdown"; end = crlf } ∷ [];
      last = crlf;
    }))
    ≡ next.Request 88 (record {
      method = codes "GET";
      target = codes "/";
      authorization = None;
      close = false;
      html = false;
      markdown = false;
      if_match = None;
      if_none_match = None;
      body = [];
    })
unfolding computing
markdown_sent_twice = refl

a_length : request_of (codes "PUT /page/a.md HTTP/1.1\r\nHost: docs\r\nContent-Length: 1\r\n\r\nxGET")
    (Some (record {
      blank = [];
      method = codes "PUT";
      target = codes "/page/a.md";
      minor = 1;
      line_end = crlf;
      fields = record { name = codes "Host"; raw = codes " docs"; end = crlf } ∷
          record { name = codes "Content-Length"; raw = codes " 1"; end = crlf } ∷ [];
      last = crlf;
    }))
    ≡ next.Request 59 (record {
      method = codes "PUT";
      target = codes "/page/a.md";
      authorization = None;
      close = false;
      html = false;
      markdown = false;
      if_match = None;
      if_none_match = None;
      body = codes "x";
    })
unfolding computing
a_length = refl

a_length_undecided : request_of (codes "PUT /page/a.md HTTP/1.1\r\nHost: docs\r\nContent-Length: 2\r\n\r\nx")
    (Some (record {
      blank = [];
      method = codes "PUT";
      target = codes "/page/a.md";
      minor = 1;
      line_end = crlf;
      fields = record { name = codes "Host"; raw = codes " docs"; end = crlf } ∷
          record { name = codes "Content-Length"; raw = codes " 2"; end = crlf } ∷ [];
      last = crlf;
    })) ≡ next.More
unfolding computing
a_length_undecided = refl

no_length : request_of (codes "GET / HTTP/1.1\r\nHost: docs\r\ncontent-length:x\r\n\r\n")
    (Some (record {
      blank = [];
      method = codes "GET";
      target = codes "/";
      minor = 1;
      line_end = crlf;
      fields = record { name = codes "Host"; raw = codes " docs"; end = crlf } ∷
          record { name = codes "content-length"; raw = codes "x"; end = crlf } ∷ [];
      last = crlf;
    })) ≡ next.Fault 400 false
unfolding computing
no_length = refl

too_long_a_body : request_of (codes "PUT /page/a.md HTTP/1.1\r\nHost: docs\r\nContent-Length: 1048577\r\n\r\n")
    (Some (record {
      blank = [];
      method = codes "PUT";
      target = codes "/page/a.md";
      minor = 1;
      line_end = crlf;
      fields = record { name = codes "Host"; raw = codes " docs"; end = crlf } ∷
          record { name = codes "Content-Length"; raw = codes " 1048577"; end = crlf } ∷ [];
      last = crlf;
    })) ≡ next.Fault 413 false
unfolding computing
too_long_a_body = refl

too_long_a_body_by_head : request_of (codes "HEAD /page/a.md HTTP/1.1\r\nHost: docs\r\nContent-Length: 1048577\r\n\r\n")
    (Some (record {
      blank = [];
      method = codes "HEAD";
      target = codes "/page/a.md";
      minor = 1;
      line_end = crlf;
      fields = record { name = codes "Host"; raw = codes " docs"; end = crlf } ∷
          record { name = codes "Content-Length"; raw = codes " 1048577"; end = crlf } ∷ [];
      last = crlf;
    })) ≡ next.Fault 413 true
unfolding computing
too_long_a_body_by_head = refl

chunks : request_of (codes "PUT /page/a.md HTTP/1.1\r\nHost: docs\r\nTransfer-Encoding: Chunked\r\n\r\n1\r\nh\r\n1\r\ni\r\n0\r\n\r\n")
    (Some (record {
      blank = [];
      method = codes "PUT";
      target = codes "/page/a.md";
      minor = 1;
      line_end = crlf;
      fields = record { name = codes "Host"; raw = codes " docs"; end = crlf } ∷
          record { name = codes "Transfer-Encoding"; raw = codes " Chunked"; end = crlf } ∷ [];
      last = crlf;
    }))
    ≡ next.Request 84 (record {
      method = codes "PUT";
      target = codes "/page/a.md";
      authorization = None;
      close = false;
      html = false;
      markdown = false;
      if_match = None;
      if_none_match = None;
      body = codes "hi";
    })
unfolding computing
chunks = refl

chunks_undecided : request_of
    (codes "PUT /page/a.md HTTP/1.1\r\nHost: docs\r\nTransfer-Encoding: chunked\r\n\r\n1\r\nh\r\n1\r\ni\r\n0\r\n\r")
    (Some (record {
      blank = [];
      method = codes "PUT";
      target = codes "/page/a.md";
      minor = 1;
      line_end = crlf;
      fields = record { name = codes "Host"; raw = codes " docs"; end = crlf } ∷
          record { name = codes "Transfer-Encoding"; raw = codes " chunked"; end = crlf } ∷ [];
      last = crlf;
    })) ≡ next.More
unfolding computing
chunks_undecided = refl

a_fault_in_chunks : request_of (codes "HEAD / HTTP/1.1\r\nHost: docs\r\nTransfer-Encoding: chunked\r\n\r\n1\r\nhi\r\n")
    (Some (record {
      blank = [];
      method = codes "HEAD";
      target = codes "/";
      minor = 1;
      line_end = crlf;
      fields = record { name = codes "Host"; raw = codes " docs"; end = crlf } ∷
          record { name = codes "Transfer-Encoding"; raw = codes " chunked"; end = crlf } ∷ [];
      last = crlf;
    })) ≡ next.Fault 400 true
unfolding computing
a_fault_in_chunks = refl

chunks_and_a_length : request_of (codes "PUT / HTTP/1.1\r\nHost: docs\r\nTransfer-Encoding: chunked\r\nContent-Length: 1\r\n\r\n")
    (Some (record {
      blank = [];
      method = codes "PUT";
      target = codes "/";
      minor = 1;
      line_end = crlf;
      fields = record { name = codes "Host"; raw = codes " docs"; end = crlf } ∷
          record { name = codes "Transfer-Encoding"; raw = codes " chunked"; end = crlf } ∷
          record { name = codes "Content-Length"; raw = codes " 1"; end = crlf } ∷ [];
      last = crlf;
    })) ≡ next.Fault 400 false
unfolding computing
chunks_and_a_length = refl

chunks_in_the_older_version : request_of (codes "PUT / HTTP/1.0\r\nTransfer-Encoding: chunked\r\n\r\n")
    (Some (record {
      blank = [];
      method = codes "PUT";
      target = codes "/";
      minor = 0;
      line_end = crlf;
      fields = record { name = codes "Transfer-Encoding"; raw = codes " chunked"; end = crlf } ∷ [];
      last = crlf;
    })) ≡ next.Fault 400 false
unfolding computing
chunks_in_the_older_version = refl

another_coding : request_of (codes "PUT / HTTP/1.1\r\nHost: docs\r\nTransfer-Encoding: gzip, chunked\r\nContent-Length:x\r\n\r\n")
    (Some (record {
      blank = [];
      method = codes "PUT";
      target = codes "/";
      minor = 1;
      line_end = crlf;
      fields = record { name = codes "Host"; raw = codes " docs"; end = crlf } ∷
          record { name = codes "Transfer-Encoding"; raw = codes " gzip, chunked"; end = crlf } ∷
          record { name = codes "Content-Length"; raw = codes "x"; end = crlf } ∷ [];
      last = crlf;
    })) ≡ next.Fault 501 false
unfolding computing
another_coding = refl

another_coding_by_head : request_of (codes "HEAD / HTTP/1.1\r\nHost: docs\r\nTransfer-Encoding: gzip\r\n\r\n")
    (Some (record {
      blank = [];
      method = codes "HEAD";
      target = codes "/";
      minor = 1;
      line_end = crlf;
      fields = record { name = codes "Host"; raw = codes " docs"; end = crlf } ∷
          record { name = codes "Transfer-Encoding"; raw = codes " gzip"; end = crlf } ∷ [];
      last = crlf;
    })) ≡ next.Fault 501 true
unfolding computing
another_coding_by_head = refl

a_bad_head_by_head : request_of (codes "HEAD / HTTP/1.1\r\nTransfer-Encoding: gzip\r\n\r\n")
    (Some (record {
      blank = [];
      method = codes "HEAD";
      target = codes "/";
      minor = 1;
      line_end = crlf;
      fields = record { name = codes "Transfer-Encoding"; raw = codes " gzip"; end = crlf } ∷ [];
      last = crlf;
    })) ≡ next.Fault 400 false
unfolding computing
a_bad_head_by_head = refl

head_has_case : request_of (codes "head / HTTP/1.1\r\nHost: docs\r\nTransfer-Encoding: gzip\r\n\r\n")
    (Some (record {
      blank = [];
      method = codes "head";
      target = codes "/";
      minor = 1;
      line_end = crlf;
      fields = record { name = codes "Host"; raw = codes " docs"; end = crlf } ∷
          record { name = codes "Transfer-Encoding"; raw = codes " gzip"; end = crlf } ∷ [];
      last = crlf;
    })) ≡ next.Fault 501 false
unfolding computing
head_has_case = refl

no_head : request_of (codes "GET /\r\n\r\n") None ≡ next.Fault 400 false
unfolding computing
no_head = refl

no_end : request_of (codes "GET / HTTP/1.1\r\n") None ≡ next.More
unfolding computing
no_end = refl

-- ---- Accept fields

accepts :
    (names_html (codes "text/html" ∷ []) ≡ true)
    × (names_html (codes "text/html;q=0" ∷ []) ≡ true)
    × (names_html (codes "text/plain, \tTEXT/Html ;q=0.9,*/*" ∷ []) ≡ true)
    × (names_html (codes "text/plain" ∷ codes "text/html" ∷ []) ≡ true)
    × (names_html (codes "*/*" ∷ []) ≡ false)
    × (names_html (codes "text/*" ∷ []) ≡ false)
    × (names_html (codes "text/htmlx" ∷ []) ≡ false)
    × (names_html (codes "text/plain;text/html" ∷ []) ≡ false)
    × (names_html (codes "text / html" ∷ []) ≡ false)
    × (names_html ([] ∷ []) ≡ false)
    × (names_html [] ≡ false)
unfolding computing
accepts = (refl, refl, refl, refl, refl, refl, refl, refl, refl, refl, refl)

-- ---- conditions

conditions :
    (joined_values [] ≡ None)
    × (joined_values ([] ∷ []) ≡ Some [])
    × (joined_values (codes "*" ∷ []) ≡ Some (codes "*"))
    × (joined_values ([] ∷ [] ∷ []) ≡ Some (codes ", "))
    × (joined_values (codes "\"a\"" ∷ codes "\"b\", \"c\"" ∷ []) ≡ Some (codes "\"a\", \"b\", \"c\""))
    × (joined_values (codes "a" ∷ codes "b" ∷ codes "c" ∷ []) ≡ Some (codes "a, b, c"))
unfolding computing
conditions = (refl, refl, refl, refl, refl, refl)

-- ---- Content-Type fields

content_types :
    (names_markdown (codes "text/markdown" ∷ []) ≡ true)
    × (names_markdown (codes "Text/Markdown; charset=utf-8" ∷ []) ≡ true)
    × (names_markdown (codes "text/markdown\t;variant=CommonMark" ∷ []) ≡ true)
    × (names_markdown (codes "text/plain" ∷ []) ≡ false)
    × (names_markdown (codes "text/markdownx" ∷ []) ≡ false)
    × (names_markdown (codes "text/plain;text/markdown" ∷ []) ≡ false)
    × (names_markdown (codes "text/plain, text/markdown" ∷ []) ≡ false)
    × (names_markdown ([] ∷ []) ≡ false)
    × (names_markdown (codes "text/markdown" ∷ codes "text/markdown" ∷ []) ≡ false)
    × (names_markdown [] ≡ false)
unfolding computing
content_types = (refl, refl, refl, refl, refl, refl, refl, refl, refl, refl)

-- ---- tokens

a_token : bearer_in (Some (codes "Bearer tok-ann")) ≡ Some (codes "tok-ann")
unfolding computing
a_token = refl

padding_and_spaces : bearer_in (Some (codes "bearer  x==")) ≡ Some (codes "x==")
unfolding computing
padding_and_spaces = refl

padding_inside : bearer_in (Some (codes "Bearer a=b")) ≡ None
unfolding computing
padding_inside = refl

padding_alone : bearer_in (Some (codes "Bearer =")) ≡ None
unfolding computing
padding_alone = refl

two_words : bearer_in (Some (codes "Bearer a b")) ≡ None
unfolding computing
two_words = refl

another_scheme : bearer_in (Some (codes "Basic x")) ≡ None
unfolding computing
another_scheme = refl

a_tab : bearer_in (Some (codes "Bearer\tx")) ≡ None
unfolding computing
a_tab = refl

a_scheme_alone : bearer_in (Some (codes "Bearer")) ≡ None
unfolding computing
a_scheme_alone = refl

no_value : bearer_in None ≡ None
unfolding computing
no_value = refl
