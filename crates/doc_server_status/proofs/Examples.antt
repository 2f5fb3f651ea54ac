-- Worked examples: replies at the door, and counts.
use Rattle.std.proofs.Common.{◌≡◌, [], ◌++◌, codes, replicate, refl}
use Rattle.std.specs.Prelude.{Some, None}
use Rattle.std.specs.Fmt.{digits}
use Rattle.doc_server_status.specs.declared.counters.Counters.{Counters}
use Rattle.doc_server_status.specs.declared.standing.JournalStanding.{JournalStanding}
use Rattle.doc_server_status.specs.Counts.{after_join, after_reply, no_replies, no_standing, nothing_counted, replies_with}
use Rattle.doc_server_status.specs.Cuts.{cut_at}
use Rattle.doc_server_status.specs.Door.{replied_to, said_at, said_to, status_reply}
use Rattle.doc_server_status.specs.Metrics.{connection_metrics, heading, journal_metrics, metric, metrics_text, reload_metric, reply_metrics, requests_metric, sample, standing_metrics, turn_metric}
use Rattle.doc_server_status.specs.Queries.{number_in, part_in, wanted_in}
use Rattle.doc_server_status.specs.Records.{record_said, record_text}
use Rattle.doc_server_status.specs.Replies.{head_of, length_line, reason_of, status_line, type_line, written}
use Rattle.doc_server_status.specs.RequestLines.{asked_in}
use Rattle.doc_server_status.specs.Targets.{path_in, wanted_at}

-- one name to unfold where an example computes
unfoldable computing : Unit {0}
unfolding asked_in connection_metrics cut_at digits head_of heading journal_metrics length_line metric metrics_text number_in part_in path_in reason_of record_said record_text reload_metric replied_to reply_metrics requests_metric said_at said_to sample standing_metrics status_line status_reply turn_metric type_line wanted_at wanted_in written
computing = tt

abbrev a_journal : JournalStanding
a_journal = record { identity = record { digits = codes "00112233445566778899aabbccddeeff"; hexadecimal = refl }; records = 17 }

-- nothing was counted, and 17 records of the journal are in the site
abbrev with_journal : Counters
with_journal = record nothing_counted { standing = record no_standing { journal = Some a_journal } }

abbrev much_counted : Counters
much_counted = record {
  replies = record { successful = 18446744073709551615; redirected = 2; refused = 3; failed = 4 };
  unauthorized = 1;
  edits = 5;
  bytes = 6;
  connections = 7;
  connections_most = 8;
  turn_micros_most = 184;
  standing = record {
    pages = 9;
    journal_bytes = 10240;
    journal = Some a_journal;
    reloads_done = 11;
    reloads_refused = 12;
    reload_seconds = 1764507600;
  };
}

-- ---- health: the same whatever is counted

health : (counters : Counters) → status_reply (codes "GET /health HTTP/1.1") counters
    ≡ Some (codes "HTTP/1.1 200 OK\r\nContent-Type: text/plain; charset=utf-8\r\nContent-Length: 3\r\n"
    ++ codes "Connection: close\r\n\r\nok\n")
unfolding computing
health counters = refl

health_by_http_1_0 : (counters : Counters) → status_reply (codes "GET /health HTTP/1.0") counters
    ≡ Some (codes "HTTP/1.1 200 OK\r\nContent-Type: text/plain; charset=utf-8\r\nContent-Length: 3\r\n"
    ++ codes "Connection: close\r\n\r\nok\n")
unfolding computing
health_by_http_1_0 counters = refl

head_of_health : (counters : Counters) → status_reply (codes "HEAD /health HTTP/1.1") counters
    ≡ Some (codes "HTTP/1.1 200 OK\r\nContent-Type: text/plain; charset=utf-8\r\nContent-Length: 3\r\n"
    ++ codes "Connection: close\r\n\r\n")
unfolding computing
head_of_health counters = refl

-- ---- metrics

metrics_of_nothing : status_reply (codes "GET /metrics HTTP/1.1") nothing_counted
    ≡ Some (codes "HTTP/1.1 200 OK\r\nContent-Type: text/plain; version=0.0.4; charset=utf-8\r\nContent-Length: 1587\r\n"
    ++ codes "Connection: close\r\n\r\n"
    ++ codes "# HELP docs_requests_total Requests that were answered, by the class of the code.\n"
    ++ codes "# TYPE docs_requests_total counter\ndocs_requests_total{class=\"2xx\"} 0\n"
    ++ codes "docs_requests_total{class=\"3xx\"} 0\ndocs_requests_total{class=\"4xx\"} 0\n"
    ++ codes "docs_requests_total{class=\"5xx\"} 0\n"
    ++ codes "# HELP docs_unauthorized_total Requests that were answered 401.\n"
    ++ codes "# TYPE docs_unauthorized_total counter\ndocs_unauthorized_total 0\n"
    ++ codes "# HELP docs_edits_total Edits that were answered, 201 or 204.\n"
    ++ codes "# TYPE docs_edits_total counter\ndocs_edits_total 0\n"
    ++ codes "# HELP docs_bytes_total Bytes of replies.\n# TYPE docs_bytes_total counter\ndocs_bytes_total 0\n"
    ++ codes "# HELP docs_connections Connections that stand.\n# TYPE docs_connections gauge\ndocs_connections 0\n"
    ++ codes "# HELP docs_connections_most Connections that stood at once at most.\n"
    ++ codes "# TYPE docs_connections_most gauge\ndocs_connections_most 0\n"
    ++ codes "# HELP docs_turn_seconds_max Seconds of the longest turn since the last look.\n"
    ++ codes "# TYPE docs_turn_seconds_max gauge\ndocs_turn_seconds_max 0e-6\n"
    ++ codes "# HELP docs_pages Pages that stand.\n# TYPE docs_pages gauge\ndocs_pages 0\n"
    ++ codes "# HELP docs_journal_bytes Bytes of the journal's records.\n"
    ++ codes "# TYPE docs_journal_bytes gauge\ndocs_journal_bytes 0\n"
    ++ codes "# HELP docs_record Records of the journal in the site.\n# TYPE docs_record gauge\ndocs_record 0\n"
    ++ codes "# HELP docs_reload_total Lines `reload` that were heard, by what came of them.\n"
    ++ codes "# TYPE docs_reload_total counter\ndocs_reload_total{result=\"done\"} 0\n"
    ++ codes "docs_reload_total{result=\"refused\"} 0\n"
    ++ codes "# HELP docs_reload_time_seconds Seconds since 1970 at which a reload was last done, 0 where none was.\n"
    ++ codes "# TYPE docs_reload_time_seconds gauge\ndocs_reload_time_seconds 0\n")
unfolding computing
metrics_of_nothing = refl

metrics_of_all : status_reply (codes "GET /metrics HTTP/1.1") much_counted
    ≡ Some (codes "HTTP/1.1 200 OK\r\nContent-Type: text/plain; version=0.0.4; charset=utf-8\r\nContent-Length: 1624\r\n"
    ++ codes "Connection: close\r\n\r\n"
    ++ codes "# HELP docs_requests_total Requests that were answered, by the class of the code.\n"
    ++ codes "# TYPE docs_requests_total counter\ndocs_requests_total{class=\"2xx\"} 18446744073709551615\n"
    ++ codes "docs_requests_total{class=\"3xx\"} 2\ndocs_requests_total{class=\"4xx\"} 3\n"
    ++ codes "docs_requests_total{class=\"5xx\"} 4\n"
    ++ codes "# HELP docs_unauthorized_total Requests that were answered 401.\n"
    ++ codes "# TYPE docs_unauthorized_total counter\ndocs_unauthorized_total 1\n"
    ++ codes "# HELP docs_edits_total Edits that were answered, 201 or 204.\n"
    ++ codes "# TYPE docs_edits_total counter\ndocs_edits_total 5\n"
    ++ codes "# HELP docs_bytes_total Bytes of replies.\n# TYPE docs_bytes_total counter\ndocs_bytes_total 6\n"
    ++ codes "# HELP docs_connections Connections that stand.\n# TYPE docs_connections gauge\ndocs_connections 7\n"
    ++ codes "# HELP docs_connections_most Connections that stood at once at most.\n"
    ++ codes "# TYPE docs_connections_most gauge\ndocs_connections_most 8\n"
    ++ codes "# HELP docs_turn_seconds_max Seconds of the longest turn since the last look.\n"
    ++ codes "# TYPE docs_turn_seconds_max gauge\ndocs_turn_seconds_max 184e-6\n"
    ++ codes "# HELP docs_pages Pages that stand.\n# TYPE docs_pages gauge\ndocs_pages 9\n"
    ++ codes "# HELP docs_journal_bytes Bytes of the journal's records.\n"
    ++ codes "# TYPE docs_journal_bytes gauge\ndocs_journal_bytes 10240\n"
    ++ codes "# HELP docs_record Records of the journal in the site.\n# TYPE docs_record gauge\ndocs_record 17\n"
    ++ codes "# HELP docs_reload_total Lines `reload` that were heard, by what came of them.\n"
    ++ codes "# TYPE docs_reload_total counter\ndocs_reload_total{result=\"done\"} 11\n"
    ++ codes "docs_reload_total{result=\"refused\"} 12\n"
    ++ codes "# HELP docs_reload_time_seconds Seconds since 1970 at which a reload was last done, 0 where none was.\n"
    ++ codes "# TYPE docs_reload_time_seconds gauge\ndocs_reload_time_seconds 1764507600\n")
unfolding computing
metrics_of_all = refl

head_of_metrics : status_reply (codes "HEAD /metrics HTTP/1.1") much_counted
    ≡ Some (codes "HTTP/1.1 200 OK\r\nContent-Type: text/plain; version=0.0.4; charset=utf-8\r\nContent-Length: 1624\r\n"
    ++ codes "Connection: close\r\n\r\n")
unfolding computing
head_of_metrics = refl

-- ---- the journal's records, without a journal

no_journal : status_reply (codes "GET /record HTTP/1.1") nothing_counted
    ≡ Some (codes "HTTP/1.1 200 OK\r\nContent-Type: text/plain; charset=utf-8\r\nContent-Length: 4\r\n"
    ++ codes "Connection: close\r\n\r\n- 0\n")
unfolding computing
no_journal = refl

no_records_of_no_journal : status_reply (codes "GET /record?least=0 HTTP/1.1") nothing_counted
    ≡ Some (codes "HTTP/1.1 200 OK\r\nContent-Type: text/plain; charset=utf-8\r\nContent-Length: 4\r\n"
    ++ codes "Connection: close\r\n\r\n- 0\n")
unfolding computing
no_records_of_no_journal = refl

a_record_of_no_journal : status_reply (codes "GET /record?least=1 HTTP/1.1") nothing_counted
    ≡ Some (codes "HTTP/1.1 503 Service Unavailable\r\nContent-Type: text/plain; charset=utf-8\r\nContent-Length: 4\r\n"
    ++ codes "Connection: close\r\n\r\n- 0\n")
unfolding computing
a_record_of_no_journal = refl

no_journal_is_named : status_reply (codes "GET /record?of=00112233445566778899aabbccddeeff HTTP/1.1") nothing_counted
    ≡ Some (codes "HTTP/1.1 503 Service Unavailable\r\nContent-Type: text/plain; charset=utf-8\r\nContent-Length: 4\r\n"
    ++ codes "Connection: close\r\n\r\n- 0\n")
unfolding computing
no_journal_is_named = refl

-- ---- with one

the_record : status_reply (codes "GET /record HTTP/1.1") with_journal
    ≡ Some (codes "HTTP/1.1 200 OK\r\nContent-Type: text/plain; charset=utf-8\r\nContent-Length: 36\r\n"
    ++ codes "Connection: close\r\n\r\n00112233445566778899aabbccddeeff 17\n")
unfolding computing
the_record = refl

head_of_the_record : status_reply (codes "HEAD /record HTTP/1.1") with_journal
    ≡ Some (codes "HTTP/1.1 200 OK\r\nContent-Type: text/plain; charset=utf-8\r\nContent-Length: 36\r\n"
    ++ codes "Connection: close\r\n\r\n")
unfolding computing
head_of_the_record = refl

as_many_as_are_wanted : status_reply (codes "GET /record?least=17 HTTP/1.1") with_journal
    ≡ Some (codes "HTTP/1.1 200 OK\r\nContent-Type: text/plain; charset=utf-8\r\nContent-Length: 36\r\n"
    ++ codes "Connection: close\r\n\r\n00112233445566778899aabbccddeeff 17\n")
unfolding computing
as_many_as_are_wanted = refl

one_more_is_wanted : status_reply (codes "GET /record?least=18 HTTP/1.1") with_journal
    ≡ Some (codes "HTTP/1.1 503 Service Unavailable\r\nContent-Type: text/plain; charset=utf-8\r\nContent-Length: 36\r\n"
    ++ codes "Connection: close\r\n\r\n00112233445566778899aabbccddeeff 17\n")
unfolding computing
one_more_is_wanted = refl

head_of_one_more : status_reply (codes "HEAD /record?least=18 HTTP/1.1") with_journal
    ≡ Some (codes "HTTP/1.1 503 Service Unavailable\r\nContent-Type: text/plain; charset=utf-8\r\nContent-Length: 36\r\n"
    ++ codes "Connection: close\r\n\r\n")
unfolding computing
head_of_one_more = refl

twenty_digits : status_reply (codes "GET /record?least=00000000000000000017 HTTP/1.1") with_journal
    ≡ Some (codes "HTTP/1.1 200 OK\r\nContent-Type: text/plain; charset=utf-8\r\nContent-Length: 36\r\n"
    ++ codes "Connection: close\r\n\r\n00112233445566778899aabbccddeeff 17\n")
unfolding computing
twenty_digits = refl

the_largest_number : status_reply (codes "GET /record?least=18446744073709551615 HTTP/1.1") with_journal
    ≡ Some (codes "HTTP/1.1 503 Service Unavailable\r\nContent-Type: text/plain; charset=utf-8\r\nContent-Length: 36\r\n"
    ++ codes "Connection: close\r\n\r\n00112233445566778899aabbccddeeff 17\n")
unfolding computing
the_largest_number = refl

of_the_journal : status_reply (codes "GET /record?of=00112233445566778899aabbccddeeff HTTP/1.1") with_journal
    ≡ Some (codes "HTTP/1.1 200 OK\r\nContent-Type: text/plain; charset=utf-8\r\nContent-Length: 36\r\n"
    ++ codes "Connection: close\r\n\r\n00112233445566778899aabbccddeeff 17\n")
unfolding computing
of_the_journal = refl

of_another_journal : status_reply (codes "GET /record?of=00112233445566778899aabbccddeefe HTTP/1.1") with_journal
    ≡ Some (codes "HTTP/1.1 503 Service Unavailable\r\nContent-Type: text/plain; charset=utf-8\r\nContent-Length: 36\r\n"
    ++ codes "Connection: close\r\n\r\n00112233445566778899aabbccddeeff 17\n")
unfolding computing
of_another_journal = refl

of_the_journal_as_many : status_reply (codes "GET /record?of=00112233445566778899aabbccddeeff&least=17 HTTP/1.1") with_journal
    ≡ Some (codes "HTTP/1.1 200 OK\r\nContent-Type: text/plain; charset=utf-8\r\nContent-Length: 36\r\n"
    ++ codes "Connection: close\r\n\r\n00112233445566778899aabbccddeeff 17\n")
unfolding computing
of_the_journal_as_many = refl

in_the_other_order : status_reply (codes "GET /record?least=17&of=00112233445566778899aabbccddeeff HTTP/1.1") with_journal
    ≡ Some (codes "HTTP/1.1 200 OK\r\nContent-Type: text/plain; charset=utf-8\r\nContent-Length: 36\r\n"
    ++ codes "Connection: close\r\n\r\n00112233445566778899aabbccddeeff 17\n")
unfolding computing
in_the_other_order = refl

of_the_journal_one_more : status_reply (codes "GET /record?of=00112233445566778899aabbccddeeff&least=18 HTTP/1.1") with_journal
    ≡ Some (codes "HTTP/1.1 503 Service Unavailable\r\nContent-Type: text/plain; charset=utf-8\r\nContent-Length: 36\r\n"
    ++ codes "Connection: close\r\n\r\n00112233445566778899aabbccddeeff 17\n")
unfolding computing
of_the_journal_one_more = refl

of_another_journal_as_many : status_reply (codes "GET /record?least=17&of=00112233445566778899aabbccddeefe HTTP/1.1") with_journal
    ≡ Some (codes "HTTP/1.1 503 Service Unavailable\r\nContent-Type: text/plain; charset=utf-8\r\nContent-Length: 36\r\n"
    ++ codes "Connection: close\r\n\r\n00112233445566778899aabbccddeeff 17\n")
unfolding computing
of_another_journal_as_many = refl

-- ---- bad queries of it

an_empty_query : (counters : Counters) → status_reply (codes "GET /record? HTTP/1.1") counters
    ≡ Some (codes "HTTP/1.1 404 Not Found\r\nContent-Type: text/plain; charset=utf-8\r\nContent-Length: 14\r\n"
    ++ codes "Connection: close\r\n\r\n404 Not Found\n")
unfolding computing
an_empty_query counters = refl

no_value : (counters : Counters) → status_reply (codes "GET /record?least HTTP/1.1") counters
    ≡ Some (codes "HTTP/1.1 404 Not Found\r\nContent-Type: text/plain; charset=utf-8\r\nContent-Length: 14\r\n"
    ++ codes "Connection: close\r\n\r\n404 Not Found\n")
unfolding computing
no_value counters = refl

an_empty_value : (counters : Counters) → status_reply (codes "GET /record?least= HTTP/1.1") counters
    ≡ Some (codes "HTTP/1.1 404 Not Found\r\nContent-Type: text/plain; charset=utf-8\r\nContent-Length: 14\r\n"
    ++ codes "Connection: close\r\n\r\n404 Not Found\n")
unfolding computing
an_empty_value counters = refl

a_sign : (counters : Counters) → status_reply (codes "GET /record?least=+1 HTTP/1.1") counters
    ≡ Some (codes "HTTP/1.1 404 Not Found\r\nContent-Type: text/plain; charset=utf-8\r\nContent-Length: 14\r\n"
    ++ codes "Connection: close\r\n\r\n404 Not Found\n")
unfolding computing
a_sign counters = refl

a_letter : (counters : Counters) → status_reply (codes "GET /record?least=1a HTTP/1.1") counters
    ≡ Some (codes "HTTP/1.1 404 Not Found\r\nContent-Type: text/plain; charset=utf-8\r\nContent-Length: 14\r\n"
    ++ codes "Connection: close\r\n\r\n404 Not Found\n")
unfolding computing
a_letter counters = refl

twenty_one_digits : (counters : Counters) → status_reply (codes "GET /record?least=000000000000000000017 HTTP/1.1") counters
    ≡ Some (codes "HTTP/1.1 404 Not Found\r\nContent-Type: text/plain; charset=utf-8\r\nContent-Length: 14\r\n"
    ++ codes "Connection: close\r\n\r\n404 Not Found\n")
unfolding computing
twenty_one_digits counters = refl

a_number_too_large : (counters : Counters) → status_reply (codes "GET /record?least=18446744073709551616 HTTP/1.1") counters
    ≡ Some (codes "HTTP/1.1 404 Not Found\r\nContent-Type: text/plain; charset=utf-8\r\nContent-Length: 14\r\n"
    ++ codes "Connection: close\r\n\r\n404 Not Found\n")
unfolding computing
a_number_too_large counters = refl

a_part_behind_that_is_empty : (counters : Counters) → status_reply (codes "GET /record?least=1& HTTP/1.1") counters
    ≡ Some (codes "HTTP/1.1 404 Not Found\r\nContent-Type: text/plain; charset=utf-8\r\nContent-Length: 14\r\n"
    ++ codes "Connection: close\r\n\r\n404 Not Found\n")
unfolding computing
a_part_behind_that_is_empty counters = refl

a_part_in_front_that_is_empty : (counters : Counters) → status_reply (codes "GET /record?&least=1 HTTP/1.1") counters
    ≡ Some (codes "HTTP/1.1 404 Not Found\r\nContent-Type: text/plain; charset=utf-8\r\nContent-Length: 14\r\n"
    ++ codes "Connection: close\r\n\r\n404 Not Found\n")
unfolding computing
a_part_in_front_that_is_empty counters = refl

least_twice : (counters : Counters) → status_reply (codes "GET /record?least=1&least=1 HTTP/1.1") counters
    ≡ Some (codes "HTTP/1.1 404 Not Found\r\nContent-Type: text/plain; charset=utf-8\r\nContent-Length: 14\r\n"
    ++ codes "Connection: close\r\n\r\n404 Not Found\n")
unfolding computing
least_twice counters = refl

of_twice : (counters : Counters) → status_reply (codes "GET /record?of=00112233445566778899aabbccddeeff&of=00112233445566778899aabbccddeeff HTTP/1.1") counters
    ≡ Some (codes "HTTP/1.1 404 Not Found\r\nContent-Type: text/plain; charset=utf-8\r\nContent-Length: 14\r\n"
    ++ codes "Connection: close\r\n\r\n404 Not Found\n")
unfolding computing
of_twice counters = refl

three_parts : (counters : Counters) → status_reply (codes "GET /record?least=1&of=00112233445566778899aabbccddeeff&least=1 HTTP/1.1") counters
    ≡ Some (codes "HTTP/1.1 404 Not Found\r\nContent-Type: text/plain; charset=utf-8\r\nContent-Length: 14\r\n"
    ++ codes "Connection: close\r\n\r\n404 Not Found\n")
unfolding computing
three_parts counters = refl

another_key : (counters : Counters) → status_reply (codes "GET /record?most=1 HTTP/1.1") counters
    ≡ Some (codes "HTTP/1.1 404 Not Found\r\nContent-Type: text/plain; charset=utf-8\r\nContent-Length: 14\r\n"
    ++ codes "Connection: close\r\n\r\n404 Not Found\n")
unfolding computing
another_key counters = refl

a_key_in_capitals : (counters : Counters) → status_reply (codes "GET /record?Least=1 HTTP/1.1") counters
    ≡ Some (codes "HTTP/1.1 404 Not Found\r\nContent-Type: text/plain; charset=utf-8\r\nContent-Length: 14\r\n"
    ++ codes "Connection: close\r\n\r\n404 Not Found\n")
unfolding computing
a_key_in_capitals counters = refl

another_key_behind : (counters : Counters) → status_reply (codes "GET /record?of=00112233445566778899aabbccddeeff&most=1 HTTP/1.1") counters
    ≡ Some (codes "HTTP/1.1 404 Not Found\r\nContent-Type: text/plain; charset=utf-8\r\nContent-Length: 14\r\n"
    ++ codes "Connection: close\r\n\r\n404 Not Found\n")
unfolding computing
another_key_behind counters = refl

thirty_one_digits : (counters : Counters) → status_reply (codes "GET /record?of=0112233445566778899aabbccddeeff HTTP/1.1") counters
    ≡ Some (codes "HTTP/1.1 404 Not Found\r\nContent-Type: text/plain; charset=utf-8\r\nContent-Length: 14\r\n"
    ++ codes "Connection: close\r\n\r\n404 Not Found\n")
unfolding computing
thirty_one_digits counters = refl

thirty_three_digits : (counters : Counters) → status_reply (codes "GET /record?of=00112233445566778899aabbccddeeff0 HTTP/1.1") counters
    ≡ Some (codes "HTTP/1.1 404 Not Found\r\nContent-Type: text/plain; charset=utf-8\r\nContent-Length: 14\r\n"
    ++ codes "Connection: close\r\n\r\n404 Not Found\n")
unfolding computing
thirty_three_digits counters = refl

digits_in_capitals : (counters : Counters) → status_reply (codes "GET /record?of=00112233445566778899AABBCCDDEEFF HTTP/1.1") counters
    ≡ Some (codes "HTTP/1.1 404 Not Found\r\nContent-Type: text/plain; charset=utf-8\r\nContent-Length: 14\r\n"
    ++ codes "Connection: close\r\n\r\n404 Not Found\n")
unfolding computing
digits_in_capitals counters = refl

a_question_mark_more : (counters : Counters) → status_reply (codes "GET /record?least=1? HTTP/1.1") counters
    ≡ Some (codes "HTTP/1.1 404 Not Found\r\nContent-Type: text/plain; charset=utf-8\r\nContent-Length: 14\r\n"
    ++ codes "Connection: close\r\n\r\n404 Not Found\n")
unfolding computing
a_question_mark_more counters = refl

a_longer_path : (counters : Counters) → status_reply (codes "GET /records HTTP/1.1") counters
    ≡ Some (codes "HTTP/1.1 404 Not Found\r\nContent-Type: text/plain; charset=utf-8\r\nContent-Length: 14\r\n"
    ++ codes "Connection: close\r\n\r\n404 Not Found\n")
unfolding computing
a_longer_path counters = refl

a_slash_behind_the_record : (counters : Counters) → status_reply (codes "GET /record/ HTTP/1.1") counters
    ≡ Some (codes "HTTP/1.1 404 Not Found\r\nContent-Type: text/plain; charset=utf-8\r\nContent-Length: 14\r\n"
    ++ codes "Connection: close\r\n\r\n404 Not Found\n")
unfolding computing
a_slash_behind_the_record counters = refl

-- ---- other methods of it

a_post_to_the_record : (counters : Counters) → status_reply (codes "POST /record HTTP/1.1") counters
    ≡ Some (codes "HTTP/1.1 405 Method Not Allowed\r\nContent-Type: text/plain; charset=utf-8\r\nContent-Length: 23\r\n"
    ++ codes "Allow: GET, HEAD\r\nConnection: close\r\n\r\n405 Method Not Allowed\n")
unfolding computing
a_post_to_the_record counters = refl

a_post_with_a_query : (counters : Counters) → status_reply (codes "POST /record?least=1 HTTP/1.1") counters
    ≡ Some (codes "HTTP/1.1 405 Method Not Allowed\r\nContent-Type: text/plain; charset=utf-8\r\nContent-Length: 23\r\n"
    ++ codes "Allow: GET, HEAD\r\nConnection: close\r\n\r\n405 Method Not Allowed\n")
unfolding computing
a_post_with_a_query counters = refl

a_post_with_a_bad_query : (counters : Counters) → status_reply (codes "POST /record?most=1 HTTP/1.1") counters
    ≡ Some (codes "HTTP/1.1 405 Method Not Allowed\r\nContent-Type: text/plain; charset=utf-8\r\nContent-Length: 23\r\n"
    ++ codes "Allow: GET, HEAD\r\nConnection: close\r\n\r\n405 Method Not Allowed\n")
unfolding computing
a_post_with_a_bad_query counters = refl

a_post_to_a_longer_path : (counters : Counters) → status_reply (codes "POST /records HTTP/1.1") counters
    ≡ Some (codes "HTTP/1.1 404 Not Found\r\nContent-Type: text/plain; charset=utf-8\r\nContent-Length: 14\r\n"
    ++ codes "Connection: close\r\n\r\n404 Not Found\n")
unfolding computing
a_post_to_a_longer_path counters = refl

-- ---- nothing else is there

a_query_of_health : (counters : Counters) → status_reply (codes "GET /health? HTTP/1.1") counters
    ≡ Some (codes "HTTP/1.1 404 Not Found\r\nContent-Type: text/plain; charset=utf-8\r\nContent-Length: 14\r\n"
    ++ codes "Connection: close\r\n\r\n404 Not Found\n")
unfolding computing
a_query_of_health counters = refl

a_slash_more : (counters : Counters) → status_reply (codes "GET /health/ HTTP/1.1") counters
    ≡ Some (codes "HTTP/1.1 404 Not Found\r\nContent-Type: text/plain; charset=utf-8\r\nContent-Length: 14\r\n"
    ++ codes "Connection: close\r\n\r\n404 Not Found\n")
unfolding computing
a_slash_more counters = refl

health_in_capitals : (counters : Counters) → status_reply (codes "GET /Health HTTP/1.1") counters
    ≡ Some (codes "HTTP/1.1 404 Not Found\r\nContent-Type: text/plain; charset=utf-8\r\nContent-Length: 14\r\n"
    ++ codes "Connection: close\r\n\r\n404 Not Found\n")
unfolding computing
health_in_capitals counters = refl

a_query_of_metrics : (counters : Counters) → status_reply (codes "GET /metrics?name=docs_bytes_total HTTP/1.1") counters
    ≡ Some (codes "HTTP/1.1 404 Not Found\r\nContent-Type: text/plain; charset=utf-8\r\nContent-Length: 14\r\n"
    ++ codes "Connection: close\r\n\r\n404 Not Found\n")
unfolding computing
a_query_of_metrics counters = refl

a_whole_address : (counters : Counters) → status_reply (codes "GET http://localhost/health HTTP/1.1") counters
    ≡ Some (codes "HTTP/1.1 404 Not Found\r\nContent-Type: text/plain; charset=utf-8\r\nContent-Length: 14\r\n"
    ++ codes "Connection: close\r\n\r\n404 Not Found\n")
unfolding computing
a_whole_address counters = refl

the_root : (counters : Counters) → status_reply (codes "GET / HTTP/1.1") counters
    ≡ Some (codes "HTTP/1.1 404 Not Found\r\nContent-Type: text/plain; charset=utf-8\r\nContent-Length: 14\r\n"
    ++ codes "Connection: close\r\n\r\n404 Not Found\n")
unfolding computing
the_root counters = refl

a_page : (counters : Counters) → status_reply (codes "GET /page/guide/start.md HTTP/1.1") counters
    ≡ Some (codes "HTTP/1.1 404 Not Found\r\nContent-Type: text/plain; charset=utf-8\r\nContent-Length: 14\r\n"
    ++ codes "Connection: close\r\n\r\n404 Not Found\n")
unfolding computing
a_page counters = refl

no_path : (counters : Counters) → status_reply (codes "GET * HTTP/1.1") counters
    ≡ Some (codes "HTTP/1.1 404 Not Found\r\nContent-Type: text/plain; charset=utf-8\r\nContent-Length: 14\r\n"
    ++ codes "Connection: close\r\n\r\n404 Not Found\n")
unfolding computing
no_path counters = refl

a_post_to_nothing : (counters : Counters) → status_reply (codes "POST / HTTP/1.1") counters
    ≡ Some (codes "HTTP/1.1 404 Not Found\r\nContent-Type: text/plain; charset=utf-8\r\nContent-Length: 14\r\n"
    ++ codes "Connection: close\r\n\r\n404 Not Found\n")
unfolding computing
a_post_to_nothing counters = refl

head_of_nothing : (counters : Counters) → status_reply (codes "HEAD / HTTP/1.1") counters
    ≡ Some (codes "HTTP/1.1 404 Not Found\r\nContent-Type: text/plain; charset=utf-8\r\nContent-Length: 14\r\n"
    ++ codes "Connection: close\r\n\r\n")
unfolding computing
head_of_nothing counters = refl

-- ---- other methods

a_post_to_health : (counters : Counters) → status_reply (codes "POST /health HTTP/1.1") counters
    ≡ Some (codes "HTTP/1.1 405 Method Not Allowed\r\nContent-Type: text/plain; charset=utf-8\r\nContent-Length: 23\r\n"
    ++ codes "Allow: GET, HEAD\r\nConnection: close\r\n\r\n405 Method Not Allowed\n")
unfolding computing
a_post_to_health counters = refl

a_post_to_metrics : (counters : Counters) → status_reply (codes "POST /metrics HTTP/1.1") counters
    ≡ Some (codes "HTTP/1.1 405 Method Not Allowed\r\nContent-Type: text/plain; charset=utf-8\r\nContent-Length: 23\r\n"
    ++ codes "Allow: GET, HEAD\r\nConnection: close\r\n\r\n405 Method Not Allowed\n")
unfolding computing
a_post_to_metrics counters = refl

a_small_get : (counters : Counters) → status_reply (codes "get /health HTTP/1.1") counters
    ≡ Some (codes "HTTP/1.1 405 Method Not Allowed\r\nContent-Type: text/plain; charset=utf-8\r\nContent-Length: 23\r\n"
    ++ codes "Allow: GET, HEAD\r\nConnection: close\r\n\r\n405 Method Not Allowed\n")
unfolding computing
a_small_get counters = refl

a_longer_get : (counters : Counters) → status_reply (codes "GETS /metrics HTTP/1.1") counters
    ≡ Some (codes "HTTP/1.1 405 Method Not Allowed\r\nContent-Type: text/plain; charset=utf-8\r\nContent-Length: 23\r\n"
    ++ codes "Allow: GET, HEAD\r\nConnection: close\r\n\r\n405 Method Not Allowed\n")
unfolding computing
a_longer_get counters = refl

what_is_allowed : (counters : Counters) → status_reply (codes "OPTIONS /health HTTP/1.1") counters
    ≡ Some (codes "HTTP/1.1 405 Method Not Allowed\r\nContent-Type: text/plain; charset=utf-8\r\nContent-Length: 23\r\n"
    ++ codes "Allow: GET, HEAD\r\nConnection: close\r\n\r\n405 Method Not Allowed\n")
unfolding computing
what_is_allowed counters = refl

-- ---- what is no request line

no_line : (counters : Counters) → status_reply ([]) counters
    ≡ None
unfolding computing
no_line counters = refl

no_target : (counters : Counters) → status_reply (codes "GET HTTP/1.1") counters
    ≡ None
unfolding computing
no_target counters = refl

no_version : (counters : Counters) → status_reply (codes "GET /health") counters
    ≡ None
unfolding computing
no_version counters = refl

another_version : (counters : Counters) → status_reply (codes "GET /health HTTP/2.0") counters
    ≡ None
unfolding computing
another_version counters = refl

two_spaces : (counters : Counters) → status_reply (codes "GET  /health HTTP/1.1") counters
    ≡ None
unfolding computing
two_spaces counters = refl

a_space_behind : (counters : Counters) → status_reply (codes "GET /health HTTP/1.1 ") counters
    ≡ None
unfolding computing
a_space_behind counters = refl

an_end_of_line : (counters : Counters) → status_reply (codes "GET /health HTTP/1.1\r") counters
    ≡ None
unfolding computing
an_end_of_line counters = refl

no_method : (counters : Counters) → status_reply (codes " /health HTTP/1.1") counters
    ≡ None
unfolding computing
no_method counters = refl

a_method_with_a_comma : (counters : Counters) → status_reply (codes "GE,T /health HTTP/1.1") counters
    ≡ None
unfolding computing
a_method_with_a_comma counters = refl

-- ---- the length of a line

a_line_of_1024_bytes : status_reply (codes "GET /" ++ replicate 1010 97 ++ codes " HTTP/1.1") nothing_counted
    ≡ status_reply (codes "GET / HTTP/1.1") nothing_counted
unfolding computing
a_line_of_1024_bytes = refl

a_line_of_1025_bytes : status_reply (codes "GET /" ++ replicate 1011 97 ++ codes " HTTP/1.1") nothing_counted ≡ None
unfolding computing
a_line_of_1025_bytes = refl

-- ---- counts

a_login_that_is_asked_for : after_reply 401 98 nothing_counted
    ≡ record nothing_counted { replies = record { successful = 0; redirected = 0; refused = 1; failed = 0 }; unauthorized = 1; bytes = 98 }
a_login_that_is_asked_for = refl

another_refusal : after_reply 404 14 much_counted
    ≡ record much_counted { replies = record { successful = 18446744073709551615; redirected = 2; refused = 4; failed = 4 }; bytes = 20 }
another_refusal = refl

a_page_that_has_not_changed : replies_with 304 no_replies ≡ record no_replies { redirected = 1 }
a_page_that_has_not_changed = refl

the_last_code_of_a_class : replies_with 599 no_replies ≡ record no_replies { failed = 1 }
the_last_code_of_a_class = refl

a_code_of_no_class : replies_with 199 no_replies ≡ no_replies
a_code_of_no_class = refl

counts_stand_still : after_reply 200 18446744073709551615 much_counted ≡ record much_counted { bytes = 18446744073709551615 }
counts_stand_still = refl

edits_are_counted : (after_reply 201 0 much_counted ≡ record much_counted { edits = 6 })
    × (after_reply 204 0 much_counted ≡ record much_counted { edits = 6 }) × (after_reply 202 0 much_counted ≡ much_counted)
edits_are_counted = (refl, refl, refl)

one_more_connection : after_join much_counted ≡ record much_counted { connections = 8 }
one_more_connection = refl

two_more_connections : after_join (after_join much_counted) ≡ record much_counted { connections = 9; connections_most = 9 }
two_more_connections = refl
