-- The counters as Prometheus reads them (its text format, version 0.0.4).
use Rattle.std.specs.Prelude.{ℕ, List, ◌++◌, codes, decimal}
use Rattle.doc_server_status.specs.declared.counters.Counters.{Counters}
use Rattle.doc_server_status.specs.declared.replies.Replies.{Replies}
use Rattle.doc_server_status.specs.declared.standing.Standing.{Standing}
use Rattle.doc_server_status.specs.Records.{records_of}

-- what a metric is, and its kind: two lines in front of its samples
unfoldable pub heading : List ℕ → List ℕ → List ℕ → List ℕ
heading kind name help =
    codes "# HELP " ++ name ++ codes " " ++ help ++ codes "\n# TYPE " ++ name ++ codes " " ++ kind ++ codes "\n"

-- a sample: the name, with labels where it has some, and the value
unfoldable pub sample : List ℕ → List ℕ → List ℕ
sample name value = name ++ codes " " ++ value ++ codes "\n"

-- a metric of one sample
unfoldable pub metric : List ℕ → List ℕ → List ℕ → ℕ → List ℕ
metric kind name help value = heading kind name help ++ sample name (decimal value)

unfoldable pub requests_metric : Replies → List ℕ
requests_metric replies =
    heading (codes "counter") (codes "docs_requests_total") (codes "Requests that were answered, by the class of the code.")
    ++ sample (codes "docs_requests_total{class=\"2xx\"}") (decimal replies.successful)
    ++ sample (codes "docs_requests_total{class=\"3xx\"}") (decimal replies.redirected)
    ++ sample (codes "docs_requests_total{class=\"4xx\"}") (decimal replies.refused)
    ++ sample (codes "docs_requests_total{class=\"5xx\"}") (decimal replies.failed)

unfoldable pub reply_metrics : Counters → List ℕ
reply_metrics counters =
    metric (codes "counter") (codes "docs_unauthorized_total") (codes "Requests that were answered 401.") counters.unauthorized
    ++ metric (codes "counter") (codes "docs_edits_total") (codes "Edits that were answered, 201 or 204.") counters.edits
    ++ metric (codes "counter") (codes "docs_bytes_total") (codes "Bytes of replies.") counters.bytes

unfoldable pub connection_metrics : Counters → List ℕ
connection_metrics counters =
    metric (codes "gauge") (codes "docs_connections") (codes "Connections that stand.") counters.connections
    ++ metric (codes "gauge") (codes "docs_connections_most") (codes "Connections that stood at once at most.") counters.connections_most

-- in seconds, as a number with an exponent
unfoldable pub turn_metric : ℕ → List ℕ
turn_metric micros =
    heading (codes "gauge") (codes "docs_turn_seconds_max") (codes "Seconds of the longest turn since the last look.")
    ++ (codes "docs_turn_seconds_max " ++ decimal micros ++ codes "e-6\n")

-- the journal: the server's own, or the one that it follows
unfoldable pub journal_metrics : Standing → List ℕ
journal_metrics standing =
    metric (codes "gauge") (codes "docs_journal_bytes") (codes "Bytes of the journal's records.") standing.journal_bytes
    ++ metric (codes "gauge") (codes "docs_record") (codes "Records of the journal in the site.") (records_of standing.journal)

-- reloads, by what came of them, and when one was last done
unfoldable pub reload_metric : Standing → List ℕ
reload_metric standing =
    heading (codes "counter") (codes "docs_reload_total") (codes "Lines `reload` that were heard, by what came of them.")
    ++ sample (codes "docs_reload_total{result=\"done\"}") (decimal standing.reloads_done)
    ++ sample (codes "docs_reload_total{result=\"refused\"}") (decimal standing.reloads_refused)
    ++ metric (codes "gauge") (codes "docs_reload_time_seconds") (codes "Seconds since 1970 at which a reload was last done, 0 where none was.") standing.reload_seconds

-- what stands behind a turn
unfoldable pub standing_metrics : Standing → List ℕ
standing_metrics standing =
    metric (codes "gauge") (codes "docs_pages") (codes "Pages that stand.") standing.pages
    ++ journal_metrics standing ++ reload_metric standing

unfoldable pub metrics_text : Counters → List ℕ
metrics_text counters =
    requests_metric counters.replies ++ reply_metrics counters ++ connection_metrics counters ++ turn_metric counters.turn_micros_most
    ++ standing_metrics counters.standing
