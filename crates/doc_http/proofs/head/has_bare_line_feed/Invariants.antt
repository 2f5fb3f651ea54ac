use Rattle.std.proofs.Common.{◌≡◌, drop}
use Rattle.doc_http.specs.Heads.{has_bare_line_feed_behind}
use Rattle.doc_http.proofs.head.has_bare_line_feed.Given as goal

abbrev pub invariant-bytes : goal.invariant-bytes
invariant-bytes l = has_bare_line_feed_behind 0 l.text ≡ has_bare_line_feed_behind l.last (drop l.byte-index l.text)
