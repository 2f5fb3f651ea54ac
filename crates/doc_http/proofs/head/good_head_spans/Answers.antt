use Rattle.std.proofs.Common.{Some, sym}
use Rattle.doc_http.proofs.ReadLemmas.{with_bare_line_feed, with_bad_counts}
use Rattle.doc_http.proofs.head.good_head_spans.Goals as goal

pub returns-then-has_bare_line_feed-clause-missing : goal.returns-then-has_bare_line_feed-clause-missing
returns-then-has_bare_line_feed-clause-missing c =
    let found = c.in-Some.ensures.found in
    λ is. (Some found.0, found.1, with_bare_line_feed c.args.text.now found.0 (sym c.if-has_bare_line_feed.ensures))

pub returns-then-not-has_good_counts-clause-missing : goal.returns-then-not-has_good_counts-clause-missing
returns-then-not-has_good_counts-clause-missing c =
    let found = c.in-Some.ensures.found in
    λ is. (
      Some found.0,
      found.1,
      with_bad_counts c.args.text.now c.head_spans.new.headers c.in-Some.spans found.0 found.2
          (sym c.if-not-has_good_counts.ensures),
    )
