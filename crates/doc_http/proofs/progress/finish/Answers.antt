use Rattle.std.proofs.Common.{◌≡◌, ◌==◌, Ok, slice_range, sym, ◌∙◌, subst, arith}
use Rattle.std.proofs.lemmas.Result.{IfOk-weaker, on_err_weaker}
use Rattle.doc_http_bodies.specs.Framings.{framing_of}
use Rattle.doc_http.specs.Fields.{fields_of}
use Rattle.doc_http.specs.Requests.{IsNext, IsRequest}
use Rattle.doc_http.proofs.ProgressLemmas.{reading_found, reading_begins, ends_within, read_again, not_bad}
use Rattle.doc_http.proofs.ReadLemmas.{method_text, read_by_parts}
use Rattle.doc_http.proofs.SpanLemmas.{places}
use Rattle.doc_http.proofs.progress.finish.Goals as goal

pub slice_bounds-text-count : goal.slice_bounds-text-count
slice_bounds-text-count c = omega (arith, places c.args.bytes.now c.args.start c.args.end (sym c.requires.1))

pub slice_bounds-text-start : goal.slice_bounds-text-start
slice_bounds-text-start c = omega (arith, places c.args.bytes.now c.args.start c.args.end (sym c.requires.1))

pub slice_bounds-text-end : goal.slice_bounds-text-end
slice_bounds-text-end c = omega (arith, places c.args.bytes.now c.args.start c.args.end (sym c.requires.1))

pub unreachable-requires : goal.unreachable-requires
unreachable-requires c =
    let missing = c.good_head_spans.ensures.missing c.in_default.is in
    not_bad (slice_range c.args.bytes.now c.args.start c.args.end) c.requires.0 c.requires.2 c.requires.3 missing.0 missing.1 missing.2

pub next_read-requires-clause-method_text : goal.next_read-requires-clause-method_text
next_read-requires-clause-method_text c =
    let found = c.in-Some.ensures.found in
    method_text (slice_range c.args.bytes.now c.args.start c.args.end) _ _ found.0 found.2 found.1

pub next_read-requires-clause-end_fits : goal.next_read-requires-clause-end_fits
next_read-requires-clause-end_fits c =
    ends_within c.args.bytes.now c.args.start c.args.end c.requires.1 (omega arith) c.requires.4.0 c.args.reading c.requires.4.2

pub returns-clause-found : goal.returns-clause-found
returns-clause-found c =
    let found = c.in-Some.ensures.found in
    let bytes = c.args.bytes.now in
    let text = slice_range bytes c.args.start c.args.end in
    let framed = subst (λ h. framing_of (h.minor == 0) (fields_of h) ≡ Ok c.requires.4.0)
    (read_again text c.requires.0 found.0 c.requires.2 found.1) c.requires.4.1 in
    IfOk-weaker c.next_read.result _ (λ next. IsNext bytes next)
    (λ next is. reading_found bytes c.args.start c.args.end c.requires.1 found.0 found.1 found.3 c.requires.4.0 framed c.args.reading
    c.requires.4.2 next
    (is ∙ read_by_parts text c.good_head_spans.new.headers c.in-Some.spans found.0 found.2 c.args.end c.args.reading))
    c.next_read.ensures.found

pub returns-clause-memory : goal.returns-clause-memory
returns-clause-memory c =
    let found = c.in-Some.ensures.found in
    let bytes = c.args.bytes.now in
    let text = slice_range bytes c.args.start c.args.end in
    let framed = subst (λ h. framing_of (h.minor == 0) (fields_of h) ≡ Ok c.requires.4.0)
    (read_again text c.requires.0 found.0 c.requires.2 found.1) c.requires.4.1 in
    on_err_weaker c.next_read.result
    (λ is. reading_begins bytes c.args.start c.args.end c.requires.1 found.0 found.1 found.3 c.requires.4.0 framed c.args.reading
    c.requires.4.2
    (subst IsRequest (read_by_parts text c.good_head_spans.new.headers c.in-Some.spans found.0 found.2 c.args.end c.args.reading) is))
    c.next_read.ensures.memory
