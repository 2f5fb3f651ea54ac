use Rattle.std.proofs.Common.{◌<◌, ℕ, List, ◌++◌, get_or, subst, chars, sym, ap, ◌∙◌, arith, append-nil}
use Rattle.std.proofs.lemmas.Str.{chars-nil}
use Rattle.doc_lines.proofs.ByteSearch.{stops_at, stops_nowhere, rest_at}
use Rattle.doc_lines.proofs.scan.until.until.Goals as goal

pub returns-then-test-clause-cut : goal.returns-then-test-clause-cut
returns-then-test-clause-cut g c = λ class d only.
    stops_at class only c.args.text.now c.range_from.result.now c.loop-place.place c.utf8.text (omega arith)
    (λ k less. sym (d _ _ (c.loop-place.invariant k less)))
    (ap (λ (bs : List ℕ). class (get_or bs c.loop-place.place 0)) (sym c.as_bytes-byte-items.ensures.value)
    ∙ sym (d _ _ c.if-test.ensures)) c.range_from.ensures.value

pub returns-then-test-clause-end : goal.returns-then-test-clause-end
returns-then-test-clause-end g c =
    rest_at c.args.text.now c.range_from.result.now c.loop-place.place c.utf8.text (omega arith)
    (subst (λ (bs : List ℕ). get_or bs c.loop-place.place 0 < 128) c.as_bytes-byte-items.ensures.value
    (c.requires.ascii _ c.if-test.ensures)) c.range_from.ensures.value

pub returns-clause-cut : goal.returns-clause-cut
returns-clause-cut g c = λ class d only.
    stops_nowhere class only c.args.text.now c.loop-place.place c.utf8.text (omega arith)
    (λ k less. sym (d _ _ (c.loop-place.invariant k less)))

pub returns-clause-end : goal.returns-clause-end
returns-clause-end g c = record {
  front = chars c.args.text.now;
  split = sym (append-nil (chars c.args.text.now))
      ∙ ap (λ r. chars c.args.text.now ++ r) (sym chars-nil);
}
