use Rattle.std.proofs.Common.{◌≡◌, ◌<◌, ◌++◌, ap, ap₂, arith, chars, length, subst, sym, take, ◌∙◌}
use Rattle.std.proofs.lemmas.List.{take_all}
use Rattle.std.proofs.lemmas.Str.{chars-nil, IsCharBoundary-after_ascii}
use Rattle.doc_words_search.specs.Words.{words_of}
use Rattle.doc_words_search.specs.WordSteps.{IsRun, word_if}
use Rattle.doc_words_search.proofs.PlainSteps.{EndsAt, at_end, at_gap, ends_at, fewer, gap_low}
use Rattle.doc_words_search.proofs.plain.run_to.Goals as goal

pub returns-then-end-bytes-clause-run : goal.returns-then-end-bytes-clause-run
returns-then-end-bytes-clause-run c =
    sym (take_all c.args.end c.args.text.now
    (let same : length c.as_bytes-bytes.result.now ≡ length c.args.text.now = ap length c.as_bytes-bytes.ensures.value in
    omega (arith, same, c.if-end-bytes.true)))

pub returns-then-end-bytes-clause-words : goal.returns-then-end-bytes-clause-words
returns-then-end-bytes-clause-words c =
    at_end c.args.text.now (subst IsRun (take_all c.args.end c.args.text.now
    (let same : length c.as_bytes-bytes.result.now ≡ length c.args.text.now = ap length c.as_bytes-bytes.ensures.value in
    omega (arith, same, c.if-end-bytes.true))) c.requires.run)

pub returns-then-end-bytes-clause-shorter : goal.returns-then-end-bytes-clause-shorter
returns-then-end-bytes-clause-shorter c = λ some. subst (λ n. n < length (chars c.args.text.now)) (sym (ap length chars-nil)) some

pub range_from-requires : goal.range_from-requires
range_from-requires c =
    let at : EndsAt c.args.text.now c.args.end = ends_at c.as_bytes-bytes.result.now c.args.text.now c.args.end c.is_gap.result
    c.as_bytes-bytes.ensures.value c.requires.within c.if-end-bytes.false c.requires.run c.is_gap.ensures c.if-not-is_gap.false in
    λ some. IsCharBoundary-after_ascii c.args.text.now c.args.end c.utf8.text at.low (gap_low c.args.text.now c.args.end at)

pub returns-clause-run : goal.returns-clause-run
returns-clause-run c = grind (arith, c.range.ensures.value)

pub returns-clause-words : goal.returns-clause-words
returns-clause-words c =
    let at : EndsAt c.args.text.now c.args.end = ends_at c.as_bytes-bytes.result.now c.args.text.now c.args.end c.is_gap.result
    c.as_bytes-bytes.ensures.value c.requires.within c.if-end-bytes.false c.requires.run c.is_gap.ensures c.if-not-is_gap.false in
    let run : c.range.result.now ≡ take c.args.end c.args.text.now = grind (arith, c.range.ensures.value) in
    at_gap c.args.text.now c.args.end at.low at.run at.gap
    ∙ sym (ap₂ (λ r t. word_if r ++ words_of t) run c.range_from.ensures.value)

pub returns-clause-shorter : goal.returns-clause-shorter
returns-clause-shorter c =
    let at : EndsAt c.args.text.now c.args.end = ends_at c.as_bytes-bytes.result.now c.args.text.now c.args.end c.is_gap.result
    c.as_bytes-bytes.ensures.value c.requires.within c.if-end-bytes.false c.requires.run c.is_gap.ensures c.if-not-is_gap.false in
    λ some. subst (λ t. length (chars t) < length (chars c.args.text.now)) (sym c.range_from.ensures.value)
    (fewer c.args.text.now c.args.end at.low at.run at.gap)
