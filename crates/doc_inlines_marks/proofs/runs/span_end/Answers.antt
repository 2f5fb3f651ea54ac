use Rattle.std.proofs.Common.{rules, arith, ◌∙◌, sym, ◌<◌, chars}
use Rattle.doc_rules.specs.Parsers.{run_length}
use Rattle.doc_rules.proofs.ParserLaws.{is_rest_again}
use Rattle.doc_inlines_marks.proofs.SearchSteps.{sought_first, sought_rest, to_run_rest, sought_behind, span_found, span_missing}
use Rattle.doc_inlines_marks.proofs.SearchSteps.{shorter_behind}
use Rattle.doc_inlines_marks.proofs.runs.span_end.Goals as goal

pub runs-init : goal.runs-init
runs-init c = record { is_text = search rules; sought = sought_first _ _ }

pub front-requires : goal.front-requires
front-requires c = is_rest_again _ _ _ (to_run_rest _ _ c.to_run-start.ensures) (sought_rest _ _ _ c.runs.invariant.sought)

pub returns-then-length-wanted : goal.returns-then-length-wanted
returns-then-length-wanted c =
    span_found _ _ _ _ _ _ c.runs.invariant.sought c.to_run-start.ensures c.run-length.ensures.behind c.requires
    (sym c.run-length.ensures.length ∙ c.if-length-wanted.true) c.front.ensures.joins

pub returns-then-length-eq0 : goal.returns-then-length-eq0
returns-then-length-eq0 c = span_missing _ _ _ _ c.runs.invariant.sought c.to_run-start.ensures (sym c.run-length.ensures.length
    ∙ c.if-length-eq0.true)

pub runs-smaller : goal.runs-smaller
runs-smaller c =
    let some : 0 < run_length 96 (chars c.to_run-start.result.now) = omega (arith, c.run-length.ensures.length, c.if-length-eq0.false) in
    shorter_behind _ _ _ c.to_run-start.ensures c.run-length.ensures.behind some

pub runs-preserved : goal.runs-preserved
runs-preserved c =
    let some : 0 < run_length 96 (chars c.to_run-start.result.now) = omega (arith, c.run-length.ensures.length, c.if-length-eq0.false) in
    record {
      is_text = search rules;
      sought = sought_behind _ _ _ _ _ c.runs.invariant.sought c.to_run-start.ensures c.run-length.ensures.behind some
          (λ e. c.if-length-wanted.false (c.run-length.ensures.length ∙ e));
    }
