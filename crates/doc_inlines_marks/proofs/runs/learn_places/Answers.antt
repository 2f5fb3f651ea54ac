use Rattle.std.proofs.Common.{rules, arith, ◌∙◌, sym, ◌<◌, chars}
use Rattle.doc_rules.specs.Parsers.{run_length}
use Rattle.doc_inlines_marks.proofs.Sizes.{size_of}
use Rattle.doc_inlines_marks.proofs.SearchSteps.{learning_first, learned_all, learning_noted, shorter_behind}
use Rattle.doc_inlines_marks.proofs.runs.learn_places.Goals as goal

pub runs-init : goal.runs-init
runs-init c = record { is_text = search rules; learning = learning_first _ _ }

pub returns-then-length-eq0 : goal.returns-then-length-eq0
returns-then-length-eq0 c = learned_all _ _ _ _ c.runs.invariant.learning c.to_run-start.ensures (sym c.run-length.ensures.length
    ∙ c.if-length-eq0.true)

pub runs-smaller : goal.runs-smaller
runs-smaller c =
    let some : 0 < run_length 96 (chars c.to_run-start.result.now) = omega (arith, c.run-length.ensures.length, c.if-length-eq0.false) in
    shorter_behind _ _ _ c.to_run-start.ensures c.run-length.ensures.behind some

pub runs-preserved : goal.runs-preserved
runs-preserved c =
    let some : 0 < run_length 96 (chars c.to_run-start.result.now) = omega (arith, c.run-length.ensures.length, c.if-length-eq0.false) in
    record {
      is_text = search rules;
      learning = learning_noted _ _ _ _ _ _ _ _ _ c.runs.invariant.learning c.to_run-start.ensures c.run-length.ensures.behind some
          c.run-length.ensures.length (size_of _ c.utf8.text) (size_of _ c.to_run-start.utf8) c.in_ok-note.ensures.same
          c.in_ok-note.ensures.others;
    }
