use Rattle.std.proofs.Common.{◌+◌, ap}
use Rattle.doc_rules.proofs.ParserLaws.{is_rest_again}
use Rattle.doc_inlines_marks.proofs.SearchSteps.{behind_run, ends_at_run}
use Rattle.doc_inlines_marks.proofs.CodeSpanLaws.{no_span, one_span, span_stands, span_rest, told_all, lacked}
use Rattle.doc_inlines_marks.proofs.backticks.Backticks.code_span.Goals as goal

pub returns-then-lacks-clause-value : goal.returns-then-lacks-clause-value
returns-then-lacks-clause-value c = λ whole told ends.
    no_span _ _ _ c.run-more.ensures.behind (ap (λ n. n + 1) c.run-more.ensures.length)
    (lacked c.args.self.now whole _ _ _ told (is_rest_again _ _ _ (behind_run _ _ c.run-more.ensures.behind) ends)
    (ends_at_run _ _ c.run-more.ensures.behind) c.run-more.ensures.size (c.lacks.ensures c.if-lacks.true))

pub returns-then-lacks-clause-end : goal.returns-then-lacks-clause-end
returns-then-lacks-clause-end c = behind_run _ _ c.run-more.ensures.behind

pub returns-in-Some-clause-value : goal.returns-in-Some-clause-value
returns-in-Some-clause-value c = λ whole told ends.
    one_span _ _ _ _ _ _ c.run-more.ensures.behind (ap (λ n. n + 1) c.run-more.ensures.length) c.in-Some.ensures c.code_text.ensures

pub returns-in-Some-clause-slice : goal.returns-in-Some-clause-slice
returns-in-Some-clause-slice c = span_stands _ _ _ _ _ _ c.run-more.ensures.behind c.in-Some.ensures c.code_text.ensures

pub returns-in-Some-clause-end : goal.returns-in-Some-clause-end
returns-in-Some-clause-end c = span_rest _ _ _ _ _ c.run-more.ensures.behind c.in-Some.ensures

pub returns-clause-value : goal.returns-clause-value
returns-clause-value c = λ whole told ends.
    no_span _ _ _ c.run-more.ensures.behind (ap (λ n. n + 1) c.run-more.ensures.length) c.in_default.ensures

pub returns-clause-told : goal.returns-clause-told
returns-clause-told c = λ whole told ends.
    told_all c.learn.new.self whole _ (is_rest_again _ _ _ (behind_run _ _ c.run-more.ensures.behind) ends) c.in_ok-learn.ensures.learned

pub returns-clause-end : goal.returns-clause-end
returns-clause-end c = behind_run _ _ c.run-more.ensures.behind
