use Rattle.std.proofs.Common.{ap, ◌/◌, ◌∙◌}
use Rattle.doc_words_search.proofs.SearchSteps.{weighs}
use Rattle.doc_words_search.proofs.weighing.weigh.Goals as goal

pub returns : goal.returns
returns c =
    weighs c.args.pages.now c.args.word.now
    (record { postings = c.in_ok-postings.postings; quotient = c.quotient-quotient.result }) c.args.count c.args.seen.now
    c.in_ok-postings.ensures (c.quotient-quotient.ensures ∙ ap (λ m. c.args.count / m) c.holders.ensures)
