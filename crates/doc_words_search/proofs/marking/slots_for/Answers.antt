use Rattle.std.proofs.Common.{sym}
use Rattle.doc_words_search.specs.Held.{words_held}
use Rattle.doc_words_search.specs.Searches.{pages_of}
use Rattle.doc_words_search.specs.SearchSteps.{pages_at}
use Rattle.doc_words_search.proofs.AgreeSteps.{agree_all, agree_some}
use Rattle.doc_words_search.proofs.HeldSteps.{pages_in_order}
use Rattle.doc_words_search.proofs.SearchSteps.{told}
use Rattle.doc_words_search.proofs.marking.slots_for.Goals as goal

pub returns-then-is_empty : goal.returns-then-is_empty
returns-then-is_empty c =
    told c.in_order.result (λ slots is.
    agree_all c.args.words.now (pages_at c.args.pages.now slots.items) (pages_of (words_held c.args.pages.now))
    (sym (pages_in_order c.args.pages.now slots.items is))) c.in_order.ensures.entries

pub returns : goal.returns
returns c =
    told c.slots_with.result (λ slots is.
    agree_some c.args.words.now (pages_at c.args.pages.now slots.items) (pages_of (words_held c.args.pages.now)) c.is_empty.result
    c.is_empty.ensures c.if-is_empty.false is) c.slots_with.ensures
