use Rattle.std.proofs.Common.{Some, subst}
use Rattle.doc_store_readers.specs.Sites.{view_of}
use Rattle.doc_hub_answers.specs.AnswerSteps.{Answered}
use Rattle.doc_hub_answers.specs.Edits.{puts_taken}
use Rattle.doc_hub_answers.proofs.AnswerSteps.{delete_is_edit, put_is_edit}
use Rattle.doc_hub_answers.proofs.routes.edit_page.Goals as goal

pub returns-in-Put-clause-answer : goal.returns-in-Put-clause-answer
returns-in-Put-clause-answer g c =
    let old = c.args.shelf.now.1 in
    let reader = c.args.reader.now in
    let exchange = c.args.exchange.now in
    subst (λ response. Answered exchange old response c.put_page.new.shelf.1 c.put_page.result)
    (put_is_edit (view_of old.site (Some reader)) reader.owner (puts_taken c.args.exchange.now.takes_puts old.puts)
    c.args.rest.now exchange.request.now exchange.method c.in-Put.is c.if-reader.true)
    (c.put_page.ensures.answer reader c.if-reader.true)

pub returns-in-Delete-clause-answer : goal.returns-in-Delete-clause-answer
returns-in-Delete-clause-answer g c =
    let old = c.args.shelf.now.1 in
    let reader = c.args.reader.now in
    let exchange = c.args.exchange.now in
    subst (λ response. Answered exchange old response c.delete_page.new.shelf.1 c.delete_page.result)
    (delete_is_edit (view_of old.site (Some reader)) reader.owner (puts_taken c.args.exchange.now.takes_puts old.puts)
    c.args.rest.now exchange.request.now exchange.method c.in-Delete.is c.if-reader-2.true)
    (c.delete_page.ensures.answer reader c.if-reader-2.true)
