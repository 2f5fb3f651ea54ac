use Rattle.std.proofs.Common.{Some, sym, ◌∙◌}
use Rattle.doc_http_targets.specs.Targets.{route_shown}
use Rattle.doc_media.specs.Media.{beside_of}
use Rattle.doc_store_readers.specs.Sites.{view_of}
use Rattle.doc_hub_answers.specs.Edits.{puts_taken}
use Rattle.doc_hub_answers.proofs.AnswerSteps.{edited_so, read_so}
use Rattle.doc_hub_answers.proofs.routes.at_route.Goals as goal

pub returns-then-reads-clause-answer : goal.returns-then-reads-clause-answer
returns-then-reads-clause-answer g c =
    let old = c.args.shelf.now in
    let reader = c.args.reader.now in
    read_so c.args.exchange.now old.1 c.read_at.new.shelf.1 (g.R.Renderer.page old.0) (view_of old.1.site (Some reader))
    (beside_of c.args.media.now (Some reader)) reader.owner (puts_taken c.args.exchange.now.takes_puts old.1.puts)
    (route_shown c.args.route) c.read_at.result (sym c.reads.ensures ∙ c.if-reads.true) c.read_at.ensures.answer
    (λ i. (c.read_at.ensures.same i).1)

pub returns-else-reads-clause-answer : goal.returns-else-reads-clause-answer
returns-else-reads-clause-answer g c =
    let old = c.args.shelf.now in
    let reader = c.args.reader.now in
    edited_so c.args.exchange.now old.1 c.edit_at.new.shelf.1 (g.R.Renderer.page old.0) (view_of old.1.site (Some reader))
    (beside_of c.args.media.now (Some reader)) reader.owner (puts_taken c.args.exchange.now.takes_puts old.1.puts)
    (route_shown c.args.route) c.edit_at.result (sym c.reads.ensures ∙ c.if-reads.false) c.edit_at.ensures.answer
