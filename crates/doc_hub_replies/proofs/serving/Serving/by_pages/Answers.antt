use Rattle.std.proofs.Common.{sym}
use Rattle.doc_hub_media.specs.Edits.{puts_taken}
use Rattle.doc_hub_replies.proofs.ServingSteps.{answered_with, answered_without}
use Rattle.doc_hub_replies.proofs.serving.Serving.by_pages.Goals as goal

pub returns-in-None-clause-answer : goal.returns-in-None-clause-answer
returns-in-None-clause-answer g c =
    let store = c.args.shelf.now.1 in
    answered_without c.args.self.now.settings.now (g.R.Renderer.page c.args.shelf.now.0) c.args.self.now.media.now c.args.self.now.readers.now
    (puts_taken c.args.self.now.takes_puts store.puts) c.args.request.now store c.plain.new.shelf.1 c.plain.result (sym c.in-None.is) c.plain.ensures.answer

pub returns-in-Some-clause-answer : goal.returns-in-Some-clause-answer
returns-in-Some-clause-answer g c =
    let store = c.args.shelf.now.1 in
    answered_with c.args.self.now.settings.now (g.R.Renderer.page c.args.shelf.now.0) c.args.self.now.media.now c.args.self.now.readers.now
    (puts_taken c.args.self.now.takes_puts store.puts) c.args.request.now store c.browsed.new.shelf.1 c.browsed.result c.in-Some.browse (sym c.in-Some.is)
    c.browsed.ensures.answer
