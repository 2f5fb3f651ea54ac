use Rattle.std.proofs.Common.{sym, ◌∙◌}
use Rattle.doc_hub_media.specs.Edits.{puts_taken}
use Rattle.doc_hub_replies.proofs.BesideSteps.{media_counted, media_so, pages_counted, pages_so}
use Rattle.doc_hub_replies.proofs.serving.Serving.with_edits.Goals as goal

pub returns-in-Some-clause-answer : goal.returns-in-Some-clause-answer
returns-in-Some-clause-answer g c =
    let self = c.args.self.now in
    let store = c.args.shelf.now.1 in
    media_so self.settings.now (g.R.Renderer.page c.args.shelf.now.0) self.readers.now self.media.now
    (puts_taken self.takes_puts store.puts) c.args.request.now store c.in-Some.answer (sym c.in-Some.is ∙ c.in_ok-answer.ensures)

pub returns-in-Some-clause-counted : goal.returns-in-Some-clause-counted
returns-in-Some-clause-counted g c =
    let self = c.args.self.now in
    let store = c.args.shelf.now.1 in
    media_counted self.settings.now (g.R.Renderer.page c.args.shelf.now.0) self.readers.now self.media.now
    (puts_taken self.takes_puts store.puts) c.args.request.now store (g.R.Renderer.count c.args.shelf.now.0) store.puts c.in-Some.answer
    (sym c.in-Some.is ∙ c.in_ok-answer.ensures)

pub returns-in-None-clause-answer : goal.returns-in-None-clause-answer
returns-in-None-clause-answer g c =
    let self = c.args.self.now in
    let store = c.args.shelf.now.1 in
    pages_so self.settings.now (g.R.Renderer.page c.args.shelf.now.0) self.readers.now self.media.now
    (puts_taken self.takes_puts store.puts) c.args.request.now store c.by_pages.new.shelf.1 c.by_pages.result
    (sym c.in-None.is ∙ c.in_ok-answer.ensures) c.by_pages.ensures.answer

pub returns-in-None-clause-counted : goal.returns-in-None-clause-counted
returns-in-None-clause-counted g c =
    let self = c.args.self.now in
    let store = c.args.shelf.now.1 in
    pages_counted self.settings.now (g.R.Renderer.page c.args.shelf.now.0) self.readers.now self.media.now
    (puts_taken self.takes_puts store.puts) c.args.request.now store (g.R.Renderer.count c.args.shelf.now.0) store.puts
    (g.R.Renderer.count c.by_pages.new.shelf.0) c.by_pages.new.shelf.1.puts c.by_pages.result
    (sym c.in-None.is ∙ c.in_ok-answer.ensures) c.by_pages.ensures.counted
