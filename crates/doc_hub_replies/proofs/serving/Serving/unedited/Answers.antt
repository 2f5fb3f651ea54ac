use Rattle.std.proofs.Common.{false, ap, refl, sym, ◌∙◌}
use Rattle.doc_media.specs.Media.{beside_of}
use Rattle.doc_store_readers.specs.Sites.{view_of}
use Rattle.doc_hub_media.specs.Edits.{puts_taken}
use Rattle.doc_hub_asking.specs.Asking.{row_of}
use Rattle.doc_hub_asking.specs.AskingSteps.{asking_shown}
use Rattle.doc_hub_media.specs.PeopleAnswers.{people_reply}
use Rattle.doc_hub_replies.proofs.ServingSteps.{counted_alone, people_so, plain_so}
use Rattle.doc_hub_replies.proofs.serving.Serving.unedited.Goals as goal
use Rattle.doc_hub_replies.specs.Answers.{people_answer}
use Rattle.doc_hub_replies.specs.ServingSteps.{closes_after}

pub returns-then-is_for_people-clause-answer : goal.returns-then-is_for_people-clause-answer
returns-then-is_for_people-clause-answer g c =
    let request = c.args.request.now in
    let store = c.args.shelf.now.1 in
    people_so c.args.browse.now (g.R.Renderer.page c.args.shelf.now.0) store c.args.self.now.media.now (puts_taken c.args.self.now.takes_puts store.puts)
    (closes_after c.args.self.now.settings.now request) request (asking_shown c.args.asking.now) c.people.new.shelf.1 c.people.result
    (ap (λ s. s.1) c.people.ensures.same) (sym c.is_for_people.ensures ∙ c.if-is_for_people.true) c.people.ensures.answer

pub returns-then-is_for_people-clause-counted : goal.returns-then-is_for_people-clause-counted
returns-then-is_for_people-clause-counted g c =
    let request = c.args.request.now in
    let store = c.args.shelf.now.1 in
    let asking = asking_shown c.args.asking.now in
    let render = g.R.Renderer.page c.args.shelf.now.0 in
    counted_alone (g.R.Renderer.count c.args.shelf.now.0) store.puts (g.R.Renderer.count c.people.new.shelf.0) c.people.new.shelf.1.puts
    false
    (people_answer (people_reply render c.args.browse.now (view_of store.site (row_of asking)) (beside_of c.args.self.now.media.now (row_of asking)) asking
    request)
    (closes_after c.args.self.now.settings.now request) request) c.people.result c.people.ensures.answer refl
    (ap (λ s. g.R.Renderer.count s.0) c.people.ensures.same) (ap (λ s. s.1.puts) c.people.ensures.same) refl

pub returns-clause-answer : goal.returns-clause-answer
returns-clause-answer g c =
    let request = c.args.request.now in
    let store = c.args.shelf.now.1 in
    plain_so c.args.browse.now (g.R.Renderer.page c.args.shelf.now.0) store c.args.self.now.media.now (puts_taken c.args.self.now.takes_puts store.puts)
    (closes_after c.args.self.now.settings.now request) request (asking_shown c.args.asking.now) c.guarded.new.shelf.1 c.guarded.result
    (sym c.is_for_people.ensures ∙ c.if-is_for_people.false) c.guarded.ensures.answer
