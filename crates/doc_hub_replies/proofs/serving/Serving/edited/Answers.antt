use Rattle.std.proofs.Common.{Bool, Some, ap, subst}
use Rattle.doc_http.specs.declared.request.Request.{Request}
use Rattle.doc_media.specs.Media.{beside_of}
use Rattle.doc_store_readers.specs.Sites.{view_of}
use Rattle.doc_hub_media.specs.AnswerSteps.{AnsweredSo}
use Rattle.doc_hub_media.specs.Edits.{puts_taken}
use Rattle.doc_hub_asking.specs.Asking.{is_guest}
use Rattle.doc_hub_asking.specs.AskingSteps.{asking_shown}
use Rattle.doc_hub_editing_refusals.specs.AskedSteps.{edit_request_shown}
use Rattle.doc_hub_media.specs.EditAnswers.{by_entry, shows_preview}
use Rattle.doc_hub_media.specs.EditResponses.{editing_answer}
use Rattle.doc_hub_replies.proofs.ServingSteps.{counted_as, editing_so}
use Rattle.doc_hub_replies.proofs.serving.Serving.edited.Goals as goal
use Rattle.doc_hub_replies.specs.Answers.{dress_for, is_for_people}
use Rattle.doc_hub_replies.specs.ServingSteps.{closes_after}

pub returns-clause-answer : goal.returns-clause-answer
returns-clause-answer g c =
    let request = c.args.request.now in
    let browse = c.args.browse.now in
    let asking = asking_shown c.args.asking.now in
    let store = c.args.shelf.now.1 in
    let row = c.args.row.now in
    let answer_by = λ (takes guest people : Bool) (asks : Request). by_entry (g.R.Renderer.page c.args.shelf.now.0) browse
    (view_of store.site (Some row)) (beside_of c.args.self.now.media.now (Some row)) guest row (puts_taken takes store.puts) people asks (edit_request_shown c.args.asked) in
    subst (λ takes. AnsweredSo request.body store (editing_answer (dress_for browse asking)
    (answer_by takes (is_guest asking) (is_for_people request) request) (closes_after c.args.self.now.settings.now request) request)
    c.answer.new.shelf.1 c.answer.result) c.exchange-exchange.ensures.takes_puts
    (editing_so c.exchange-exchange.result request c.manner.result (dress_for browse asking)
    (closes_after c.args.self.now.settings.now request) c.exchange-exchange.ensures.request c.exchange-exchange.ensures.manner
    c.manner.ensures.dress c.manner.ensures.head_only c.manner.ensures.close
    (answer_by c.exchange-exchange.result.takes_puts)
    c.is_guest.result (is_guest asking) c.is_for_people.result (is_for_people request) store c.answer.new.shelf.1 c.answer.result
    c.is_guest.ensures c.is_for_people.ensures c.answer.ensures.answer)

pub returns-clause-counted : goal.returns-clause-counted
returns-clause-counted g c =
    let asked = edit_request_shown c.args.asked in
    let owner = c.args.row.now.owner in
    counted_as (g.R.Renderer.count c.args.shelf.now.0) c.args.shelf.now.1.puts (g.R.Renderer.count c.answer.new.shelf.0)
    c.answer.new.shelf.1.puts (shows_preview owner c.exchange-exchange.result.request.now (Some asked))
    (shows_preview owner c.args.request.now (Some asked)) c.answer.result
    (ap (λ (r : Request). shows_preview owner r (Some asked)) c.exchange-exchange.ensures.request) c.answer.ensures.counted
