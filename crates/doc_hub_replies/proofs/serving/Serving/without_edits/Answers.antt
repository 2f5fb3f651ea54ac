use Rattle.std.proofs.Common.{Some, ap, sym, ◌∙◌}
use Rattle.doc_hub_asking.specs.Asking.{reader_asking, row_of}
use Rattle.doc_hub_replies.proofs.TakingLaws.{none_to_nobody, none_where_left, none_where_taken, refusal_sent, refused_where_not}
use Rattle.doc_hub_replies.specs.Answers.{dress_by}
use Rattle.doc_hub_replies.specs.ServingSteps.{closes_after}
use Rattle.doc_hub_replies.specs.TakingEdits.{not_left, refused_method}
use Rattle.doc_hub_replies.proofs.serving.Serving.without_edits.Goals as goal

pub returns-then-self : goal.returns-then-self
returns-then-self c =
    let settings = c.args.self.now.settings.now in
    let request = c.args.request.now in
    let asking = reader_asking settings.browse c.args.self.now.readers.now request in
    none_where_taken (refused_method (dress_by settings.browse asking) (closes_after settings request) request) settings asking request
    c.if-self.true

pub returns-in_default : goal.returns-in_default
returns-in_default c =
    let settings = c.args.self.now.settings.now in
    let request = c.args.request.now in
    let asking = reader_asking settings.browse c.args.self.now.readers.now request in
    none_where_left (refused_method (dress_by settings.browse asking) (closes_after settings request) request) settings asking request
    (ap (λ browse. not_left browse request) (sym c.browse.ensures) ∙ sym c.not_left.ensures ∙ c.in_default.is)

pub returns-in_default-row : goal.returns-in_default-row
returns-in_default-row c =
    let settings = c.args.self.now.settings.now in
    let request = c.args.request.now in
    let asking = reader_asking settings.browse c.args.self.now.readers.now request in
    none_to_nobody (refused_method (dress_by settings.browse asking) (closes_after settings request) request) settings asking request
    (c.in_default-row.ensures ∙ ap row_of c.in_ok-asking.ensures)

pub returns : goal.returns
returns c =
    let settings = c.args.self.now.settings.now in
    let request = c.args.request.now in
    let asking = reader_asking settings.browse c.args.self.now.readers.now request in
    let refusal = refused_method (dress_by settings.browse asking) (closes_after settings request) request in
    ap Some (c.in_ok-answer.ensures
    ∙ refusal_sent c.exchange-exchange.result request c.manner_by.result (dress_by settings.browse asking) (closes_after settings request)
    c.in-Some.allow c.exchange-exchange.ensures.manner (c.manner_by.ensures.dress ∙ ap (dress_by settings.browse) c.in_ok-asking.ensures)
    c.manner_by.ensures.head_only c.manner_by.ensures.close)
    ∙ refused_where_not refusal settings asking request c.in-Some.allow _ c.if-self.false
    (ap (λ browse. not_left browse request) (sym c.browse.ensures) ∙ sym c.not_left.ensures ∙ c.in-Some.is)
    (c.in-Some-row.ensures ∙ ap row_of c.in_ok-asking.ensures)
