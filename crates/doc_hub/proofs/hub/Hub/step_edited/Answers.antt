use Rattle.std.proofs.Common.{true, refl, ap, sym, subst, ◌∙◌}
use Rattle.std.specs.FinMap as map
use Rattle.doc_hub.proofs.CountSteps.{counted_by}
use Rattle.doc_hub.proofs.FrontSteps.{has_fault_code}
use Rattle.doc_hub.proofs.NumberSteps.{finished_have, same_have}
use Rattle.doc_http.specs.Requests.{IsNext}
use Rattle.doc_http.specs.declared.request.Next.TheVariants as nexts
use Rattle.doc_hub.specs.Connections.{finished}
use Rattle.doc_hub_events.specs.Events.{step_on}
use Rattle.doc_hub.proofs.StepCounts.{no_request_counts, request_counts}
use Rattle.doc_hub.proofs.StepEdits.{step_tells}
use Rattle.doc_hub.proofs.StoreSteps.{request_answered, world_of}
use Rattle.doc_hub.proofs.hub.Hub.step_edited.Goals as goal

pub answer_to_fault-requires : goal.answer_to_fault-requires
answer_to_fault-requires g c =
    let connection = c.in-Some.connection.now in
    has_fault_code connection.unread c.in_ok-next_request.field-0 c.in-Fault.code c.in-Fault.bare c.in-Fault.is
    (c.in_ok-next_request.ensures.found connection (sym c.in-Some.ensures))

pub invariant_of-self-in-Fault : goal.invariant_of-self-in-Fault
invariant_of-self-in-Fault g c =
    let same = c.in_ok-next_request.ensures.same in
    finished_have c.self.inside.given c.next_request.new.self c.finish.new.self c.args.id.0 0 true c.in-Some.connection.now
    (same_have c.self.inside.given c.self.inside.connections c.next_request.new.self same c.self.invariant)
    (c.in-Some.ensures ∙ ap (λ m. map.get m c.args.id.0) (sym same)) c.finish.ensures.finished

pub invariant_of-self-in-Request : goal.invariant_of-self-in-Request
invariant_of-self-in-Request g c =
    let same = c.in_ok-next_request.ensures.same in
    finished_have c.self.inside.given c.next_request.new.self c.finish-in-Request.new.self c.args.id.0 c.in-Request.used
    c.in_ok-answer-in-Request.answer.closes c.in-Some.connection.now
    (same_have c.self.inside.given c.self.inside.connections c.next_request.new.self same c.self.invariant)
    (c.in-Some.ensures ∙ ap (λ m. map.get m c.args.id.0) (sym same)) c.finish-in-Request.ensures.finished

pub returns-in_ok-answer-in-Request-clause-world : goal.returns-in_ok-answer-in-Request-clause-world
returns-in_ok-answer-in-Request-clause-world g c =
    let hub = c.self.inside in
    let connection = c.in-Some.connection.now in
    let answer = c.in_ok-answer-in-Request.answer in
    let same = c.in_ok-next_request.ensures.same in
    let begins = subst (IsNext connection.unread) c.in-Request.is (c.in_ok-next_request.ensures.found connection (sym c.in-Some.ensures)) in
    let set = c.finish-in-Request.ensures.finished connection (sym (c.in-Some.ensures ∙ ap (λ m. map.get m c.args.id.0) (sym same)))
    ∙ ap (λ m. map.insert m c.args.id.0 (finished connection c.in-Request.used answer.closes)) same in
    request_answered (g.R.Renderer.page hub.shelf.0) hub.media hub.takes_puts hub.readers hub.settings hub.given hub.connections
    c.finish-in-Request.new.self
    hub.shelf.1 c.answer.new.shelf.1 c.args.self.now.1 (λ i. (c.self.view_is i).1) c.args.id.0 connection c.in-Some.ensures
    c.if-connection.false c.in-Request.used c.in-Request.request begins answer
    c.in_ok-answer-in-Request.ensures.answer.0 c.in_ok-answer-in-Request.ensures.answer.1 set
    (g.R.Renderer.page c.args.self.now.0) (λ i. g.R.Renderer.page (c.self.view_is i).0) c.step_of.result.0 c.step_of.ensures.step

pub returns-in_ok-answer-in-Request-clause-edit : goal.returns-in_ok-answer-in-Request-clause-edit
returns-in_ok-answer-in-Request-clause-edit g c =
    let hub = c.self.inside in
    let connection = c.in-Some.connection.now in
    step_tells (g.R.Renderer.page hub.shelf.0) (g.R.Renderer.page c.args.self.now.0)
    (world_of hub.shelf.1 hub.media hub.takes_puts hub.readers hub.settings hub.given hub.connections) c.args.self.now.1
    (λ i. g.R.Renderer.page (c.self.view_is i).0) (λ i. (c.self.view_is i).1) c.args.id.0 connection c.in-Some.ensures
    c.if-connection.false c.in-Request.used c.in-Request.request
    (subst (IsNext connection.unread) c.in-Request.is (c.in_ok-next_request.ensures.found connection (sym c.in-Some.ensures)))
    c.in_ok-answer-in-Request.answer c.in_ok-answer-in-Request.ensures.answer.0 c.step_of.result.1 c.step_of.ensures.edit

-- ---- how often texts are rendered

pub returns-in-More-clause-counted : goal.returns-in-More-clause-counted
returns-in-More-clause-counted g c =
    let hub = c.self.inside in
    let before = world_of hub.shelf.1 hub.media hub.takes_puts hub.readers hub.settings hub.given hub.connections in
    let after = world_of hub.shelf.1 hub.media hub.takes_puts hub.readers hub.settings hub.given c.next_request.new.self in
    let connection = c.in-Some.connection.now in
    counted_by (g.R.Renderer.page hub.shelf.0) (g.R.Renderer.page c.args.self.now.0) (g.R.Renderer.count hub.shelf.0)
    (g.R.Renderer.count c.args.self.now.0) (g.R.Renderer.count hub.shelf.0) before c.args.self.now.1 after (step_on c.args.id) _
    (λ i. g.R.Renderer.page (c.self.view_is i).0) (λ i. g.R.Renderer.count (c.self.view_is i).0) (λ i. (c.self.view_is i).1)
    (no_request_counts (g.R.Renderer.page hub.shelf.0) (g.R.Renderer.count hub.shelf.0) (g.R.Renderer.count hub.shelf.0) before after
    c.args.id connection c.in-Some.ensures c.if-connection.false nexts.More
    (subst (IsNext connection.unread) c.in-More.is (c.in_ok-next_request.ensures.found connection (sym c.in-Some.ensures))) _ refl refl
    refl refl)

pub returns-in_ok-bytes-in-Fault-clause-counted : goal.returns-in_ok-bytes-in-Fault-clause-counted
returns-in_ok-bytes-in-Fault-clause-counted g c =
    let hub = c.self.inside in
    let before = world_of hub.shelf.1 hub.media hub.takes_puts hub.readers hub.settings hub.given hub.connections in
    let after = world_of hub.shelf.1 hub.media hub.takes_puts hub.readers hub.settings hub.given c.finish.new.self in
    let connection = c.in-Some.connection.now in
    counted_by (g.R.Renderer.page hub.shelf.0) (g.R.Renderer.page c.args.self.now.0) (g.R.Renderer.count hub.shelf.0)
    (g.R.Renderer.count c.args.self.now.0) (g.R.Renderer.count hub.shelf.0) before c.args.self.now.1 after (step_on c.args.id) _
    (λ i. g.R.Renderer.page (c.self.view_is i).0) (λ i. g.R.Renderer.count (c.self.view_is i).0) (λ i. (c.self.view_is i).1)
    (no_request_counts (g.R.Renderer.page hub.shelf.0) (g.R.Renderer.count hub.shelf.0) (g.R.Renderer.count hub.shelf.0) before after
    c.args.id connection c.in-Some.ensures c.if-connection.false (nexts.Fault c.in-Fault.code c.in-Fault.bare)
    (subst (IsNext connection.unread) c.in-Fault.is (c.in_ok-next_request.ensures.found connection (sym c.in-Some.ensures))) _ refl refl
    refl refl)

pub returns-in_ok-answer-in-Request-clause-counted : goal.returns-in_ok-answer-in-Request-clause-counted
returns-in_ok-answer-in-Request-clause-counted g c =
    let hub = c.self.inside in
    let before = world_of hub.shelf.1 hub.media hub.takes_puts hub.readers hub.settings hub.given hub.connections in
    let after = world_of c.answer.new.shelf.1 hub.media hub.takes_puts hub.readers hub.settings hub.given c.finish-in-Request.new.self in
    let connection = c.in-Some.connection.now in
    counted_by (g.R.Renderer.page hub.shelf.0) (g.R.Renderer.page c.args.self.now.0) (g.R.Renderer.count hub.shelf.0)
    (g.R.Renderer.count c.args.self.now.0) (g.R.Renderer.count c.answer.new.shelf.0) before c.args.self.now.1 after (step_on c.args.id) _
    (λ i. g.R.Renderer.page (c.self.view_is i).0) (λ i. g.R.Renderer.count (c.self.view_is i).0) (λ i. (c.self.view_is i).1)
    (request_counts (g.R.Renderer.page hub.shelf.0) (g.R.Renderer.count hub.shelf.0) (g.R.Renderer.count c.answer.new.shelf.0) before after
    c.args.id connection c.in-Some.ensures c.if-connection.false c.in-Request.used c.in-Request.request
    (subst (IsNext connection.unread) c.in-Request.is (c.in_ok-next_request.ensures.found connection (sym c.in-Some.ensures)))
    c.in_ok-answer-in-Request.answer c.in_ok-answer-in-Request.ensures.answer.0 c.step_of.result.0
    c.in_ok-answer-in-Request.ensures.counted)
