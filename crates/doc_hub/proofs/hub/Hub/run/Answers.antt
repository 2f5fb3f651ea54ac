use Rattle.std.proofs.Common.{◌≡◌, ◌+◌, ◌++◌, [], ◌∷◌, take, arith, ap, sym, ◌∙◌, true, refl, vec_len}
use Rattle.std.specs.Prelude.{is_ok}
use Rattle.std.proofs.lemmas.List.{take_more}
use Rattle.doc_hub.proofs.CountSteps.{no_events, run_counts}
use Rattle.doc_hub.proofs.RunSteps.{no_event, one_more_event}
use Rattle.doc_hub.proofs.hub.Hub.run.Goals as goal

pub loop-event-init : goal.loop-event-init
loop-event-init g c =
    let empty = c.in_ok-outcomes.ensures in
    record {
      same = refl;
      count = empty.len;
      room = empty.capacity;
      counted = λ _. no_events (g.R.Renderer.page c.args.self.now.0) (g.R.Renderer.count c.args.self.now.0) c.args.self.now.1
          c.in_ok-outcomes.outcomes.items empty.items;
      told = no_event (g.R.Renderer.page c.args.self.now.0) c.args.self.now.1 c.in_ok-outcomes.outcomes.items empty.items;
    }

pub loop-event-preserved : goal.loop-event-preserved
loop-event-preserved g c =
    let i = c.loop-event.event-index in
    let events = c.args.events.now in
    let event = c.event-item.result in
    let ok : is_ok c.push.result ≡ true = c.push.ensures.succeeds (omega arith) in
    let added : c.push.new.self.items ≡ c.loop-event.outcomes.items ++ c.happen-outcome.result ∷ [] = c.push.ensures.items ∙ rw ok refl in
    let more : vec_len c.push.new.self ≡ vec_len c.loop-event.outcomes + 1 = c.push.ensures.len ∙ rw ok refl in
    let taken : take (i + 1) events ≡ take i events ++ event ∷ [] = take_more events i event (omega arith)
    ∙ ap (λ x. take i events ++ x ∷ []) (sym c.event-item.is) in
    record {
      same = c.happen-outcome.ensures.same ∙ c.loop-event.invariant.same;
      count = omega arith;
      room = omega arith;
      counted = run_counts (g.R.Renderer.page c.args.self.now.0) (g.R.Renderer.page c.loop-event.self.0)
          (g.R.Renderer.count c.args.self.now.0) (g.R.Renderer.count c.loop-event.self.0)
          (g.R.Renderer.count c.happen-outcome.new.self.0) c.args.self.now.1 c.loop-event.self.1 c.happen-outcome.new.self.1 (take i events)
          (take (i + 1) events) c.loop-event.outcomes.items c.push.new.self.items event c.happen-outcome.result
          c.loop-event.invariant.same c.loop-event.invariant.counted c.happen-outcome.ensures.world c.happen-outcome.ensures.counted
          taken added;
      told = one_more_event (g.R.Renderer.page c.args.self.now.0) (g.R.Renderer.page c.loop-event.self.0) c.args.self.now.1
          c.loop-event.self.1 c.happen-outcome.new.self.1 (take i events) (take (i + 1) events) c.loop-event.outcomes.items
          c.push.new.self.items event c.happen-outcome.result
          c.loop-event.invariant.same c.loop-event.invariant.told c.happen-outcome.ensures.world taken added;
    }
