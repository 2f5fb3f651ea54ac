use Rattle.std.proofs.Common.{◌≡◌, ◌≤◌, false, length, take, vec_len, vec_capacity}
use Rattle.std.specs.List.{list_any}
use Rattle.doc_hub.specs.Counts.{CountedAll, ran_out}
use Rattle.doc_hub.specs.Runs.{RunsAll}
use Rattle.doc_hub.proofs.hub.Hub.run.Given as goal

abbrev pub invariant-loop-event : goal.invariant-loop-event
invariant-loop-event g l =
    let page = g.R.Renderer.page l.fn.self.0 in
    record {
      same : g.R.Renderer.page l.self.0 ≡ page;
      count : vec_len l.outcomes ≡ l.event-index;
      room : length l.events ≤ vec_capacity l.outcomes;
      counted : list_any ran_out l.outcomes.items ≡ false → CountedAll page (take l.event-index l.events) (g.R.Renderer.count l.fn.self.0)
          l.fn.self.1 (g.R.Renderer.count l.self.0) l.self.1 l.outcomes.items;
      told : RunsAll page (take l.event-index l.events) l.fn.self.1 l.self.1 l.outcomes.items;
    }
