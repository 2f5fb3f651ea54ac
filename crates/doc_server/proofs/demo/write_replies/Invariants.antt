use Rattle.std.proofs.Common.{◌≡◌}
use Rattle.doc_server.specs.DemoSteps.{IsMade}
use Rattle.doc_server.proofs.Replies.{Replied}
use Rattle.doc_server.proofs.Unread.{unread_len}
use Rattle.doc_server.proofs.demo.write_replies.Given as goal

abbrev pub invariant-replies : goal.invariant-replies
invariant-replies g l = record {
  sent : Replied (g.R.Renderer.page l.fn.hub.0) l.fn.hub.1 l.id.0 l.hub.1 (g.O.Output.written l.fn.output)
      (g.O.Output.written l.output);
  writes : g.O.Output.failed l.output ≡ g.O.Output.failed l.fn.output;
  made : IsMade l.hub.1 l.id.0;
  same : g.R.Renderer.page l.hub.0 ≡ g.R.Renderer.page l.fn.hub.0;
}

abbrev pub decreases-replies : goal.decreases-replies
decreases-replies g l = unread_len l.hub.1 l.id.0
