use Rattle.std.proofs.Common.{ap, sym, ◌∙◌}
use Rattle.std.specs.Prelude.{Ok}
use Rattle.doc_server_script.proofs.EventSteps.{all_read}
use Rattle.doc_server_script.proofs.script.events_of.Goals as goal

pub returns-clause-read : goal.returns-clause-read
returns-clause-read c =
    all_read _ c.lines.events.items c.lines.number c.lines.left.now c.lines.invariant.events c.in_default.ensures
    ∙ ap (λ es. Ok es) (sym c.new.ensures)
