use Rattle.doc_server_listen.proofs.OnlyReads.{reading_tells_none}
use Rattle.doc_server_listen.proofs.StepLimits.{told_fits}
use Rattle.doc_server_listen.proofs.edit_lines.step_and_keep.Goals as goal

pub push-requires-clause-room : goal.push-requires-clause-room
push-requires-clause-room g c =
    told_fits (g.R.Renderer.page c.args.hub.now.0) c.args.hub.now.1 c.step_edited.new.self.1 c.args.id c.in_ok-step.step c.in_ok-step.edit
    c.args.edits.now c.in_ok-step.ensures.world c.in_ok-step.ensures.edit c.names_groups.ensures c.requires

pub returns-clause-rests : goal.returns-clause-rests
returns-clause-rests g c only = c.push.ensures.none
    (reading_tells_none (g.R.Renderer.page c.args.hub.now.0) c.args.hub.now.1 c.args.id.0 c.in_ok-step.edit c.in_ok-step.ensures.edit only)
