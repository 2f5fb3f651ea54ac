use Rattle.doc_server_network.proofs.Leading.{disconnect_is_unedited}
use Rattle.doc_server_turns.proofs.taking.dropped.Goals as goal

pub returns-clause-unedited : goal.returns-clause-unedited
returns-clause-unedited g c =
    disconnect_is_unedited (g.R.Renderer.page c.args.saved.now.hub.0) c.args.saved.now c.disconnect.new.self c.disconnect.ensures.journal
    c.disconnect.ensures.unsaved (record { 0 = c.args.id }) _ c.disconnect.ensures.world
