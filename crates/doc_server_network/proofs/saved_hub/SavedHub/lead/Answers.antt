use Rattle.doc_server_network.proofs.Leading.{rest_stays}
use Rattle.doc_server_network.proofs.saved_hub.SavedHub.lead.Goals as goal

pub returns-in-Ok-false-clause-others : goal.returns-in-Ok-false-clause-others
returns-in-Ok-false-clause-others g c =
    rest_stays (g.R.Renderer.page c.args.self.now.hub.0) c.args.edits.now c.args.self.now.hub.1 c.lead_hub.new.hub.1 c.lead_hub.ensures.runs
    c.edits_of_the_site_leave_the_rest.ensures

pub returns-in-Err-clause-others : goal.returns-in-Err-clause-others
returns-in-Err-clause-others g c =
    rest_stays (g.R.Renderer.page c.args.self.now.hub.0) c.args.edits.now c.args.self.now.hub.1 c.lead_hub.new.hub.1 c.lead_hub.ensures.runs
    c.edits_of_the_site_leave_the_rest.ensures

pub returns-in-Ok-true-clause-others : goal.returns-in-Ok-true-clause-others
returns-in-Ok-true-clause-others g c =
    rest_stays (g.R.Renderer.page c.args.self.now.hub.0) c.args.edits.now c.args.self.now.hub.1 c.lead_hub.new.hub.1 c.lead_hub.ensures.runs
    c.edits_of_the_site_leave_the_rest.ensures
