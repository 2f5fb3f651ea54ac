use Rattle.trial_site.proofs.Nobody.{served_nobody}
use Rattle.trial_site.proofs.serving.hosted.serve.Goals as goal

pub serve-ended-requires-clause-new : goal.serve-ended-requires-clause-new
serve-ended-requires-clause-new g c =
    served_nobody _ (g.N.Network.came c.args.net.now) (g.N.Network.gone c.args.net.now) (g.N.Network.is_free c.args.net.now) _
    c.in_ok-server.ensures.empty c.requires.new c.requires.free
