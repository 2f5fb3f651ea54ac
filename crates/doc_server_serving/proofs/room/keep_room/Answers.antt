use Rattle.doc_server_serving.proofs.Accepting.{quiet_none, quiet_taking}
use Rattle.doc_server_turns.proofs.Sites.{same_by, takes_same}
use Rattle.doc_server_serving.proofs.room.keep_room.Goals as goal

pub returns-in_err-grown-clause-quiet : goal.returns-in_err-grown-clause-quiet
returns-in_err-grown-clause-quiet g c =
    quiet_none (g.R.Renderer.page c.args.saved.now.hub.0) c.args.saved.now.hub.1 c.keep_reserve.new.self.hub.1
    c.in_err-grown.ensures.rests

pub returns-then-takes-took-clause-quiet : goal.returns-then-takes-took-clause-quiet
returns-then-takes-took-clause-quiet g c =
    quiet_taking (g.R.Renderer.page c.args.saved.now.hub.0) c.keep_reserve.new.self.journal c.args.saved.now.hub.1
    c.keep_reserve.new.self.hub.1 c.in_ok-grown.ensures.taken

pub returns-in-Some-clause-quiet : goal.returns-in-Some-clause-quiet
returns-in-Some-clause-quiet g c =
    quiet_taking (g.R.Renderer.page c.args.saved.now.hub.0) c.keep_reserve.new.self.journal c.args.saved.now.hub.1
    c.keep_reserve.new.self.hub.1 c.in_ok-grown.ensures.taken

pub returns-in_err-grown-clause-site : goal.returns-in_err-grown-clause-site
returns-in_err-grown-clause-site g c =
    same_by c.args.saved.now.hub.1 c.keep_reserve.new.self.hub.1 c.in_err-grown.ensures.rests

pub returns-then-takes-took-clause-site : goal.returns-then-takes-took-clause-site
returns-then-takes-took-clause-site g c =
    takes_same (g.R.Renderer.page c.args.saved.now.hub.0) c.keep_reserve.new.self.journal c.args.saved.now.hub.1
    c.keep_reserve.new.self.hub.1 c.in_ok-grown.ensures.taken

pub returns-in-Some-clause-site : goal.returns-in-Some-clause-site
returns-in-Some-clause-site g c =
    takes_same (g.R.Renderer.page c.args.saved.now.hub.0) c.keep_reserve.new.self.journal c.args.saved.now.hub.1
    c.keep_reserve.new.self.hub.1 c.in_ok-grown.ensures.taken
