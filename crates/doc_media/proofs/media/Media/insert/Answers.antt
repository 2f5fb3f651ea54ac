use Rattle.doc_media.proofs.HeldSteps.{one_more, one_more_named}
use Rattle.doc_media.proofs.media.Media.insert.Goals as goal

pub invariant_of-self-2 : goal.invariant_of-self-2
invariant_of-self-2 c =
    one_more_named c.self.inside.held c.insert.new.self c.args.self.now c.args.path.now c.in_ok-copy-2.field-0 c.args.groups.now
    c.in_ok-copy.field-0 c.args.kind c.args.bytes c.in_ok-copy-2.ensures c.in_ok-insert.ensures.ok c.self.invariant c.requires

pub returns-clause-ok : goal.returns-clause-ok
returns-clause-ok c =
    one_more c.self.inside.held c.insert.new.self c.args.self.now c.args.path.now c.in_ok-copy-2.field-0 c.args.groups.now
    c.in_ok-copy.field-0 c.args.kind c.args.bytes c.in_ok-copy-2.ensures c.in_ok-insert.ensures.ok c.self.view_is c.in_ok-copy.ensures
