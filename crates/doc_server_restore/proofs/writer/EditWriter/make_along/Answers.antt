use Rattle.doc_server_restore.proofs.WriterLaws.{made_first, none_made, still_writer, then_wrote}
use Rattle.doc_server_restore.proofs.writer.EditWriter.make_along.Goals as goal

pub returns-in-empty : goal.returns-in-empty
returns-in-empty g c =
    none_made g.D.Device.seen g.D.Device.may_leave g.D.Device.failed g.D.Device.stale c.args.self.now c.args.page.now.page c.args.names.now
    c.in-empty.len_below

pub move_along-requires : goal.move_along-requires
move_along-requires g c =
    still_writer g.D.Device.seen g.D.Device.may_leave g.D.Device.failed g.D.Device.stale c.args.self.now c.put.new.self _ c.requires
    c.in_ok-put-in-len1-up.ensures

pub returns-in_ok-put-in-len1-up : goal.returns-in_ok-put-in-len1-up
returns-in_ok-put-in-len1-up g c =
    then_wrote g.D.Device.seen g.D.Device.may_leave g.D.Device.failed g.D.Device.stale c.move_along.result c.args.self.now c.put.new.self
    c.move_along.new.self _ _ _ c.in_ok-put-in-len1-up.ensures c.move_along.ensures
    (made_first c.args.page.now.page c.args.names.now c.first-item.result c.in-len1-up.len_at_least c.first-item.is)
