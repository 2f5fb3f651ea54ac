use Rattle.std.proofs.Common.{refl, [], ◌∷◌}
use Rattle.doc_server_restore.proofs.WriterLaws.{added, both_wrote}
use Rattle.doc_server_restore.proofs.writer.EditWriter.add.Goals as goal

pub returns : goal.returns
returns g c = λ edit is.
    both_wrote g.D.Device.seen g.D.Device.may_leave g.D.Device.failed g.D.Device.stale c.args.self.now c.make_room.new.self
    (record { journal = c.make_room.new.self.journal; text = c.push_str.new.self; seconds = c.make_room.new.self.seconds }) [] (edit ∷ [])
    c.in_ok-make_room.ensures.wrote
    (added g.D.Device.seen g.D.Device.may_leave g.D.Device.failed g.D.Device.stale c.make_room.new.self
    (record { journal = c.make_room.new.self.journal; text = c.push_str.new.self; seconds = c.make_room.new.self.seconds })
    c.args.line.now edit refl
    c.in_ok-push_str.ensures.bytes c.in_ok-make_room.ensures.room c.requires.plain is)
