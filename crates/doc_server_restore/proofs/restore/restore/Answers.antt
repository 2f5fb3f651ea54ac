use Rattle.doc_server_restore.proofs.Effects.{effect_of_answer}
use Rattle.doc_server_restore.proofs.restore.restore.Goals as goal

pub returns-clause-effect : goal.returns-clause-effect
returns-clause-effect g c =
    effect_of_answer (g.E.Edits.media c.args.site.now) c.restore_all.result c.args.records.now (g.E.Edits.store c.args.site.now) (g.E.Edits.store c.restore_all.new.site)
    c.restore_all.ensures.restored
