use Rattle.std.proofs.Common.{length, string_bytes, ap}
use Rattle.doc_index_tables.proofs.PackedSteps.{pushed}
use Rattle.doc_index_tables.proofs.TableSteps.{on_ok}
use Rattle.doc_index_tables.proofs.packed.push.Goals as goal

pub returns-clause-packed : goal.returns-clause-packed
returns-clause-packed c =
    on_ok c.push.result (λ added.
    (pushed (string_bytes c.args.texts.now) c.args.text.now (string_bytes c.push_str.new.self) c.args.ends.now c.push.new.self
    (length c.as_str.result.now) c.args.number c.utf8.text c.in_ok-push_str.ensures.bytes
    (ap length c.as_str.ensures.value) added c.requires).0) c.push.ensures.ok

pub returns-clause-added : goal.returns-clause-added
returns-clause-added c =
    on_ok c.push.result (λ added.
    (pushed (string_bytes c.args.texts.now) c.args.text.now (string_bytes c.push_str.new.self) c.args.ends.now c.push.new.self
    (length c.as_str.result.now) c.args.number c.utf8.text c.in_ok-push_str.ensures.bytes
    (ap length c.as_str.ensures.value) added c.requires).1) c.push.ensures.ok
