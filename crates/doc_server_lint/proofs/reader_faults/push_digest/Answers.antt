use Rattle.std.proofs.Common.{ap}
use Rattle.std.specs.Prelude.{option_map}
use Rattle.doc_store_readers.specs.declared.keys.Key.TheVariants as keys
use Rattle.doc_server_lint.proofs.ReaderSteps.{on_ok, told_again}
use Rattle.doc_server_lint.proofs.reader_faults.push_digest.Goals as goal

pub returns-clause-faults : goal.returns-clause-faults
returns-clause-faults c =
    on_ok c.add_digest.result
    (told_again c.args.known.now c.args.number c.args.found.now.items c.push_told.new.found.items _ (keys.Digest c.in-Some.digest)
    c.with_digest.result c.again-what.result (ap (option_map keys.Digest) c.in-Some.ensures) c.with_digest.ensures c.again-what.ensures
    c.in_ok-push_told.ensures)
