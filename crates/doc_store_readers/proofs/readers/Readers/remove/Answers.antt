use Rattle.doc_store_readers.proofs.ReaderSteps.{both_removed}
use Rattle.doc_store_readers.proofs.readers.Readers.remove.Goals as goal

pub returns-clause-readers : goal.returns-clause-readers
returns-clause-readers c =
    both_removed c.args.self.now c.remove_token.new.self c.remove_digest.new.self c.args.token.now c.digest_of.result
    c.remove_token.ensures c.digest_of.ensures c.remove_digest.ensures
