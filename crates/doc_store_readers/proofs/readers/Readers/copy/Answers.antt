use Rattle.std.proofs.Common.{◌∙◌}
use Rattle.doc_store_readers.specs.Readers.{no_readers}
use Rattle.doc_store_readers.proofs.readers.Readers.copy.Goals as goal

pub returns : goal.returns
returns c =
    (λ i. record no_readers { by_token = c.in_ok-copy_named.ensures i; by_digest = c.in_ok-copy_of_digests.ensures i }) ∙ c.self.view_is
