use Rattle.std.proofs.Common.{chars}
use Rattle.doc_inlines_addresses.specs.EndSteps.{is_inside}
use Rattle.doc_inlines_addresses.proofs.EndLaws.{run_is, address_is}
use Rattle.doc_inlines_addresses.proofs.ends.address_of.Goals as goal

pub returns-clause-value : goal.returns-clause-value
returns-clause-value c =
    address_is _ (chars c.front.result.now) _
    (run_is _ _ _ (c.many-rest.ensures.value is_inside (λ b t h. h)) c.front.ensures.joins) c.without_end.ensures.value
