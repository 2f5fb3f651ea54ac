use Rattle.doc_inlines_addresses.proofs.HostLaws.{in_second}
use Rattle.doc_inlines_addresses.proofs.hosts.has_low_line.Goals as goal

pub returns : goal.returns
returns c = in_second _ _ _ _ _ (c.last_part-found.ensures 1) c.if-found.false (c.last_part-found_before.ensures 0)
