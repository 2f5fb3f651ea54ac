use Rattle.doc_inlines_addresses.proofs.HostLaws.{space_is_no_host}
use Rattle.doc_inlines_addresses.proofs.hosts.goes_on.Goals as goal

pub returns-in_default : goal.returns-in_default
returns-in_default c = space_is_no_host _ c.in_default.ensures.characters
