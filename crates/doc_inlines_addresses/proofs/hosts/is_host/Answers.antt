use Rattle.doc_inlines_addresses.proofs.HostLaws.{no_host, some_host}
use Rattle.doc_inlines_addresses.proofs.hosts.is_host.Goals as goal

pub returns-in_default : goal.returns-in_default
returns-in_default c = no_host _ c.in_default.ensures

pub returns : goal.returns
returns c = some_host _ _ _ _ c.in-Some.ensures c.has_low_line.ensures
