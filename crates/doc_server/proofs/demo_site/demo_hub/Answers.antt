use Rattle.doc_server.proofs.Puts.{made_hub, stopped_hub}
use Rattle.doc_server.proofs.demo_site.demo_hub.Goals as goal

pub returns-clause-world : goal.returns-clause-world
returns-clause-world g c = made_hub c.in_ok-config.config c.in_ok-config.ensures.made c.site_hub.result c.site_hub.ensures.world

pub returns-clause-fault : goal.returns-clause-fault
returns-clause-fault g c = stopped_hub c.in_ok-config.config c.in_ok-config.ensures.made c.site_hub.result c.site_hub.ensures.fault
