use Rattle.docs_server.proofs.ConfiguredSteps.{as_configured}
use Rattle.docs_server.proofs.made_pages.MadePages.end.Goals as goal

pub returns-clause-configured : goal.returns-clause-configured
returns-clause-configured c =
    as_configured c.args.self.pages.config c.args.self.pages.texts c.args.self.moves c.args.self.store c.args.self.made
