use Rattle.doc_server_reload.proofs.KeptSites.{what_is_made_gives_the_site}
use Rattle.doc_server_reload.proofs.laws.what_is_made_gives_the_site.Goals as goal

pub returns : goal.returns
returns c = what_is_made_gives_the_site
