use Rattle.doc_server_reload.proofs.MadeLaw.{led_is_made}
use Rattle.doc_server_reload.proofs.laws.the_edits_are_made.Goals as goal

pub returns : goal.returns
returns c = led_is_made
