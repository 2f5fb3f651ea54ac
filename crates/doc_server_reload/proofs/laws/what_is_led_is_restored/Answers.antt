use Rattle.doc_server_reload.proofs.RestoredLaw.{what_is_led_is_restored}
use Rattle.doc_server_reload.proofs.laws.what_is_led_is_restored.Goals as goal

pub returns : goal.returns
returns c = what_is_led_is_restored
