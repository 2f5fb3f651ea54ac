-- What media are set to, and why they aren't.
use Rattle.std.proofs.Common.{◌≡◌, [], refl}
use Rattle.std.specs.Prelude.{Result, Ok, Err}
use Rattle.doc_hub.specs.Replies.{Renders}
use Rattle.doc_hub_events.specs.Events.{setting_media}
use Rattle.doc_hub_events.specs.declared.event.Event.TheVariants as events
use Rattle.doc_hub_events.specs.declared.refusal.MediaSetError.{MediaSetError}
use Rattle.doc_hub_events.specs.declared.refusal.MediaSetError.TheVariants as media_errors
use Rattle.doc_hub.specs.Runs.{Happens, sent_by}
use Rattle.doc_hub.specs.Worlds.{World}
use Rattle.doc_media.specs.Media.{Media}
use Rattle.doc_server_network.proofs.QuietEvents.{taken_media}
use Rattle.doc_server_network.specs.Reloads.{of_media}
use Rattle.doc_server_turns.specs.Settings.{IsUnset}

-- media are set to nobody's connection
pub none_sent : (said : Result (Unit {0}) MediaSetError) → sent_by (setting_media said) ≡ []
none_sent (Ok fine) = refl
none_sent (Err e) = refl

pub unset_by : (render : Renders) (w v : World) (media : Media) (e : MediaSetError) → Happens render w (events.SetMedia media) v (Err e)
    → IsUnset w media (of_media e)
unset_by render w v media media_errors.Taken happens = taken_media render w v media happens
unset_by render w v media media_errors.Memory happens = tt
