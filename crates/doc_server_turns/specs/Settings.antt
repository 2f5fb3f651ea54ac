-- What a configuration sets besides its pages. All of this is this project's choice.
use Rattle.std.specs.Prelude.{◌≡◌, ⊤, false}
use Rattle.doc_hub.specs.Worlds.{World, are_apart, with_media}
use Rattle.doc_hub_events.specs.declared.event.Event.{Event}
use Rattle.doc_hub_events.specs.declared.event.Event.TheVariants as events
use Rattle.doc_hub_events.specs.declared.event.ReaderEdit.TheVariants as reader_edits
use Rattle.doc_media.specs.Media.{Media}
use Rattle.doc_server_network.specs.Readers.{ReaderTable}
use Rattle.doc_server_network.specs.declared.reload_fault.Refusal.{Refusal}
use Rattle.doc_server_network.specs.declared.reload_fault.Refusal.TheVariants as refusals

-- these readers are set, or these media
abbrev pub IsSetting : ReaderTable → Media → Event → Type 0
IsSetting readers media (events.Reader (reader_edits.All set)) = set ≡ readers
IsSetting readers media (events.SetMedia set) = set ≡ media
IsSetting readers media event = ⊥

-- the world beside these media, with these readers
abbrev pub with_both : World → ReaderTable → Media → World
with_both w readers media = record (with_media w media) { readers = readers }

-- why media weren't set
abbrev pub IsUnset : World → Media → Refusal → Type 0
IsUnset w media refusals.Taken = are_apart w.site media ≡ false
IsUnset w media refusals.Memory = ⊤
IsUnset w media refusal = ⊥
