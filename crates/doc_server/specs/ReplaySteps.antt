-- Words in which the parts of the command `replay` are stated.
use Rattle.std.specs.Prelude.{◌≡◌, ◌⊎◌, ℕ, List, Option, Err}
use Rattle.std.specs.Io.KnownBytes.{Keeps}
use Rattle.doc_hub.specs.Replies.{Renders}
use Rattle.doc_hub.specs.Worlds.{World}
use Rattle.doc_server_streams.specs.Streams.{AppendsPrefix}
use Rattle.doc_server_streams.specs.declared.fault.Fault.{Fault}
use Rattle.doc_server_streams.specs.declared.fault.Fault.TheVariants as faults
use Rattle.doc_server.specs.Replays.{RunTells}
use Rattle.doc_server_script.specs.Scripts.{events_of}

-- A script on this world has a bad line, or the outcomes' lines were cut off, or memory ran out.
abbrev pub StopsScript : Renders → World → List ℕ → Option (List ℕ) → Option (List ℕ) → Fault → Type 0
StopsScript render w script old new (faults.BadScriptLine line) =
    (events_of script ≡ Err (faults.BadScriptLine line)) × Keeps old new
StopsScript render w script old new faults.CannotWrite = RunTells render w script (AppendsPrefix old new)
StopsScript render w script old new faults.Memory = Keeps old new ⊎ RunTells render w script (AppendsPrefix old new)
StopsScript render w script old new fault = ⊥
