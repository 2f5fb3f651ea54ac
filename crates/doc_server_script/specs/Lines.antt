-- The lines of a script, one event each. All of this is this project's choice.
use Rattle.std.specs.Prelude.{ℕ, List, Bool, bytes_eq, codes, Option, Some, None, option_and_then, if◌then◌else◌}
use Rattle.doc_store.specs.declared.site_edit.SiteEdit.TheVariants as site_edits
use Rattle.doc_hub_events.specs.Events.{push_on}
use Rattle.doc_hub_events.specs.declared.event.ConnId.{ConnId}
use Rattle.doc_hub_events.specs.declared.event.ConnectionEvent.{ConnectionEvent}
use Rattle.doc_hub_events.specs.declared.event.ConnectionEvent.TheVariants as calls
use Rattle.doc_hub_events.specs.declared.event.Event.{Event}
use Rattle.doc_hub_events.specs.declared.event.Event.TheVariants as events
use Rattle.doc_hub_events.specs.declared.event.ReaderEdit.TheVariants as reader_edits
use Rattle.doc_server_script.specs.declared.command.Command.{Command}
use Rattle.doc_server_script.specs.declared.command.Command.TheVariants as commands
use Rattle.doc_server_script.specs.Escapes.{unescaped}
use Rattle.doc_server_script.specs.Fields.{cut, connection_of, text_of, path_in, groups_in, owner_in}

-- the command that a word names
abbrev pub command_of : List ℕ → Option Command
command_of word =
    if bytes_eq word (codes "push") then Some commands.Push
    else (if bytes_eq word (codes "step") then Some commands.Step
    else (if bytes_eq word (codes "disconnect") then Some commands.Disconnect
    else (if bytes_eq word (codes "put") then Some commands.Put
    else (if bytes_eq word (codes "remove") then Some commands.Remove
    else (if bytes_eq word (codes "move") then Some commands.Move
    else (if bytes_eq word (codes "reader") then Some commands.Reader
    else (if bytes_eq word (codes "unreader") then Some commands.Unreader else None)))))))

-- ---- events of these parts, where all are good

abbrev pub call_with : ConnectionEvent → Option ConnId → Option Event
call_with call None = None
call_with call (Some id) = Some (events.On id call)

abbrev pub push_with : Option ConnId → Option (List ℕ) → Option Event
push_with None bytes = None
push_with (Some id) None = None
push_with (Some id) (Some bytes) = Some (push_on id bytes)

abbrev pub put_with : Option (List ℕ) → Option (List (List ℕ)) → Option (List ℕ) → Option Event
put_with None groups text = None
put_with (Some path) None text = None
put_with (Some path) (Some groups) None = None
put_with (Some path) (Some groups) (Some text) = Some (events.Site (site_edits.Put path groups text))

abbrev pub remove_with : Option (List ℕ) → Option Event
remove_with None = None
remove_with (Some path) = Some (events.Site (site_edits.Remove path))

abbrev pub move_with : Option (List ℕ) → Option (List ℕ) → Option Event
move_with None to = None
move_with (Some from) None = None
move_with (Some from) (Some to) = Some (events.Site (site_edits.Move from to))

abbrev pub reader_with : List ℕ → Option Bool → Option (List (List ℕ)) → Option Event
reader_with token None groups = None
reader_with token (Some owner) None = None
reader_with token (Some owner) (Some groups) = Some (events.Reader (reader_edits.Set token (record { owner = owner; groups = groups })))

-- ---- events of these fields, the last of which may hold spaces

abbrev pub put_of : List ℕ → Option (List ℕ × List ℕ) → Option Event
put_of path None = None
put_of path (Some fields) = put_with (path_in path) (groups_in fields.0) (text_of fields.1)

abbrev pub reader_of : List ℕ → Option (List ℕ × List ℕ) → Option Event
reader_of token None = None
reader_of token (Some fields) = reader_with token (owner_in fields.0) (groups_in fields.1)

-- the event of a command with two fields or more
abbrev pub event_of_fields : Command → List ℕ × List ℕ → Option Event
event_of_fields commands.Push fields = push_with (connection_of fields.0) (unescaped fields.1)
event_of_fields commands.Put fields = put_of fields.0 (cut fields.1)
event_of_fields commands.Move fields = move_with (path_in fields.0) (path_in fields.1)
event_of_fields commands.Reader fields = reader_of fields.0 (cut fields.1)
event_of_fields command fields = None

-- the event of a command and what follows its space. A token stands as it is, and may be none.
abbrev pub event_by : Command → List ℕ → Option Event
event_by commands.Step rest = call_with calls.Step (connection_of rest)
event_by commands.Disconnect rest = call_with calls.Disconnect (connection_of rest)
event_by commands.Remove rest = remove_with (path_in rest)
event_by commands.Unreader rest = Some (events.Reader (reader_edits.Remove rest))
event_by command rest = option_and_then (event_of_fields command) (cut rest)

-- the same where the word may name none
abbrev pub event_named : Option Command → List ℕ → Option Event
event_named None rest = None
event_named (Some command) rest = event_by command rest

-- the event of a line that is cut at its first space; a line without a space has one word
abbrev pub event_in : List ℕ → Option (List ℕ × List ℕ) → Option Event
event_in line None = if bytes_eq line (codes "connect") then Some events.Connect else None
event_in line (Some fields) = event_named (command_of fields.0) fields.1

-- the event of a line, without its line feed
unfoldable pub event_of : List ℕ → Option Event
event_of line = event_in line (cut line)
