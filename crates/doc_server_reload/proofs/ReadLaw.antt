-- What the lines of records are read as is as calls take it.
use Rattle.std.proofs.Common.{◌≡◌, ◌≤◌, ◌+◌, ℕ, List, [], ◌∷◌, ◌++◌, Bool, true, false, not, length, bytes_eq, codes, refl, subst, arith}
use Rattle.std.specs.Prelude.{⊤, nat_lt, Option, Some, None, IfSome, option_and_then, Result, Ok, Err, if◌then◌else◌}
use Rattle.std.specs.List.{list_all}
use Rattle.std.specs.Result.{result_ok}
use Rattle.std.specs.Str.{is_utf8}
use Rattle.std.proofs.lemmas.Bool.Decides.{nat_tests}
use Rattle.doc_page_parts.specs.Paths.{is_path}
use Rattle.doc_page_parts.specs.declared.path.PathError.TheVariants.{BadPath}
use Rattle.doc_store_readers.specs.Groups.{IsGroups, different_names, group_limit, groups_of, groups_of_names, is_group, names_in_text}
use Rattle.doc_store_readers.specs.declared.groups.GroupsError.TheVariants.{BadGroup, TooMany}
use Rattle.doc_store_readers.proofs.SortedSteps.{collected, no_groups}
use Rattle.doc_store.specs.declared.site_edit.SiteEdit.{SiteEdit}
use Rattle.doc_hub_events.specs.declared.event.ConnId.{ConnId}
use Rattle.doc_hub_events.specs.declared.event.ConnectionEvent.{ConnectionEvent}
use Rattle.doc_hub_events.specs.declared.event.ConnectionEvent.TheVariants as calls
use Rattle.doc_hub_events.specs.declared.event.Event.{Event}
use Rattle.doc_hub_events.specs.declared.event.Event.TheVariants as events
use Rattle.doc_server_streams.specs.declared.fault.Fault.{Fault}
use Rattle.doc_server_streams.specs.declared.fault.Fault.TheVariants as faults
use Rattle.doc_server_script.specs.declared.command.Command.{Command}
use Rattle.doc_server_script.specs.declared.command.Command.TheVariants as commands
use Rattle.doc_server_script.specs.Escapes.{unescaped}
use Rattle.doc_server_script.specs.Fields.{as_path, as_text, connection_of, cut, groups_in, owner_in, path_in, text_of}
use Rattle.doc_server_script.specs.Laws.{IsPathText, IsText}
use Rattle.doc_server_script.specs.Lines.{call_with, command_of, event_by, event_in, event_named, event_of, event_of_fields, move_with}
use Rattle.doc_server_script.specs.Lines.{push_with, put_of, put_with, reader_of, reader_with, remove_with}
use Rattle.doc_server_script.specs.Scripts.{events_from, events_of, lines}
use Rattle.doc_server_restore.specs.Laws.{AreEdits, IsEdit}
use Rattle.doc_server_restore.specs.Restores.{all_in_front, edit_in, edits_in, edits_of, edits_of_all, in_front}
use Rattle.doc_server_reload.specs.RestoredLaws.{ReadEditsAreEdits}
use Rattle.doc_server_reload.proofs.Utf8Bytes.{text_of_utf8}

-- ---- fields

utf8_text : (bytes : List ℕ) (b : Bool) → is_utf8 bytes ≡ b → IfSome (if b then Some bytes else None) IsText
utf8_text bytes true is = text_of_utf8 bytes is
utf8_text bytes false is = tt

text_read : (field : List ℕ) → IfSome (text_of field) IsText
text_read field = by (unescaped field)
  where
    by : (found : Option (List ℕ)) → IfSome (option_and_then as_text found) IsText
    by None = tt
    by (Some bytes) = utf8_text bytes (is_utf8 bytes) refl

good_path : (text : List ℕ) (b : Bool) → is_path text ≡ b → IsText text
    → IfSome (result_ok (if b then Ok text else Err BadPath)) IsPathText
good_path text true good is = record { good = good; text = is }
good_path text false good is = tt

path_read : (field : List ℕ) → IfSome (path_in field) IsPathText
path_read field = by (text_of field) (text_read field)
  where
    by : (found : Option (List ℕ)) → IfSome found IsText → IfSome (option_and_then as_path found) IsPathText
    by None is = tt
    by (Some text) is = good_path text (is_path text) refl is

at_most : (a b : ℕ) → nat_lt b a ≡ false → a ≤ b
at_most a b e = grind (arith, nat_tests)

names_are_groups : (names : List (List ℕ)) → IfSome (result_ok (groups_of_names names)) IsGroups
unfolding groups_of_names
names_are_groups names = by (list_all is_group names) (nat_lt group_limit (length (different_names names))) refl refl
  where
    by : (good many : Bool) → list_all is_group names ≡ good → nat_lt group_limit (length (different_names names)) ≡ many
        → IfSome (result_ok (if not good then Err BadGroup else (if many then Err TooMany else Ok (different_names names)))) IsGroups
    by true true are few = tt
    by true false are few =
        collected names (different_names names) are refl (at_most (length (different_names names)) group_limit few)
    by false many are few = tt

groups_read : (field : List ℕ) → IfSome (groups_in field) IsGroups
groups_read field = by (bytes_eq field (codes "-"))
  where
    by : (dash : Bool) → IfSome (if dash then Some [] else result_ok (groups_of field)) IsGroups
    by true = no_groups
    by false = names_are_groups (names_in_text field)

-- ---- a line

-- an event that is as calls take it, where it is an edit
abbrev IsAsCalls : Event → Type 0
IsAsCalls (events.Site edit) = IsEdit edit
IsAsCalls event = ⊤

abbrev ReadSo : Option Event → Type 0
ReadSo found = IfSome found IsAsCalls

call_so : (call : ConnectionEvent) (id : Option ConnId) → ReadSo (call_with call id)
call_so call None = tt
call_so call (Some id) = tt

push_so : (id : Option ConnId) (bytes : Option (List ℕ)) → ReadSo (push_with id bytes)
push_so None bytes = tt
push_so (Some id) None = tt
push_so (Some id) (Some bytes) = tt

put_so : (path : Option (List ℕ)) (groups : Option (List (List ℕ))) (text : Option (List ℕ)) → IfSome path IsPathText
    → IfSome groups IsGroups → IfSome text IsText → ReadSo (put_with path groups text)
put_so None groups text good are is = tt
put_so (Some path) None text good are is = tt
put_so (Some path) (Some groups) None good are is = tt
put_so (Some path) (Some groups) (Some text) good are is = (good, are, is)

remove_so : (path : Option (List ℕ)) → IfSome path IsPathText → ReadSo (remove_with path)
remove_so None good = tt
remove_so (Some path) good = good

move_so : (from to : Option (List ℕ)) → IfSome from IsPathText → IfSome to IsPathText → ReadSo (move_with from to)
move_so None to old new = tt
move_so (Some from) None old new = tt
move_so (Some from) (Some to) old new = (old, new)

reader_so : (token : List ℕ) (owner : Option Bool) (groups : Option (List (List ℕ))) → ReadSo (reader_with token owner groups)
reader_so token None groups = tt
reader_so token (Some owner) None = tt
reader_so token (Some owner) (Some groups) = tt

put_fields : (path : List ℕ) (fields : Option (List ℕ × List ℕ)) → ReadSo (put_of path fields)
put_fields path None = tt
put_fields path (Some fields) =
    put_so (path_in path) (groups_in fields.0) (text_of fields.1) (path_read path) (groups_read fields.0) (text_read fields.1)

reader_fields : (token : List ℕ) (fields : Option (List ℕ × List ℕ)) → ReadSo (reader_of token fields)
reader_fields token None = tt
reader_fields token (Some fields) = reader_so token (owner_in fields.0) (groups_in fields.1)

fields_so : (command : Command) (fields : List ℕ × List ℕ) → ReadSo (event_of_fields command fields)
fields_so commands.Push fields = push_so (connection_of fields.0) (unescaped fields.1)
fields_so commands.Step fields = tt
fields_so commands.Disconnect fields = tt
fields_so commands.Put fields = put_fields fields.0 (cut fields.1)
fields_so commands.Remove fields = tt
fields_so commands.Move fields = move_so (path_in fields.0) (path_in fields.1) (path_read fields.0) (path_read fields.1)
fields_so commands.Reader fields = reader_fields fields.0 (cut fields.1)
fields_so commands.Unreader fields = tt

cut_so : (command : Command) (found : Option (List ℕ × List ℕ)) → ReadSo (option_and_then (event_of_fields command) found)
cut_so command None = tt
cut_so command (Some fields) = fields_so command fields

command_so : (command : Command) (rest : List ℕ) → ReadSo (event_by command rest)
command_so commands.Push rest = cut_so commands.Push (cut rest)
command_so commands.Step rest = call_so calls.Step (connection_of rest)
command_so commands.Disconnect rest = call_so calls.Disconnect (connection_of rest)
command_so commands.Put rest = cut_so commands.Put (cut rest)
command_so commands.Remove rest = remove_so (path_in rest) (path_read rest)
command_so commands.Move rest = cut_so commands.Move (cut rest)
command_so commands.Reader rest = cut_so commands.Reader (cut rest)
command_so commands.Unreader rest = tt

named_so : (command : Option Command) (rest : List ℕ) → ReadSo (event_named command rest)
named_so None rest = tt
named_so (Some command) rest = command_so command rest

word_so : (connects : Bool) → ReadSo (if connects then Some events.Connect else None)
word_so true = tt
word_so false = tt

line_so : (line : List ℕ) (fields : Option (List ℕ × List ℕ)) → ReadSo (event_in line fields)
line_so line None = word_so (bytes_eq line (codes "connect"))
line_so line (Some fields) = named_so (command_of fields.0) fields.1

line_read : (line : List ℕ) → ReadSo (event_of line)
unfolding event_of
line_read line = line_so line (cut line)

-- ---- the lines of a record

abbrev AreAsCalls : List Event → Type 0
AreAsCalls [] = ⊤
AreAsCalls (event ∷ events) = IsAsCalls event × AreAsCalls events

and_last : (events : List Event) (event : Event) → AreAsCalls events → IsAsCalls event → AreAsCalls (events ++ event ∷ [])
and_last [] event are is = (is, tt)
and_last (first ∷ events) event are is = (are.0, and_last events event are.1 is)

lines_so : (lines : List (List ℕ)) (found : List Event) (n : ℕ) → AreAsCalls found
    → IfSome (result_ok (events_from found n lines)) AreAsCalls
lines_so [] found n are = are
lines_so (line ∷ more) found n are =
    by (event_of line) (line_read line) (λ event is. lines_so more (found ++ event ∷ []) (n + 1) (and_last found event are is))
  where
    by : (event : Option Event) → ReadSo event
        → ((event : Event) → IsAsCalls event → IfSome (result_ok (events_from (found ++ event ∷ []) (n + 1) more)) AreAsCalls)
        → IfSome (result_ok (elim event as (λ _. Result (List Event) Fault) [
          | None ↦ Err (faults.BadScriptLine n)
          | Some event ↦ events_from (found ++ event ∷ []) (n + 1) more
        ])) AreAsCalls
    by None is each = tt
    by (Some event) is each = each event is

event_edit : (event : Event) → IsAsCalls event → IfSome (edit_in event) IsEdit
event_edit events.Connect is = tt
event_edit (events.On id call) is = tt
event_edit (events.Site edit) is = is
event_edit (events.Reader edit) is = tt
event_edit (events.TakePuts takes) is = tt
event_edit (events.SetMedia media) is = tt

front_so : (edit : Option SiteEdit) (edits : Option (List SiteEdit)) → IfSome edit IsEdit → IfSome edits AreEdits
    → IfSome (in_front edit edits) AreEdits
front_so None edits is are = tt
front_so (Some edit) None is are = tt
front_so (Some edit) (Some edits) is are = (is, are)

events_so : (events : List Event) → AreAsCalls events → IfSome (edits_in events) AreEdits
events_so [] are = tt
events_so (event ∷ events) are = front_so (edit_in event) (edits_in events) (event_edit event are.0) (events_so events are.1)

some_events : (found : Option (List Event)) → IfSome found AreAsCalls → IfSome (option_and_then edits_in found) AreEdits
some_events None are = tt
some_events (Some events) are = events_so events are

pub record_read : (text : List ℕ) → IfSome (edits_of text) AreEdits
record_read text = by (is_utf8 text)
  where
    by : (utf8 : Bool) → IfSome (if utf8 then option_and_then edits_in (result_ok (events_of text)) else None) AreEdits
    by true = some_events (result_ok (events_of text)) (lines_so (lines text) [] 1 tt)
    by false = tt

-- ---- all records

joined : (edits more : List SiteEdit) → AreEdits edits → AreEdits more → AreEdits (edits ++ more)
joined [] more are rest = rest
joined (edit ∷ edits) more are rest = (are.0, joined edits more are.1 rest)

all_front : (edits more : Option (List SiteEdit)) → IfSome edits AreEdits → IfSome more AreEdits → IfSome (all_in_front edits more) AreEdits
all_front None more are rest = tt
all_front (Some edits) None are rest = tt
all_front (Some edits) (Some more) are rest = joined edits more are rest

all_read : (texts : List (List ℕ)) → IfSome (edits_of_all texts) AreEdits
all_read [] = tt
all_read (text ∷ texts) = all_front (edits_of text) (edits_of_all texts) (record_read text) (all_read texts)

pub read_edits_are_edits : ReadEditsAreEdits
read_edits_are_edits texts edits said = subst (λ (found : Option (List SiteEdit)). IfSome found AreEdits) said (all_read texts)
