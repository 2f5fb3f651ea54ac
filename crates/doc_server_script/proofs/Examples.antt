-- Lines, worked.
use Rattle.std.specs.Prelude.{◌≡◌, [], ◌∷◌, true, codes, Some, None, refl}
use Rattle.std.specs.Fmt.{digits}
use Rattle.std.specs.Str.{chars, is_utf8}
use Rattle.std.proofs.Math.Utf8.{encode}
use Rattle.doc_page_parts.specs.Paths.{is_path}
use Rattle.doc_store_readers.specs.Groups.{groups_of_names}
use Rattle.doc_store.specs.declared.site_edit.SiteEdit.TheVariants as site_edits
use Rattle.doc_hub_events.specs.Events.{push_on, step_on}
use Rattle.doc_hub_events.specs.declared.event.Event.TheVariants as events
use Rattle.doc_hub_events.specs.declared.event.ReaderEdit.TheVariants as reader_edits
use Rattle.doc_hub_events.specs.declared.event.Step.TheVariants as steps
use Rattle.doc_hub_events.specs.declared.outcome.Outcome.TheVariants as outcomes
use Rattle.doc_hub_events.specs.declared.refusal.Refusal.TheVariants as refusals
use Rattle.doc_server_script.specs.Edits.{put_line, move_line}
use Rattle.doc_server_script.specs.Escapes.{escaped, spaceless, unescaped}
use Rattle.doc_server_script.specs.Lines.{event_of}
use Rattle.doc_server_script.specs.Outcomes.{outcome_line}

connects : event_of (codes "connect") ≡ Some events.Connect
unfolding event_of
connects = refl

-- a word takes no space behind it, and a carriage return belongs to its line
connect_is_alone : event_of (codes "connect ") ≡ None
unfolding event_of
connect_is_alone = refl

return_is_kept : event_of (codes "connect\r") ≡ None
unfolding event_of
return_is_kept = refl

blank_line : event_of [] ≡ None
unfolding event_of
blank_line = refl

-- bytes with each escape, digits of either case
pushes : event_of (codes "push 01 a b\\r\\n\\\\\\x00\\xfF") ≡ Some (push_on (record { 0 = 1 }) (97 ∷ 32 ∷ 98 ∷ 13 ∷ 10 ∷ 92 ∷ 0 ∷ 255 ∷ []))
unfolding event_of unescaped
pushes = refl

pushes_nothing : event_of (codes "push 1 ") ≡ Some (push_on (record { 0 = 1 }) [])
unfolding event_of unescaped
pushes_nothing = refl

no_last_space : event_of (codes "push 1") ≡ None
unfolding event_of
no_last_space = refl

no_such_escape : event_of (codes "push 1 \\t") ≡ None
unfolding event_of unescaped
no_such_escape = refl

lone_backslash : event_of (codes "push 1 a\\") ≡ None
unfolding event_of unescaped
lone_backslash = refl

short_number : event_of (codes "push 1 \\xf") ≡ None
unfolding event_of unescaped
short_number = refl

-- the last number, and one too many
last_connection : event_of (codes "step 18446744073709551615") ≡ Some (step_on (record { 0 = 18446744073709551615 }))
unfolding event_of
last_connection = refl

one_too_many : event_of (codes "step 18446744073709551616") ≡ None
unfolding event_of
one_too_many = refl

signs_are_no_digits : event_of (codes "disconnect +1") ≡ None
unfolding event_of
signs_are_no_digits = refl

-- a text may hold spaces; `-` names no groups
puts_a_page : event_of (codes "put a.md - x  y") ≡ Some (events.Site (site_edits.Put (codes "a.md") [] (codes "x  y")))
unfolding event_of unescaped is_path chars is_utf8 encode
puts_a_page = refl

puts_for_groups : event_of (codes "put a\\x20b.md ops,staff,ops ") ≡ Some (events.Site (site_edits.Put (codes "a b.md") (codes "ops" ∷ codes "staff" ∷ []) []))
unfolding event_of unescaped is_path chars is_utf8 encode groups_of_names
puts_for_groups = refl

no_text : event_of (codes "put a.md -") ≡ None
unfolding event_of
no_text = refl

no_utf8 : event_of (codes "put a.md - \\xff") ≡ None
unfolding event_of unescaped is_path chars is_utf8 encode
no_utf8 = refl

no_group : event_of (codes "put a.md A x") ≡ None
unfolding event_of unescaped is_path chars is_utf8 encode groups_of_names
no_group = refl

-- the last path may hold spaces
removes : event_of (codes "remove a b.md") ≡ Some (events.Site (site_edits.Remove (codes "a b.md")))
unfolding event_of unescaped is_path chars is_utf8 encode
removes = refl

no_path : event_of (codes "remove ../a.md") ≡ None
unfolding event_of unescaped is_path chars is_utf8 encode
no_path = refl

moves : event_of (codes "move a.md b c.md") ≡ Some (events.Site (site_edits.Move (codes "a.md") (codes "b c.md")))
unfolding event_of unescaped is_path chars is_utf8 encode
moves = refl

-- a token is asked nothing
sets_an_owner : event_of (codes "reader \\t owner -") ≡ Some (events.Reader (reader_edits.Set (codes "\\t") (record { owner = true; groups = [] })))
unfolding event_of
sets_an_owner = refl

no_such_reader : event_of (codes "reader t other -") ≡ None
unfolding event_of
no_such_reader = refl

removes_a_reader : event_of (codes "unreader a b") ≡ Some (events.Reader (reader_edits.Remove (codes "a b")))
unfolding event_of
removes_a_reader = refl

no_such_command : event_of (codes "stop 1") ≡ None
unfolding event_of
no_such_command = refl

-- ---- outcomes

gives_a_number : outcome_line (outcomes.Conn (record { 0 = 10 })) ≡ codes "conn 10"
unfolding digits
gives_a_number = refl

sends : outcome_line (outcomes.Stepped (steps.Sent (97 ∷ 32 ∷ 13 ∷ 10 ∷ 92 ∷ 9 ∷ 127 ∷ 195 ∷ []))) ≡ codes "sent a \\r\\n\\\\\\x09\\x7f\\xc3"
unfolding escaped
sends = refl

refuses : outcome_line (outcomes.Refused refusals.NoConnection) ≡ codes "refused NoConnection"
refuses = refl

-- ---- edits

dash_is_written_twice : put_line (codes "a b.md") (codes "-" ∷ []) (codes "x y\n") ≡ codes "put a\\x20b.md -,- x y\\n"
unfolding escaped spaceless
dash_is_written_twice = refl

two_groups : put_line (codes "a.md") (codes "ops" ∷ codes "staff" ∷ []) [] ≡ codes "put a.md ops,staff "
unfolding escaped spaceless
two_groups = refl

moved_line : move_line (codes "a.md") (codes "b.md") ≡ codes "move a.md b.md"
unfolding spaceless
moved_line = refl
