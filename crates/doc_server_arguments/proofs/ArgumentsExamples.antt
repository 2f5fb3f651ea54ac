-- Lines of words, worked.
use Rattle.std.specs.Prelude.{◌≡◌, ℕ, List, [], ◌∷◌, ◌++◌, false, true, length, nat_le, codes, Some, None, Ok, Err, Option, replicate, refl}
use Rattle.std.specs.List.{list_all}
use Rattle.std.specs.Str.Lines.{lines}
use Rattle.std.specs.declared.net.socket_addr.SocketAddr.{SocketAddr}
use Rattle.std.specs.Net.Reader.{read_socket_v4, read_socket_v6, read_ipv4, read_ipv6, read_segments, read_octet, read_segment, read_number, read_port, read_scope_id}
use Rattle.percent_encoding.specs.AsciiSet.{should_percent_encode}
use Rattle.percent_encoding.specs.Percent.{percent_encode, percent_encode_byte}
use Rattle.doc_server_arguments.specs.declared.help.TheConstants.{HELP}
use Rattle.doc_server_arguments.specs.declared.log_form.LogForm.{LogForm}
use Rattle.doc_server_arguments.specs.declared.log_form.LogForm.TheVariants.{Plain, Json}
use Rattle.doc_server_arguments.specs.Addresses.{address_of, listen_address_of, v4_of, v6_of}
use Rattle.doc_server_arguments.specs.Commands.{Asked, command_in, Demo, Render, Examples, Check, Replay, Serve, Listen, Compact, Folders, Lint, Token, TokenHash, Version, Help}
use Rattle.doc_server_arguments.specs.ShownWords.{shown_word}
use Rattle.doc_server_arguments.specs.Usage.{NoCommand, NoAddress, UnknownOption, StandsTwice, NeedsFile, NeedsAddress, NeedsSeconds, NeedsGroups, JournalAndFollow, usage_text}
use Rattle.doc_server_arguments.specs.Versions.{version_lines}

-- ---- addresses

-- 127.0.0.1 and a port
abbrev local : ℕ → SocketAddr
local port = v4_of (127 ∷ 0 ∷ 0 ∷ 1 ∷ [], port)

an_address : address_of (codes "127.0.0.1:8080") ≡ Some (local 8080)
unfolding address_of read_socket_v4 read_ipv4 read_octet read_number read_port
an_address = refl

zeros_of_a_port : address_of (codes "127.0.0.1:0080") ≡ Some (local 80)
unfolding address_of read_socket_v4 read_ipv4 read_octet read_number read_port
zeros_of_a_port = refl

an_ipv6_address : address_of (codes "[::1]:80") ≡ Some (v6_of (0 ∷ 0 ∷ 0 ∷ 0 ∷ 0 ∷ 0 ∷ 0 ∷ 1 ∷ [], 80, 0, 0))
unfolding address_of read_socket_v4 read_socket_v6 read_ipv4 read_ipv6 read_octet read_number read_port read_segments read_segment
    read_scope_id
an_ipv6_address = refl

no_port : address_of (codes "127.0.0.1") ≡ None
unfolding address_of read_socket_v4 read_socket_v6 read_ipv4 read_octet read_number read_port
no_port = refl

a_port_above : address_of (codes "127.0.0.1:65536") ≡ None
unfolding address_of read_socket_v4 read_socket_v6 read_ipv4 read_octet read_number read_port
a_port_above = refl

a_sign : address_of (codes "127.0.0.1:+1") ≡ None
unfolding address_of read_socket_v4 read_socket_v6 read_ipv4 read_octet read_number read_port
a_sign = refl

localhost : listen_address_of (codes "localhost:8080") ≡ Some (local 8080)
unfolding address_of read_socket_v4 read_ipv4 read_octet read_number read_port
localhost = refl

localhost_in_capitals : listen_address_of (codes "Localhost:8080") ≡ None
unfolding address_of read_socket_v4 read_socket_v6 read_ipv4 read_octet read_number
localhost_in_capitals = refl

localhost_without_port : listen_address_of (codes "localhost") ≡ None
unfolding address_of read_socket_v4 read_socket_v6 read_ipv4 read_octet read_number
localhost_without_port = refl

localhost_with_a_sign : listen_address_of (codes "localhost:+1") ≡ None
unfolding address_of read_socket_v4 read_socket_v6 read_ipv4 read_octet read_number read_port
localhost_with_a_sign = refl

-- ---- commands without options

nothing : command_in [] ≡ Err NoCommand
nothing = refl

an_empty_word : command_in ([] ∷ []) ≡ Err NoCommand
an_empty_word = refl

demo : command_in (codes "demo" ∷ []) ≡ Ok Demo
demo = refl

demo_and_more : command_in (codes "demo" ∷ codes "x" ∷ []) ≡ Err NoCommand
demo_and_more = refl

demo_in_capitals : command_in (codes "Demo" ∷ []) ≡ Err NoCommand
demo_in_capitals = refl

render : command_in (codes "render" ∷ []) ≡ Ok Render
render = refl

examples : command_in (codes "examples" ∷ codes "spec.txt" ∷ []) ≡ Ok (Examples (codes "spec.txt"))
examples = refl

examples_of_none : command_in (codes "examples" ∷ []) ≡ Err NoCommand
examples_of_none = refl

check : command_in (codes "check" ∷ codes "site.toml" ∷ codes "tok" ∷ []) ≡ Ok (Check (codes "site.toml") (codes "tok"))
check = refl

check_without_a_token : command_in (codes "check" ∷ codes "site.toml" ∷ []) ≡ Err NoCommand
check_without_a_token = refl

replay : command_in (codes "replay" ∷ codes "site.toml" ∷ []) ≡ Ok (Replay (codes "site.toml"))
replay = refl

folders : command_in (codes "folders" ∷ codes "site.toml" ∷ []) ≡ Ok (Folders (codes "site.toml"))
folders = refl

version : command_in (codes "--version" ∷ []) ≡ Ok Version
version = refl

help : command_in (codes "--help" ∷ []) ≡ Ok Help
help = refl

help_and_more : command_in (codes "--help" ∷ codes "listen" ∷ []) ≡ Err NoCommand
help_and_more = refl

serve : command_in (codes "serve" ∷ codes "site.toml" ∷ codes "127.0.0.1:0" ∷ codes "007" ∷ codes "4294967295" ∷ [])
    ≡ Ok (Serve (codes "site.toml") (codes "127.0.0.1:0") (local 0) 7 4294967295)
unfolding address_of read_socket_v4 read_ipv4 read_octet read_number read_port
serve = refl

serve_too_many : command_in (codes "serve" ∷ codes "site.toml" ∷ codes "127.0.0.1:0" ∷ codes "4294967296" ∷ codes "1" ∷ []) ≡ Err NoCommand
unfolding address_of read_socket_v4 read_ipv4 read_octet read_number read_port
serve_too_many = refl

serve_a_sign : command_in (codes "serve" ∷ codes "site.toml" ∷ codes "127.0.0.1:0" ∷ codes "1" ∷ codes "+1" ∷ []) ≡ Err NoCommand
unfolding address_of read_socket_v4 read_ipv4 read_octet read_number read_port
serve_a_sign = refl

-- `localhost` is `listen`'s alone, and `serve` tells of nothing more
serve_at_localhost : command_in (codes "serve" ∷ codes "site.toml" ∷ codes "localhost:80" ∷ codes "1" ∷ codes "1" ∷ []) ≡ Err NoCommand
unfolding address_of read_socket_v4 read_socket_v6 read_ipv4 read_octet read_number
serve_at_localhost = refl

-- ---- options

abbrev listen_with : List (List ℕ) → List (List ℕ)
listen_with options = codes "listen" ∷ codes "site.toml" ∷ codes "localhost:80" ∷ options

abbrev listening : Option (List ℕ) → Option LogForm → Asked
listening journal log = Listen (codes "site.toml") (codes "localhost:80") (local 80) journal None log None None

-- the same, with monitors at port 9 of 127.0.0.1
abbrev watched : Option (List ℕ) → Option LogForm → Asked
watched journal log = Listen (codes "site.toml") (codes "localhost:80") (local 80) journal None log (Some (local 9)) None

-- the same of a server that follows another's journal
abbrev following : List ℕ → Option LogForm → Option SocketAddr → Asked
following file log status = Listen (codes "site.toml") (codes "localhost:80") (local 80) None (Some file) log status None

listen : command_in (listen_with []) ≡ Ok (listening None None)
unfolding address_of read_socket_v4 read_ipv4 read_octet read_number read_port
listen = refl

listen_with_journal : command_in (listen_with (codes "--journal" ∷ codes "j" ∷ [])) ≡ Ok (listening (Some (codes "j")) None)
unfolding address_of read_socket_v4 read_ipv4 read_octet read_number read_port
listen_with_journal = refl

listen_with_both : command_in (listen_with (codes "--journal" ∷ codes "j" ∷ codes "--log" ∷ [])) ≡ Ok (listening (Some (codes "j")) (Some Plain))
unfolding address_of read_socket_v4 read_ipv4 read_octet read_number read_port
listen_with_both = refl

listen_the_other_way : command_in (listen_with (codes "--log" ∷ codes "--journal" ∷ codes "j" ∷ []))
    ≡ Ok (listening (Some (codes "j")) (Some Plain))
unfolding address_of read_socket_v4 read_ipv4 read_octet read_number read_port
listen_the_other_way = refl

-- what stands behind `--journal` is its file
journal_of_that_name : command_in (listen_with (codes "--journal" ∷ codes "--log" ∷ [])) ≡ Ok (listening (Some (codes "--log")) None)
unfolding address_of read_socket_v4 read_ipv4 read_octet read_number read_port
journal_of_that_name = refl

journal_without_file : command_in (listen_with (codes "--log" ∷ codes "--journal" ∷ [])) ≡ Err (NeedsFile (codes "--journal"))
unfolding address_of read_socket_v4 read_ipv4 read_octet read_number read_port
journal_without_file = refl

journal_twice : command_in (listen_with (codes "--journal" ∷ codes "j" ∷ codes "--log" ∷ codes "--journal" ∷ codes "j" ∷ []))
    ≡ Err (StandsTwice (codes "--journal"))
unfolding address_of read_socket_v4 read_ipv4 read_octet read_number read_port
journal_twice = refl

-- the same word twice and without a file: it stands twice
journal_twice_without_file : command_in (listen_with (codes "--journal" ∷ codes "j" ∷ codes "--journal" ∷ []))
    ≡ Err (StandsTwice (codes "--journal"))
unfolding address_of read_socket_v4 read_ipv4 read_octet read_number read_port
journal_twice_without_file = refl

log_twice : command_in (listen_with (codes "--log" ∷ codes "--log" ∷ codes "what" ∷ [])) ≡ Err (StandsTwice (codes "--log"))
unfolding address_of read_socket_v4 read_ipv4 read_octet read_number read_port
log_twice = refl

listen_with_json : command_in (listen_with (codes "--log=json" ∷ [])) ≡ Ok (listening None (Some Json))
unfolding address_of read_socket_v4 read_ipv4 read_octet read_number read_port
listen_with_json = refl

-- the log has two words, and is one option
both_forms : command_in (listen_with (codes "--log" ∷ codes "--log=json" ∷ [])) ≡ Err (StandsTwice (codes "--log"))
unfolding address_of read_socket_v4 read_ipv4 read_octet read_number read_port
both_forms = refl

both_forms_the_other_way : command_in (listen_with (codes "--log=json" ∷ codes "--journal" ∷ codes "j" ∷ codes "--log" ∷ []))
    ≡ Err (StandsTwice (codes "--log"))
unfolding address_of read_socket_v4 read_ipv4 read_octet read_number read_port
both_forms_the_other_way = refl

json_twice : command_in (listen_with (codes "--log=json" ∷ codes "--log=json" ∷ [])) ≡ Err (StandsTwice (codes "--log"))
unfolding address_of read_socket_v4 read_ipv4 read_octet read_number read_port
json_twice = refl

no_other_form : command_in (listen_with (codes "--log=text" ∷ [])) ≡ Err (UnknownOption (codes "--log=text"))
unfolding address_of read_socket_v4 read_ipv4 read_octet read_number read_port
no_other_form = refl

unknown_first : command_in (listen_with (codes "what" ∷ codes "--log" ∷ codes "--log" ∷ [])) ≡ Err (UnknownOption (codes "what"))
unfolding address_of read_socket_v4 read_ipv4 read_octet read_number read_port
unknown_first = refl

listen_with_status : command_in (listen_with (codes "--status" ∷ codes "127.0.0.1:9" ∷ [])) ≡ Ok (watched None None)
unfolding address_of read_socket_v4 read_ipv4 read_octet read_number read_port
listen_with_status = refl

-- its address is read as that of the site
status_at_localhost : command_in (listen_with (codes "--status" ∷ codes "localhost:9" ∷ [])) ≡ Ok (watched None None)
unfolding address_of read_socket_v4 read_ipv4 read_octet read_number read_port
status_at_localhost = refl

-- in each order
journal_log_status : command_in (listen_with (codes "--journal" ∷ codes "j" ∷ codes "--log" ∷ codes "--status" ∷ codes "127.0.0.1:9" ∷ []))
    ≡ Ok (watched (Some (codes "j")) (Some Plain))
unfolding address_of read_socket_v4 read_ipv4 read_octet read_number read_port
journal_log_status = refl

journal_status_log : command_in (listen_with (codes "--journal" ∷ codes "j" ∷ codes "--status" ∷ codes "127.0.0.1:9" ∷ codes "--log" ∷ []))
    ≡ Ok (watched (Some (codes "j")) (Some Plain))
unfolding address_of read_socket_v4 read_ipv4 read_octet read_number read_port
journal_status_log = refl

log_journal_status : command_in (listen_with (codes "--log" ∷ codes "--journal" ∷ codes "j" ∷ codes "--status" ∷ codes "127.0.0.1:9" ∷ []))
    ≡ Ok (watched (Some (codes "j")) (Some Plain))
unfolding address_of read_socket_v4 read_ipv4 read_octet read_number read_port
log_journal_status = refl

log_status_journal : command_in (listen_with (codes "--log" ∷ codes "--status" ∷ codes "127.0.0.1:9" ∷ codes "--journal" ∷ codes "j" ∷ []))
    ≡ Ok (watched (Some (codes "j")) (Some Plain))
unfolding address_of read_socket_v4 read_ipv4 read_octet read_number read_port
log_status_journal = refl

status_journal_log : command_in (listen_with (codes "--status" ∷ codes "127.0.0.1:9" ∷ codes "--journal" ∷ codes "j" ∷ codes "--log" ∷ []))
    ≡ Ok (watched (Some (codes "j")) (Some Plain))
unfolding address_of read_socket_v4 read_ipv4 read_octet read_number read_port
status_journal_log = refl

status_log_journal : command_in (listen_with (codes "--status" ∷ codes "127.0.0.1:9" ∷ codes "--log" ∷ codes "--journal" ∷ codes "j" ∷ []))
    ≡ Ok (watched (Some (codes "j")) (Some Plain))
unfolding address_of read_socket_v4 read_ipv4 read_octet read_number read_port
status_log_journal = refl

status_before_json : command_in (listen_with (codes "--status" ∷ codes "127.0.0.1:9" ∷ codes "--log=json" ∷ []))
    ≡ Ok (watched None (Some Json))
unfolding address_of read_socket_v4 read_ipv4 read_octet read_number read_port
status_before_json = refl

status_behind_json : command_in (listen_with (codes "--log=json" ∷ codes "--status" ∷ codes "127.0.0.1:9" ∷ []))
    ≡ Ok (watched None (Some Json))
unfolding address_of read_socket_v4 read_ipv4 read_octet read_number read_port
status_behind_json = refl

journal_named_status : command_in (listen_with (codes "--journal" ∷ codes "--status" ∷ [])) ≡ Ok (listening (Some (codes "--status")) None)
unfolding address_of read_socket_v4 read_ipv4 read_octet read_number read_port
journal_named_status = refl

status_twice : command_in (listen_with (codes "--status" ∷ codes "127.0.0.1:9" ∷ codes "--log" ∷ codes "--status" ∷ codes "127.0.0.1:9" ∷ []))
    ≡ Err (StandsTwice (codes "--status"))
unfolding address_of read_socket_v4 read_ipv4 read_octet read_number read_port
status_twice = refl

-- that it stands twice is said before what stands behind it is looked at
status_twice_without_address : command_in (listen_with (codes "--status" ∷ codes "127.0.0.1:9" ∷ codes "--status" ∷ []))
    ≡ Err (StandsTwice (codes "--status"))
unfolding address_of read_socket_v4 read_ipv4 read_octet read_number read_port
status_twice_without_address = refl

status_twice_and_bad : command_in (listen_with (codes "--status" ∷ codes "127.0.0.1:9" ∷ codes "--status" ∷ codes "x" ∷ []))
    ≡ Err (StandsTwice (codes "--status"))
unfolding address_of read_socket_v4 read_ipv4 read_octet read_number read_port
status_twice_and_bad = refl

status_without_address : command_in (listen_with (codes "--journal" ∷ codes "j" ∷ codes "--status" ∷ []))
    ≡ Err (NeedsAddress (codes "--status"))
unfolding address_of read_socket_v4 read_ipv4 read_octet read_number read_port
status_without_address = refl

status_at_no_address : command_in (listen_with (codes "--status" ∷ codes "x" ∷ codes "--log" ∷ codes "--log" ∷ [])) ≡ Err NoAddress
unfolding address_of read_socket_v4 read_socket_v6 read_ipv4 read_octet read_number read_port
status_at_no_address = refl

-- what stands behind `--status` is its address
status_at_an_option : command_in (listen_with (codes "--status" ∷ codes "--log" ∷ [])) ≡ Err NoAddress
unfolding address_of read_socket_v4 read_socket_v6 read_ipv4 read_octet read_number read_port
status_at_an_option = refl

status_behind_another_fault : command_in (listen_with (codes "--log" ∷ codes "--log" ∷ codes "--status" ∷ codes "x" ∷ []))
    ≡ Err (StandsTwice (codes "--log"))
unfolding address_of read_socket_v4 read_ipv4 read_octet read_number read_port
status_behind_another_fault = refl

-- the journal of another server
listen_following : command_in (listen_with (codes "--follow" ∷ codes "j" ∷ [])) ≡ Ok (following (codes "j") None None)
unfolding address_of read_socket_v4 read_ipv4 read_octet read_number read_port
listen_following = refl

-- in each place among the others
follow_log_status : command_in (listen_with (codes "--follow" ∷ codes "j" ∷ codes "--log" ∷ codes "--status" ∷ codes "127.0.0.1:9" ∷ []))
    ≡ Ok (following (codes "j") (Some Plain) (Some (local 9)))
unfolding address_of read_socket_v4 read_ipv4 read_octet read_number read_port
follow_log_status = refl

log_follow_status : command_in (listen_with (codes "--log=json" ∷ codes "--follow" ∷ codes "j" ∷ codes "--status" ∷ codes "127.0.0.1:9" ∷ []))
    ≡ Ok (following (codes "j") (Some Json) (Some (local 9)))
unfolding address_of read_socket_v4 read_ipv4 read_octet read_number read_port
log_follow_status = refl

status_log_follow : command_in (listen_with (codes "--status" ∷ codes "127.0.0.1:9" ∷ codes "--log" ∷ codes "--follow" ∷ codes "j" ∷ []))
    ≡ Ok (following (codes "j") (Some Plain) (Some (local 9)))
unfolding address_of read_socket_v4 read_ipv4 read_octet read_number read_port
status_log_follow = refl

-- what stands behind `--follow` is its file
follow_of_that_name : command_in (listen_with (codes "--follow" ∷ codes "--journal" ∷ [])) ≡ Ok (following (codes "--journal") None None)
unfolding address_of read_socket_v4 read_ipv4 read_octet read_number read_port
follow_of_that_name = refl

journal_named_follow : command_in (listen_with (codes "--journal" ∷ codes "--follow" ∷ [])) ≡ Ok (listening (Some (codes "--follow")) None)
unfolding address_of read_socket_v4 read_ipv4 read_octet read_number read_port
journal_named_follow = refl

follow_without_file : command_in (listen_with (codes "--log" ∷ codes "--follow" ∷ [])) ≡ Err (NeedsFile (codes "--follow"))
unfolding address_of read_socket_v4 read_ipv4 read_octet read_number read_port
follow_without_file = refl

follow_twice : command_in (listen_with (codes "--follow" ∷ codes "j" ∷ codes "--log" ∷ codes "--follow" ∷ codes "k" ∷ []))
    ≡ Err (StandsTwice (codes "--follow"))
unfolding address_of read_socket_v4 read_ipv4 read_octet read_number read_port
follow_twice = refl

follow_twice_without_file : command_in (listen_with (codes "--follow" ∷ codes "j" ∷ codes "--follow" ∷ []))
    ≡ Err (StandsTwice (codes "--follow"))
unfolding address_of read_socket_v4 read_ipv4 read_octet read_number read_port
follow_twice_without_file = refl

follow_in_capitals : command_in (listen_with (codes "--Follow" ∷ codes "j" ∷ [])) ≡ Err (UnknownOption (codes "--Follow"))
unfolding address_of read_socket_v4 read_ipv4 read_octet read_number read_port
follow_in_capitals = refl

-- a server has a journal or follows another's
journal_and_follow : command_in (listen_with (codes "--journal" ∷ codes "j" ∷ codes "--follow" ∷ codes "k" ∷ [])) ≡ Err JournalAndFollow
unfolding address_of read_socket_v4 read_ipv4 read_octet read_number read_port
journal_and_follow = refl

follow_and_journal : command_in (listen_with (codes "--follow" ∷ codes "j" ∷ codes "--log" ∷ codes "--journal" ∷ codes "j" ∷ []))
    ≡ Err JournalAndFollow
unfolding address_of read_socket_v4 read_ipv4 read_octet read_number read_port
follow_and_journal = refl

-- that both stand is told where nothing else is
both_without_file : command_in (listen_with (codes "--journal" ∷ codes "j" ∷ codes "--follow" ∷ [])) ≡ Err (NeedsFile (codes "--follow"))
unfolding address_of read_socket_v4 read_ipv4 read_octet read_number read_port
both_without_file = refl

both_and_more : command_in (listen_with (codes "--journal" ∷ codes "j" ∷ codes "--follow" ∷ codes "k" ∷ codes "x" ∷ []))
    ≡ Err (UnknownOption (codes "x"))
unfolding address_of read_socket_v4 read_ipv4 read_octet read_number read_port
both_and_more = refl

both_and_again : command_in (listen_with (codes "--follow" ∷ codes "k" ∷ codes "--journal" ∷ codes "j" ∷ codes "--follow" ∷ codes "k" ∷ []))
    ≡ Err (StandsTwice (codes "--follow"))
unfolding address_of read_socket_v4 read_ipv4 read_octet read_number read_port
both_and_again = refl

-- the address stands before the options
address_before_options : command_in (codes "listen" ∷ codes "site.toml" ∷ codes "--log" ∷ codes "what" ∷ []) ≡ Err NoAddress
unfolding address_of read_socket_v4 read_socket_v6 read_ipv4 read_octet read_number
address_before_options = refl

-- with looks after so many seconds
abbrev looking : ℕ → Asked
looking seconds = Listen (codes "site.toml") (codes "localhost:80") (local 80) None None None None (Some seconds)

listen_with_watch : command_in (listen_with (codes "--watch" ∷ codes "10" ∷ [])) ≡ Ok (looking 10)
unfolding address_of read_socket_v4 read_ipv4 read_octet read_number read_port
listen_with_watch = refl

-- from one second to an hour
watch_the_longest : command_in (listen_with (codes "--watch" ∷ codes "03600" ∷ [])) ≡ Ok (looking 3600)
unfolding address_of read_socket_v4 read_ipv4 read_octet read_number read_port
watch_the_longest = refl

watch_too_long : command_in (listen_with (codes "--watch" ∷ codes "3601" ∷ codes "--log" ∷ codes "--log" ∷ [])) ≡ Err NeedsSeconds
unfolding address_of read_socket_v4 read_ipv4 read_octet read_number read_port
watch_too_long = refl

watch_never : command_in (listen_with (codes "--watch" ∷ codes "0" ∷ [])) ≡ Err NeedsSeconds
unfolding address_of read_socket_v4 read_ipv4 read_octet read_number read_port
watch_never = refl

watch_a_sign : command_in (listen_with (codes "--watch" ∷ codes "+1" ∷ [])) ≡ Err NeedsSeconds
unfolding address_of read_socket_v4 read_ipv4 read_octet read_number read_port
watch_a_sign = refl

watch_without_seconds : command_in (listen_with (codes "--log" ∷ codes "--watch" ∷ [])) ≡ Err NeedsSeconds
unfolding address_of read_socket_v4 read_ipv4 read_octet read_number read_port
watch_without_seconds = refl

-- what stands behind `--watch` is its seconds
watch_an_option : command_in (listen_with (codes "--watch" ∷ codes "--log" ∷ [])) ≡ Err NeedsSeconds
unfolding address_of read_socket_v4 read_ipv4 read_octet read_number read_port
watch_an_option = refl

watch_twice : command_in (listen_with (codes "--watch" ∷ codes "1" ∷ codes "--watch" ∷ []))
    ≡ Err (StandsTwice (codes "--watch"))
unfolding address_of read_socket_v4 read_ipv4 read_octet read_number read_port
watch_twice = refl

journal_named_watch : command_in (listen_with (codes "--journal" ∷ codes "--watch" ∷ [])) ≡ Ok (listening (Some (codes "--watch")) None)
unfolding address_of read_socket_v4 read_ipv4 read_octet read_number read_port
journal_named_watch = refl

listen_without_address : command_in (codes "listen" ∷ codes "site.toml" ∷ []) ≡ Err NoCommand
listen_without_address = refl

compact : command_in (codes "compact" ∷ codes "site.toml" ∷ codes "--journal" ∷ codes "j" ∷ [])
    ≡ Ok (Compact (codes "site.toml") (codes "j"))
compact = refl

compact_without_journal : command_in (codes "compact" ∷ codes "site.toml" ∷ []) ≡ Err NoCommand
compact_without_journal = refl

compact_without_file : command_in (codes "compact" ∷ codes "site.toml" ∷ codes "--journal" ∷ []) ≡ Err (NeedsFile (codes "--journal"))
compact_without_file = refl

compact_with_log : command_in (codes "compact" ∷ codes "site.toml" ∷ codes "--log" ∷ []) ≡ Err (UnknownOption (codes "--log"))
compact_with_log = refl

compact_with_json : command_in (codes "compact" ∷ codes "site.toml" ∷ codes "--log=json" ∷ []) ≡ Err (UnknownOption (codes "--log=json"))
compact_with_json = refl

compact_with_status : command_in (codes "compact" ∷ codes "site.toml" ∷ codes "--status" ∷ codes "127.0.0.1:9" ∷ [])
    ≡ Err (UnknownOption (codes "--status"))
compact_with_status = refl

compact_with_follow : command_in (codes "compact" ∷ codes "site.toml" ∷ codes "--follow" ∷ codes "j" ∷ [])
    ≡ Err (UnknownOption (codes "--follow"))
compact_with_follow = refl

compact_with_watch : command_in (codes "compact" ∷ codes "site.toml" ∷ codes "--watch" ∷ codes "1" ∷ [])
    ≡ Err (UnknownOption (codes "--watch"))
compact_with_watch = refl

compact_and_more : command_in (codes "compact" ∷ codes "site.toml" ∷ codes "--journal" ∷ codes "j" ∷ codes "x" ∷ [])
    ≡ Err (UnknownOption (codes "x"))
compact_and_more = refl

lint : command_in (codes "lint" ∷ codes "site.toml" ∷ []) ≡ Ok (Lint (codes "site.toml") None)
lint = refl

lint_with_journal : command_in (codes "lint" ∷ codes "site.toml" ∷ codes "--journal" ∷ codes "j" ∷ [])
    ≡ Ok (Lint (codes "site.toml") (Some (codes "j")))
lint_with_journal = refl

lint_of_none : command_in (codes "lint" ∷ []) ≡ Err NoCommand
lint_of_none = refl

lint_with_status : command_in (codes "lint" ∷ codes "site.toml" ∷ codes "--journal" ∷ codes "j" ∷ codes "--status" ∷ [])
    ≡ Err (UnknownOption (codes "--status"))
lint_with_status = refl

lint_with_follow : command_in (codes "lint" ∷ codes "site.toml" ∷ codes "--follow" ∷ codes "j" ∷ []) ≡ Err (UnknownOption (codes "--follow"))
lint_with_follow = refl

lint_without_file : command_in (codes "lint" ∷ codes "site.toml" ∷ codes "--journal" ∷ []) ≡ Err (NeedsFile (codes "--journal"))
lint_without_file = refl

-- ---- tokens

token : command_in (codes "token" ∷ codes "ann" ∷ []) ≡ Ok (Token (codes "ann") false None)
token = refl

token_of_an_owner : command_in (codes "token" ∷ codes "ann" ∷ codes "--owner" ∷ []) ≡ Ok (Token (codes "ann") true None)
token_of_an_owner = refl

token_with_both : command_in (codes "token" ∷ codes "ann" ∷ codes "--owner" ∷ codes "--groups" ∷ codes "ops,staff" ∷ [])
    ≡ Ok (Token (codes "ann") true (Some (codes "ops,staff")))
token_with_both = refl

token_the_other_way : command_in (codes "token" ∷ codes "ann" ∷ codes "--groups" ∷ codes "ops,staff" ∷ codes "--owner" ∷ [])
    ≡ Ok (Token (codes "ann") true (Some (codes "ops,staff")))
token_the_other_way = refl

-- what stands behind `--groups` is names
groups_of_that_name : command_in (codes "token" ∷ codes "ann" ∷ codes "--groups" ∷ codes "--owner" ∷ [])
    ≡ Ok (Token (codes "ann") false (Some (codes "--owner")))
groups_of_that_name = refl

token_without_groups : command_in (codes "token" ∷ codes "ann" ∷ codes "--owner" ∷ codes "--groups" ∷ []) ≡ Err NeedsGroups
token_without_groups = refl

groups_twice : command_in (codes "token" ∷ codes "ann" ∷ codes "--groups" ∷ codes "a" ∷ codes "--groups" ∷ [])
    ≡ Err (StandsTwice (codes "--groups"))
groups_twice = refl

owner_twice : command_in (codes "token" ∷ codes "ann" ∷ codes "--owner" ∷ codes "--owner" ∷ codes "what" ∷ [])
    ≡ Err (StandsTwice (codes "--owner"))
owner_twice = refl

token_and_more : command_in (codes "token" ∷ codes "ann" ∷ codes "what" ∷ codes "--groups" ∷ []) ≡ Err (UnknownOption (codes "what"))
token_and_more = refl

token_of_none : command_in (codes "token" ∷ []) ≡ Err NoCommand
token_of_none = refl

token_hash : command_in (codes "token" ∷ codes "--hash" ∷ []) ≡ Ok TokenHash
token_hash = refl

token_hash_and_more : command_in (codes "token" ∷ codes "--hash" ∷ codes "tok" ∷ []) ≡ Err (UnknownOption (codes "tok"))
token_hash_and_more = refl

-- ---- what is told

usage : usage_text NoCommand ≡ codes "usage"
usage = refl

no_file_told : usage_text (NeedsFile (codes "--journal")) ≡ codes "--journal needs a file\ndocs_server: usage"
unfolding percent_encode should_percent_encode
no_file_told = refl

no_address_told : usage_text (NeedsAddress (codes "--status")) ≡ codes "--status needs an address\ndocs_server: usage"
unfolding percent_encode should_percent_encode
no_address_told = refl

no_seconds_told : usage_text NeedsSeconds ≡ codes "--watch needs seconds: 1 to 3600\ndocs_server: usage"
no_seconds_told = refl

both_told : usage_text JournalAndFollow ≡ codes "--journal and --follow exclude each other\ndocs_server: usage"
both_told = refl

-- an escape, a space, DEL and an accented letter stand by their numbers
word_told : shown_word (27 ∷ codes "[31m a" ++ 127 ∷ 195 ∷ 169 ∷ []) ≡ codes "%1B[31m%20a%7F%C3%A9"
unfolding percent_encode percent_encode_byte should_percent_encode
word_told = refl

empty_word_told : usage_text (UnknownOption []) ≡ codes "unknown option: \ndocs_server: usage"
unfolding percent_encode
empty_word_told = refl

long_word_told : shown_word (replicate 1001 97) ≡ replicate 1000 97 ++ codes "..."
unfolding percent_encode should_percent_encode
long_word_told = refl

version_told : version_lines ≡ codes "docs_server 0.9.0\njournal 2\njournal 1 (compact alone)"
version_told = refl

-- no line of the help is longer than 100 characters; all are ASCII, so bytes are characters
help_is_narrow : list_all (λ line. nat_le (length line) 100) (lines HELP.now) ≡ true
help_is_narrow = refl

help_is_ascii : list_all (λ b. nat_le b 126) HELP.now ≡ true
help_is_ascii = refl
