use Rattle.std.proofs.Common.{◌≡◌, ◌++◌, flat_map, string_bytes}
use Rattle.doc_server_config.specs.BadFiles.{shown_char}
use Rattle.doc_server_config.proofs.bad_file.push_shown.Given as goal

-- the characters so far are written
abbrev pub invariant-characters : goal.invariant-characters
invariant-characters l = string_bytes l.out ≡ string_bytes l.fn.out ++ flat_map shown_char l.yielded
