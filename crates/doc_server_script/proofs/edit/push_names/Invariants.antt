use Rattle.std.proofs.Common.{◌≡◌, ◌++◌, take, string_bytes}
use Rattle.doc_server_script.specs.Edits.{behind_commas}
use Rattle.doc_server_script.proofs.edit.push_names.Given as goal

-- the names so far are written
abbrev pub invariant-loop-name : goal.invariant-loop-name
invariant-loop-name l = string_bytes l.out ≡ string_bytes l.fn.out ++ (l.first ++ behind_commas (take l.name-index l.names))
