use Rattle.std.proofs.Common.{◌≡◌, ◌++◌, drop}
use Rattle.doc_store_readers.specs.Groups.{texts_of}
use Rattle.doc_server_script.specs.Compactions.{moves}
use Rattle.doc_server_reload.proofs.pushing.push_moves.Given as goal

-- the moves so far are added, and those from the last name on are left
abbrev pub invariant-names : goal.invariant-names
invariant-names l = record {
  added : l.fn.edits.items ++ moves l.from (texts_of l.names)
      ≡ l.edits.items ++ moves l.last (texts_of (drop l.name-index l.names));
}
