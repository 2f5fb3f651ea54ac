-- What a turn answers. All of this is this project's choice.
use Rattle.std.specs.Prelude.{Bool, true, false}
use Rattle.doc_server_turns.specs.declared.scope.Scope.{Scope}
use Rattle.doc_server_turns.specs.declared.scope.Scope.TheVariants as scopes

-- what comes in a turn waits for the next
abbrev pub is_earlier : Scope → Bool
is_earlier scopes.Earlier = true
is_earlier scope = false

-- edits wait
abbrev pub only_reads : Scope → Bool
only_reads scopes.Reads = true
only_reads scope = false
