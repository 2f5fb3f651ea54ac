-- What private functions answer: parts of the definitions in WrittenFolders, as the code takes them.
use Rattle.std.specs.Prelude.{ℕ, List, Option, Some, None, if◌then◌else◌}
use Rattle.std.specs.List.{list_any}
use Rattle.doc_http_targets.specs.WrittenFolders.{holds_slash, with_slashes}

-- the parts, decoded, each with `/` behind it, where none of them holds one
abbrev pub joined : List (List ℕ) → Option (List ℕ)
joined parts = if list_any holds_slash parts then None else Some (with_slashes parts)
