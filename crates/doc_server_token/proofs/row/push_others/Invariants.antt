use Rattle.std.proofs.Common.{◌≡◌, ◌++◌, codes, string_bytes, take}
use Rattle.std.specs.List.{flat_map}
use Rattle.doc_server_token.proofs.row.push_others.Given as goal

-- the names so far stand, each behind a comma
abbrev pub invariant-loop-name : goal.invariant-loop-name
invariant-loop-name l =
    string_bytes l.out ≡ string_bytes l.fn.out ++ flat_map (λ name. codes ", \"" ++ name ++ codes "\"") (take l.name-index l.names)
