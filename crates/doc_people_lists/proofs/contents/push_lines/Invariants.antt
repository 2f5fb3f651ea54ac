use Rattle.std.proofs.Common.{◌≡◌, ◌++◌, take, string_bytes}
use Rattle.std.specs.List.{flat_map}
use Rattle.doc_people.specs.Lists.{contents_line}
use Rattle.doc_people_lists.proofs.contents.push_lines.Given as goal

-- the lines so far are written
abbrev pub invariant-loop-key : goal.invariant-loop-key
invariant-loop-key g l = string_bytes l.out ≡ string_bytes l.fn.out
    ++ flat_map (contents_line (g.V.Viewed.render l.view) (g.V.Viewed.view l.view)) (take l.key-index l.keys)
