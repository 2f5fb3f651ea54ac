use Rattle.std.proofs.Common.{◌≡◌, ◌++◌, take, string_bytes}
use Rattle.std.specs.List.{flat_map}
use Rattle.doc_people.specs.Lists.{backlink_line}
use Rattle.doc_people_lists.proofs.backlinks.push_lines.Given as goal

-- the lines so far are written
abbrev pub invariant-loop-source : goal.invariant-loop-source
invariant-loop-source g l = string_bytes l.out ≡ string_bytes l.fn.out
    ++ flat_map (backlink_line (g.V.Viewed.render l.view) (g.V.Viewed.view l.view)) (take l.source-index l.sources)
