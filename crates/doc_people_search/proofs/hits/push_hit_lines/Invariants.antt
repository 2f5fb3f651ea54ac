use Rattle.std.proofs.Common.{◌≡◌, ◌++◌, string_bytes, take}
use Rattle.std.specs.List.{flat_map}
use Rattle.doc_people.specs.Search.{hit_line}
use Rattle.doc_people_search.proofs.hits.push_hit_lines.Given as goal

abbrev pub invariant-loop-hit : goal.invariant-loop-hit
invariant-loop-hit g l = string_bytes l.out
    ≡ string_bytes l.fn.out ++ flat_map (hit_line (g.V.Viewed.render l.view) (g.V.Viewed.view l.view) l.terms) (take l.hit-index l.hits)
