use Rattle.std.proofs.Common.{◌≡◌, ◌++◌, take, string_bytes}
use Rattle.std.specs.List.{flat_map}
use Rattle.doc_people.specs.BrokenLinks.{broken_row}
use Rattle.doc_people_lists.proofs.broken.push_rows.Given as goal

-- the rows so far are written
abbrev pub invariant-loop-link : goal.invariant-loop-link
invariant-loop-link g l = string_bytes l.out ≡ string_bytes l.fn.out
    ++ flat_map (broken_row l.frame.offers (g.V.Viewed.view l.view) (g.V.Viewed.media l.view)) (take l.link-index l.links)
