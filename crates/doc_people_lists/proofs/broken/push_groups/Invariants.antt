use Rattle.std.proofs.Common.{◌≡◌, ◌++◌, drop, take, string_bytes}
use Rattle.std.specs.List.{flat_map}
use Rattle.doc_people.specs.BrokenLinks.{broken_group, by_source}
use Rattle.doc_people_lists.proofs.broken.push_groups.Given as goal

-- the groups so far are written, and the links of the others are left
abbrev pub invariant-loop-shown : goal.invariant-loop-shown
invariant-loop-shown g l = record {
  written : string_bytes l.out ≡ string_bytes l.fn.out
      ++ flat_map (broken_group (g.V.Viewed.render l.view) l.frame.offers (g.V.Viewed.view l.view) (g.V.Viewed.media l.view))
      (take l._shown (by_source l.links));
  left : by_source l.rest ≡ drop l._shown (by_source l.links);
}
