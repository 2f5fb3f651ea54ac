use Rattle.std.proofs.Common.{◌≡◌, ◌+◌, drop}
use Rattle.std.specs.List.{prefix_len}
use Rattle.doc_people_lists.specs.Fronts.{is_of}
use Rattle.doc_people_lists.proofs.groups.front_len.Given as goal

-- all links so far are of the page
abbrev pub invariant-loop-link : goal.invariant-loop-link
invariant-loop-link l = record {
  counts : l.len ≡ l.link-index;
  passes : prefix_len (is_of l.source) l.links ≡ l.link-index + prefix_len (is_of l.source) (drop l.link-index l.links);
}
