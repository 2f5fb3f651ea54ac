use Rattle.std.proofs.Common.{◌≡◌, ◌++◌, map, string_bytes}
use Rattle.std.specs.List.{flat_map}
use Rattle.doc_people.specs.Pages.{heading_item}
use Rattle.doc_people_pages.proofs.headings.push_heading_items.Given as goal

-- the headings so far are written
abbrev pub invariant-loop-heading : goal.invariant-loop-heading
invariant-loop-heading l = string_bytes l.out ≡ string_bytes l.fn.out ++ flat_map heading_item (map (λ heading. heading.now) l.yielded)
