use Rattle.std.proofs.Common.{◌≡◌, ◌++◌, take, string_bytes}
use Rattle.std.specs.List.{flat_map}
use Rattle.doc_listings.specs.Listings.{heading_line}
use Rattle.doc_listings.proofs.contents.push_headings.Given as goal

-- the lines so far are written
abbrev pub invariant-loop-heading : goal.invariant-loop-heading
invariant-loop-heading l = string_bytes l.out ≡ string_bytes l.fn.out
    ++ flat_map (heading_line l.address) (take l.heading-index l.headings)
