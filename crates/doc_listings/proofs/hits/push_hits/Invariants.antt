use Rattle.std.proofs.Common.{◌≡◌, ◌++◌, take, string_bytes}
use Rattle.std.specs.List.{flat_map}
use Rattle.doc_listings.specs.Listings.{hit_line}
use Rattle.doc_listings.proofs.hits.push_hits.Given as goal

-- the lines so far are written
abbrev pub invariant-loop-hit : goal.invariant-loop-hit
invariant-loop-hit l = string_bytes l.out ≡ string_bytes l.fn.out ++ flat_map hit_line (take l.hit-index l.hits)
