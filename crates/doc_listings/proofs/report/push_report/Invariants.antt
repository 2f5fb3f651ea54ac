use Rattle.std.proofs.Common.{◌≡◌, ◌++◌, take, string_bytes}
use Rattle.std.specs.List.{flat_map}
use Rattle.doc_listings.specs.Listings.{broken_line}
use Rattle.doc_listings.proofs.report.push_report.Given as goal

-- the lines so far are written
abbrev pub invariant-loop-link : goal.invariant-loop-link
invariant-loop-link l = string_bytes l.out ≡ string_bytes l.fn.out ++ flat_map broken_line (take l.link-index l.links)
