use Rattle.std.proofs.Common.{◌≡◌, ◌++◌, take, string_bytes}
use Rattle.std.specs.List.{flat_map}
use Rattle.doc_listings.specs.Listings.{backlink_line}
use Rattle.doc_listings.proofs.backlinks.push_backlinks.Given as goal

-- the lines so far are written
abbrev pub invariant-loop-source : goal.invariant-loop-source
invariant-loop-source l = string_bytes l.out ≡ string_bytes l.fn.out ++ flat_map backlink_line (take l.source-index l.sources)
