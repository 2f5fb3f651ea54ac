use Rattle.std.proofs.Common.{◌≡◌, ◌++◌, take, string_bytes}
use Rattle.std.specs.List.{flat_map}
use Rattle.doc_listings.specs.Listings.{entry_lines}
use Rattle.doc_listings.proofs.contents.push_pages.Given as goal

-- the lines so far are written
abbrev pub invariant-loop-page : goal.invariant-loop-page
invariant-loop-page g l =
    string_bytes l.out ≡ string_bytes l.fn.out ++ flat_map (λ page. entry_lines (g.P.Listed.entry page)) (take l.page-index l.pages)
