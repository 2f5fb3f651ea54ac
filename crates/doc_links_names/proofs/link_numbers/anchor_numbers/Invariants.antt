use Rattle.std.proofs.Common.{◌≡◌, ℕ, true}
use Rattle.std.specs.FinMap as map
use Rattle.doc_links_pages.specs.Links.{has_anchor}
use Rattle.doc_links_names.specs.Names.{AddsOnly, Keeps}
use Rattle.doc_links_names.specs.PageNumbers.{IsAnchorNumber}
use Rattle.doc_links_names.proofs.link_numbers.anchor_numbers.Given as goal

-- the numbers so far are those of anchors, and what slots use stands
abbrev pub invariant-loop-heading : goal.invariant-loop-heading
invariant-loop-heading l = record {
  kept : Keeps l.fn.names l.names;
  only : AddsOnly (has_anchor l.headings) l.slot l.fn.names l.names;
  told : (n : ℕ) → map.contains_key l.numbers n ≡ true → IsAnchorNumber l.names l.slot l.headings n;
}
