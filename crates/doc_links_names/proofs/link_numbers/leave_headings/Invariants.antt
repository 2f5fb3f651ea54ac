use Rattle.std.proofs.Common.{◌≡◌, ℕ, List, true, false, take}
use Rattle.doc_links_names.specs.Names.{AddsNothing, KeepsOthers, uses}
use Rattle.doc_links_pages.specs.Links.{has_anchor}
use Rattle.doc_links_names.proofs.link_numbers.leave_headings.Given as goal

-- what other slots use stands, and the slot uses none of the texts so far
abbrev pub invariant-loop-heading : goal.invariant-loop-heading
invariant-loop-heading l = record {
  kept : KeepsOthers l.slot l.fn.names l.names;
  fewer : AddsNothing l.fn.names l.names;
  gone : (text : List ℕ) → has_anchor (take l.heading-index l.headings) text ≡ true → uses l.names text l.slot ≡ false;
}
