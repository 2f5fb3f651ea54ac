use Rattle.std.proofs.Common.{◌≡◌, ℕ, List, true, false, take}
use Rattle.doc_links_names.specs.Names.{AddsNothing, KeepsOthers, uses}
use Rattle.doc_links_names.specs.PageNumbers.{is_written}
use Rattle.doc_links_names.proofs.link_numbers.leave_links.Given as goal

-- what other slots use stands, and the slot uses none of the texts so far
abbrev pub invariant-loop-link : goal.invariant-loop-link
invariant-loop-link l = record {
  kept : KeepsOthers l.slot l.fn.names l.names;
  fewer : AddsNothing l.fn.names l.names;
  gone : (text : List ℕ) → is_written (take l.link-index l.links) text ≡ true → uses l.names text l.slot ≡ false;
}
