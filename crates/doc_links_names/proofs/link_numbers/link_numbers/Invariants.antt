use Rattle.std.proofs.Common.{take}
use Rattle.doc_links_names.specs.Names.{AddsOnly, Keeps}
use Rattle.doc_links_names.specs.PageNumbers.{AreLinkNumbers, is_written}
use Rattle.doc_links_names.proofs.link_numbers.link_numbers.Given as goal

-- the links so far have their pairs, and what slots use stands
abbrev pub invariant-loop-link : goal.invariant-loop-link
invariant-loop-link l = record {
  kept : Keeps l.fn.names l.names;
  only : AddsOnly (is_written l.links) l.slot l.fn.names l.names;
  told : AreLinkNumbers l.names l.slot (take l.link-index l.links) l.pairs;
}
