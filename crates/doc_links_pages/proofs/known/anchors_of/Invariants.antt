use Rattle.std.proofs.Common.{take}
use Rattle.doc_links_pages.specs.KnownSteps.{HasAnchors}
use Rattle.doc_links_pages.proofs.known.anchors_of.Given as goal

-- the anchors so far
abbrev pub invariant-loop-heading : goal.invariant-loop-heading
invariant-loop-heading l = HasAnchors (take l.heading-index l.headings) l.anchors
