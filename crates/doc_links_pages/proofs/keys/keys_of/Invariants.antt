use Rattle.std.proofs.Common.{take}
use Rattle.doc_index_tables.specs.Maps.{text_map}
use Rattle.doc_links_pages.specs.KnownSteps.{HasKeys}
use Rattle.doc_links_pages.proofs.keys.keys_of.Given as goal

-- the paths so far
abbrev pub invariant-loop-link : goal.invariant-loop-link
invariant-loop-link l = HasKeys (take l.link-index l.links) (text_map l.keys)
