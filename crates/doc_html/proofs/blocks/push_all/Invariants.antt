use Rattle.std.proofs.Common.{◌≡◌, List, take}
use Rattle.doc_rules.specs.Definitions.{Definition}
use Rattle.doc_refs_parts.specs.Targets.{targets_of}
use Rattle.doc_html.specs.ProgressSteps.{Progress}
use Rattle.doc_html.proofs.TagSteps.{IsTold}
use Rattle.doc_html.proofs.blocks.push_all.Given as goal

abbrev pub invariant-loop-tag : goal.invariant-loop-tag
invariant-loop-tag g l =
    (definitions : List Definition) (p : Progress) → l.source.refs.now ≡ targets_of definitions → g.W.Writer.holds l.fn.writer p →
    IsTold g.W.Writer.holds l.source.entities.now definitions (take l.tag-index l.tags) p l.nesting l.writer
