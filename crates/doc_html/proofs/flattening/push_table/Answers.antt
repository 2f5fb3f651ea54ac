use Rattle.std.proofs.Common.{ap, sym}
use Rattle.doc_rules.specs.Forests.{◌▹◌}
use Rattle.doc_rules.specs.Blocks.{TableBlock}
use Rattle.doc_rules.specs.Tables.{TableSource}
use Rattle.doc_blocks_starts.specs.Tags.{leaf_shown}
use Rattle.doc_html.proofs.FlatteningSteps.{as_blocks, kept_lines}
use Rattle.doc_html.proofs.flattening.push_table.Goals as goal

pub returns : goal.returns
unfolding leaf_shown
returns c = λ outer before is.
    as_blocks c.push_leaf.result c.push_leaf.new.tags.items outer _ _
    (sym (ap (λ (t : TableSource). before ▹ TableBlock t)
    (kept_lines _ _ _ _ _ _ _ c.in_ok-lines.ensures c.get.ensures c.get-2.ensures c.rows_of.ensures)))
    (c.push_leaf.ensures outer before is)
