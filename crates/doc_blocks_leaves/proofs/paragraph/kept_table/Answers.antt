use Rattle.doc_blocks_leaves.proofs.TableSteps.{kept_is}
use Rattle.doc_blocks_leaves.proofs.paragraph.kept_table.Goals as goal

pub returns : goal.returns
returns c =
    kept_is _ _ _ _ c.args.found c.in_ok-lines.ensures c.in_ok-header.ensures c.in_ok-delimiters.ensures c.in_ok-rows.ensures
