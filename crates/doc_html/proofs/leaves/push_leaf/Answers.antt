use Rattle.std.proofs.Common.{OnOk, subst, sym}
use Rattle.doc_blocks_starts.specs.Tags.{leaf_shown}
use Rattle.doc_html.specs.ProgressSteps.{Goes}
use Rattle.doc_html.specs.TellingSteps.{leaf_told}
use Rattle.doc_html.proofs.leaves.push_leaf.Goals as goal

pub returns-in-Heading : goal.returns-in-Heading
unfolding leaf_shown
returns-in-Heading g c = λ definitions is.
    subst
    (λ leaf. OnOk c.push_heading.result (Goes g.W.Writer.holds c.args.writer.now c.push_heading.new.writer
    (leaf_told c.args.source.now.entities.now definitions c.args.tight (leaf_shown leaf))))
    (sym c.in-Heading.is) (c.push_heading.ensures definitions c.args.tight is)

pub returns-in-Html : goal.returns-in-Html
unfolding leaf_shown
returns-in-Html g c = λ definitions is.
    subst
    (λ leaf. OnOk c.push_html_block.result (Goes g.W.Writer.holds c.args.writer.now c.push_html_block.new.writer
    (leaf_told c.args.source.now.entities.now definitions c.args.tight (leaf_shown leaf))))
    (sym c.in-Html.is) (c.push_html_block.ensures c.args.source.now.entities.now definitions c.args.tight)

pub returns-in-Break : goal.returns-in-Break
unfolding leaf_shown
returns-in-Break g c = λ definitions is.
    subst
    (λ leaf. OnOk c.push_break.result (Goes g.W.Writer.holds c.args.writer.now c.push_break.new.writer
    (leaf_told c.args.source.now.entities.now definitions c.args.tight (leaf_shown leaf))))
    (sym c.in-Break.is) (c.push_break.ensures c.args.source.now.entities.now definitions c.args.tight)
