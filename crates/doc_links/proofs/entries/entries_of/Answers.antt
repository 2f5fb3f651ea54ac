use Rattle.std.proofs.Common.{arith, ◌∙◌}
use Rattle.doc_links.proofs.EntrySteps.{all_entries}
use Rattle.doc_links.proofs.entries.entries_of.Goals as goal

pub returns : goal.returns
returns c =
    c.new.ensures
    ∙ all_entries c.args.pages.now c.loop-page.page-index (omega (arith, c.loop-page-test.false)) c.loop-page.all.items
    c.loop-page.invariant
