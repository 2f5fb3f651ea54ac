use Rattle.std.proofs.Common.{rules, subst, sym}
use Rattle.doc_html_anchors.specs.Numbers.{AreNumbered}
use Rattle.doc_html_anchors.proofs.EntryLaws.{numbered_raised}
use Rattle.doc_html_anchors.proofs.numbers.raise.Goals as goal

pub returns-in_default-clause-numbered : goal.returns-in_default-clause-numbered
returns-in_default-clause-numbered c = subst AreNumbered (sym c.get_mut.follows.holds-at-none) c.requires.numbered

pub returns-clause-numbered : goal.returns-clause-numbered
returns-clause-numbered c =
    let written = c.get_mut.follows.holds c.args.number in
    numbered_raised c.args.entries.now (c.get_mut.follows.lender c.args.number) c.args.name.now c.args.number written.1
    (written.3 (search rules)) c.requires.positive c.requires.below c.requires.numbered
