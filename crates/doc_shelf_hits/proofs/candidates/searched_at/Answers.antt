use Rattle.std.proofs.Common.{ap, ◌∙◌}
use Rattle.std.specs.Prelude.{option_map}
use Rattle.std.specs.FinMap as map
use Rattle.doc_shelf_hits.proofs.CandidateSteps.{parts_are}
use Rattle.doc_shelf_hits.specs.Candidates.{parts_by}
use Rattle.doc_shelf_hits.proofs.candidates.searched_at.Goals as goal

pub returns : goal.returns
returns c render k =
    c.searched_under.ensures
    ∙ ap (λ stamp. parts_by (map.get c.args.kept.now.renderings (c.args.path.now, stamp))
    (option_map map.entries (map.get c.args.kept.now.words (c.args.path.now, stamp)))) c.stamp.ensures
    ∙ parts_are render c.args.store.now c.args.kept.now k c.args.path.now c.in-Some.page.now.stamp c.in-Some.page.now.page
    c.in-Some.ensures.stands _ c.in-Some.ensures.page
