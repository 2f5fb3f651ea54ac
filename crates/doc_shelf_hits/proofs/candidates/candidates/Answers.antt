use Rattle.std.proofs.Common.{ap, ◌∙◌}
use Rattle.std.specs.Prelude.{map as mapped}
use Rattle.std.specs.List.{flat_map}
use Rattle.std.proofs.lemmas.List.{take_all}
use Rattle.doc_shelf_hits.proofs.CandidateSteps.{all_known, known_in, known_next}
use Rattle.doc_shelf_hits.specs.Candidates.{known_of}
use Rattle.doc_shelf_hits.proofs.candidates.candidates.Goals as goal

pub paths-preserved : goal.paths-preserved
paths-preserved c render k =
    known_next (known_in render c.args.store.now c.args.reader.now c.args.terms.now) (mapped known_of c.paths.all.items)
    (mapped known_of c.push_named.new.all.items) c.get-path-items.result.now c.paths.path-index c.path-item.result c.get.result.now
    c.paths-test.true c.path-item.is c.get.ensures (c.in_ok-push_named.ensures render k) (c.paths.invariant render k)

pub returns : goal.returns
returns c render k are =
    c.paths.invariant render k
    ∙ ap (flat_map (known_in render c.args.store.now c.args.reader.now c.args.terms.now))
    (take_all c.paths.path-index c.get-path-items.result.now c.paths-test.false)
    ∙ all_known render c.args.store.now c.args.reader.now c.args.terms.now c.get-path-items.result.now
    (c.get-path-items.ensures ∙ c.in_ok-paths.ensures c.args.store.now.site are)
