use Rattle.std.proofs.Common.{◌++◌, ◌∙◌}
use Rattle.sha2.specs.Hashers.{Holds256}
use Rattle.doc_store_tags.proofs.NameSteps.{all_names}
use Rattle.doc_store_tags.proofs.digest.hash_names.Goals as goal

pub returns : goal.returns
returns c = λ before holds.
    all_names (Holds256 c.hash_others.new.hasher) before c.as_bytes.result.now c.in-Some.first.now c.args.names.now c.in-Some.others.now
    c.in-Some.ensures.cases.0 (c.as_bytes.ensures.value ∙ c.get.ensures)
    (c.hash_others.ensures (before ++ c.as_bytes.result.now) (c.update.ensures before holds))
