use Rattle.std.proofs.Common.{ap, ◌∙◌}
use Rattle.std.proofs.lemmas.List.{take_all}
use Rattle.doc_index_tables.specs.Maps.{shown}
use Rattle.doc_index_tables.proofs.PackedSteps.{entries_more}
use Rattle.doc_index_tables.proofs.packed.Packed.of_entries.Goals as goal

pub loop-text-preserved : goal.loop-text-preserved
loop-text-preserved c = record {
  packed = c.in_ok-push.ensures.packed;
  front = entries_more c.args.entries.now c.loop-text.text-index _ _ _ c.loop-text-test.true c.loop-text.invariant.front
      c.in_ok-push.ensures.added;
}

pub returns : goal.returns
returns c = c.loop-text.invariant.front ∙ ap shown (take_all c.loop-text.text-index c.args.entries.now c.loop-text-test.false)
