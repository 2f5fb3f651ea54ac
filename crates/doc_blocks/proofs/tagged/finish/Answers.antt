use Rattle.std.proofs.Common.{◌∙◌, refl, ap}
use Rattle.doc_rules.specs.Blocks.{Blocks}
use Rattle.doc_refs_parts.specs.Targets.{Targets}
use Rattle.doc_blocks_leaves.specs.Paths.{finished}
use Rattle.doc_blocks_starts.specs.Tags.{tags_of}
use Rattle.doc_blocks.specs.BuilderSteps.{state_of}
use Rattle.doc_blocks.specs.TaskSteps.{tasks_among}
use Rattle.doc_blocks.proofs.TaskLaws.{tasks_among_are}
use Rattle.doc_blocks.proofs.LeafLaws as leaves
use Rattle.doc_blocks.proofs.tagged.finish.Goals as goal

pub returns-clause-tags : goal.returns-clause-tags
returns-clause-tags c =
    let m = state_of c.close_to.new.self in
    c.with_tasks.ensures ∙ ap (tasks_among c.args.entities.now) c.in_ok-into_tags.ensures
    ∙ tasks_among_are c.args.entities.now (finished m.stack.inner)
    ∙ ap (λ (d : Blocks × Targets). tags_of d.0)
    (leaves.nothing_left c.args.entities.now (state_of c.args.builder) m _ c.in_ok-close_to.ensures.state refl)

pub returns-clause-refs : goal.returns-clause-refs
returns-clause-refs c =
    let m = state_of c.close_to.new.self in
    ap (λ (d : Blocks × Targets). d.1)
    (leaves.nothing_left c.args.entities.now (state_of c.args.builder) m _ c.in_ok-close_to.ensures.state refl)
