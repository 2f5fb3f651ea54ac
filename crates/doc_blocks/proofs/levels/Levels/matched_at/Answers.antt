use Rattle.std.proofs.Common.{◌<◌, arith, length}
use Rattle.doc_blocks_starts.specs.Tags.{tags_shown}
use Rattle.doc_blocks_starts.specs.OpenTags.{read}
use Rattle.doc_blocks.specs.Containers.{container_shown}
use Rattle.doc_blocks.specs.LevelSteps.{round}
use Rattle.doc_blocks.proofs.LevelLemmas.{container_at}
use Rattle.doc_blocks.proofs.levels.Levels.matched_at.Goals as goal

pub returns-clause-inside : goal.returns-clause-inside
returns-clause-inside c =
    let s = c.args.self.now in
    let o = c.index.result.now in
    let within : c.args.place < length s.outer.items = omega arith in
    let at = container_at s.outer.items (round s.inner.list (read (tags_shown s.tags.items)).0) c.args.place o within c.index.ensures in
    record { here = (at.0, container_shown o.container); split = at.1; found_is = c.matched.ensures.inside }
