use Rattle.doc_blocks_starts.specs.Tags.{tags_shown}
use Rattle.doc_blocks_starts.specs.OpenTags.{read}
use Rattle.doc_blocks.proofs.LevelLemmas.{stack_loose, not_loose}
use Rattle.doc_blocks.proofs.levels.Levels.loosen.Goals as goal

pub returns-in-Some-clause-stack : goal.returns-in-Some-clause-stack
returns-in-Some-clause-stack c =
    let s = c.args.self.now in
    stack_loose s.outer.items s.inner.gap s.inner.list s.blank c.args.gap c.in-Some.list (read (tags_shown s.tags.items)) c.in-Some.is

pub returns-in_default-clause-stack : goal.returns-in_default-clause-stack
returns-in_default-clause-stack c =
    let s = c.args.self.now in
    not_loose s.outer.items s.inner.gap s.inner.list s.blank c.args.gap (read (tags_shown s.tags.items)) c.in_default.is
