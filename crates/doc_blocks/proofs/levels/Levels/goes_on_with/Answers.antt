use Rattle.std.proofs.Common.{◌∙◌, sym}
use Rattle.doc_blocks_starts.specs.Items.{kind_of}
use Rattle.doc_blocks_starts.specs.Tags.{tags_shown}
use Rattle.doc_blocks_starts.specs.OpenTags.{read}
use Rattle.doc_blocks.proofs.LevelLemmas.{stack_going_on}
use Rattle.doc_blocks.proofs.levels.Levels.goes_on_with.Goals as goal

pub returns-clause-yes : goal.returns-clause-yes
returns-clause-yes c =
    let s = c.args.self.now in
    λ _ start. stack_going_on s.outer.items s.inner.gap s.inner.list s.blank c.in-Some.list (kind_of c.args.kind) start
    (read (tags_shown s.tags.items)) c.in-Some.is (sym c.is_same.ensures ∙ c.if-not-is_same.false)
