use Rattle.std.proofs.Common.{◌<◌, sym, subst, take, length, arith}
use Rattle.doc_blocks_starts.specs.Tags.{tags_shown}
use Rattle.doc_blocks_starts.specs.OpenTags.{Open, read}
use Rattle.doc_blocks.specs.TreeSteps.{Shows}
use Rattle.doc_blocks.proofs.TreeLaws.{read_more}
use Rattle.doc_blocks.proofs.tree.tree_of.Goals as goal

pub loop-tag-preserved : goal.loop-tag-preserved
loop-tag-preserved c =
    let i = c.loop-tag.tag-index in
    let tags = c.args.tags.now in
    let within : i < length tags = omega arith in
    let S : Open → Type 0 = λ state. Shows c.add.new.self state in
    record {
      shows = subst S (sym (read_more tags i _ within)) (c.in_ok-add.ensures (read (tags_shown (take i tags))) c.loop-tag.invariant.shows);
    }
