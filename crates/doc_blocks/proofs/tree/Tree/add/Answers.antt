use Rattle.std.proofs.Common.{◌∙◌, ap, refl}
use Rattle.doc_blocks_starts.specs.Tags.{leaf_shown, container_shown, tag_shown}
use Rattle.doc_blocks.proofs.TreeLaws.{Children, shows_leaf, shows_start}
use Rattle.doc_blocks.proofs.tree.Tree.add.Goals as goal

pub returns-in_ok-push-in-Leaf : goal.returns-in_ok-push-in-Leaf
unfolding tag_shown
returns-in_ok-push-in-Leaf c =
    let s = c.args.self.now in
    rw c.in-Leaf.is (λ state h. shows_leaf s (record { before = s.before; blocks = c.push.new.self }) state c.in_ok-leaf_of-in-Leaf.field-0
    (leaf_shown c.in-Leaf.leaf) h refl c.in_ok-push-in-Leaf.ensures.items c.in_ok-leaf_of-in-Leaf.ensures)

pub returns-in_ok-push-in-Start : goal.returns-in_ok-push-in-Start
unfolding tag_shown
returns-in_ok-push-in-Start c =
    rw c.in-Start.is (λ state h. shows_start c.args.self.now (record {
      before = c.push-in-Start.new.self;
      blocks =
          c.replace-blocks.new.dest;
    })
    state (container_shown c.in-Start.field-0) c.replace-blocks.result h c.replace-blocks.ensures.value c.in_ok-push-in-Start.ensures.items
    (ap (λ (v : Children). v.items) c.replace-blocks.ensures.after ∙ c.new.ensures.items))

pub returns-in-End : goal.returns-in-End
unfolding tag_shown
returns-in-End c = rw c.in-End.is c.end.ensures
