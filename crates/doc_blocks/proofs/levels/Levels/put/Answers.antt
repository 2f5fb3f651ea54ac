use Rattle.std.proofs.Common.{◌∙◌, ap, sym, List, [], ◌∷◌, ◌++◌, Option}
use Rattle.doc_rules.specs.Forests.{◌▹◌}
use Rattle.doc_blocks_leaves.specs.Paths as paths
use Rattle.doc_blocks_starts.specs.Tags.{Tag, OneLeaf, leaf_shown, tags_shown}
use Rattle.doc_blocks_starts.specs.declared.tag.LeafBlock.{LeafBlock}
use Rattle.doc_blocks_starts.proofs.TagLaws.{open_leaf}
use Rattle.doc_blocks_leaves.specs.Views.{with_block}
use Rattle.doc_blocks.specs.StackSteps.{with_inner_blocks}
use Rattle.doc_blocks.specs.LevelSteps.{stack_of}
use Rattle.doc_blocks.proofs.LevelLemmas.{leaf_pushed, stack_pushed, put_behind}
use Rattle.doc_blocks.proofs.levels.Levels.put.Goals as goal

pub returns-in_ok-push-clause-stack : goal.returns-in_ok-push-clause-stack
unfolding with_block
returns-in_ok-push-clause-stack c =
    let f = c.finish_list.new.self in
    let h = c.in_ok-finish_list.ensures.sound in
    let leaf = leaf_shown c.in-Some.leaf in
    put_behind (stack_of c.args.self.now) _ (stack_of f) leaf _ c.in_ok-finish_list.ensures.stack
    (stack_pushed f.outer.items f.inner.gap f.inner.list f.blank (tags_shown f.tags.items) (tags_shown c.push.new.self.items) h.entries
    h.last
    leaf c.in_ok-finish_list.ensures.bare h.woven
    (leaf_pushed f.tags.items c.push.new.self.items c.in-Some.leaf c.in_ok-push.ensures.items))
    ∙ ap (λ (l : Option LeafBlock). with_inner_blocks (stack_of c.args.self.now)
    (with_block l (paths.finished (stack_of c.args.self.now).inner))) (sym c.in-Some.is)

pub returns-in_ok-push-clause-sound : goal.returns-in_ok-push-clause-sound
returns-in_ok-push-clause-sound c =
    let f = c.finish_list.new.self in
    let h = c.in_ok-finish_list.ensures.sound in
    let leaf = leaf_shown c.in-Some.leaf in
    record {
      entries = h.entries;
      last = h.last ▹ leaf;
      woven = leaf_pushed f.tags.items c.push.new.self.items c.in-Some.leaf c.in_ok-push.ensures.items
          ∙ (ap (λ (t : List Tag). t ++ OneLeaf leaf ∷ []) h.woven ∙ open_leaf h.entries h.last leaf);
      fits = h.fits;
    }
