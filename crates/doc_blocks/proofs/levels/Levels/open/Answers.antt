use Rattle.std.proofs.Common.{◌∙◌, ap, List, [], ◌∷◌, ◌++◌}
use Rattle.doc_rules.specs.Forests.{none}
use Rattle.doc_blocks_starts.specs.Tags.{Tag, Start, tags_of, tags_shown}
use Rattle.doc_blocks_starts.specs.OpenTags.{open_tags}
use Rattle.doc_blocks.specs.Containers.{block_of}
use Rattle.doc_blocks.proofs.LevelLemmas.{start_pushed, stack_opened, sound_opened}
use Rattle.doc_blocks.proofs.levels.Levels.open.Goals as goal

pub returns-clause-stack : goal.returns-clause-stack
returns-clause-stack c =
    let s = c.args.self.now in
    let h = c.requires.sound in
    stack_opened s.outer.items c.push-2.new.self.items c.replace-level.result s.inner c.replace-level.new.dest c.args.container s.blank
    (tags_shown s.tags.items) (tags_shown c.push.new.self.items) h.entries h.last
    c.replace-level.ensures.value c.replace-level.ensures.after c.in_ok-push-2.ensures.items h.woven
    (start_pushed s.tags.items c.push.new.self.items c.block.result (block_of c.args.container) c.block.ensures c.in_ok-push.ensures.items)

pub returns-clause-sound : goal.returns-clause-sound
unfolding open_tags tags_of
returns-clause-sound c =
    let s = c.args.self.now in
    let h = c.requires.sound in
    let block = block_of c.args.container in
    record {
      entries = (block, h.last) ∷ h.entries;
      last = none;
      woven = start_pushed s.tags.items c.push.new.self.items c.block.result block c.block.ensures c.in_ok-push.ensures.items
          ∙ ap (λ (t : List Tag). t ++ Start block ∷ []) h.woven;
      fits = rw c.replace-level.ensures.after (sound_opened s.outer.items c.push-2.new.self.items c.replace-level.result s.inner
          c.args.container h.last h.entries c.replace-level.ensures.value c.in_ok-push-2.ensures.items c.requires.suits h.fits);
    }
