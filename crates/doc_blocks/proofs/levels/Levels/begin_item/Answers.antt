use Rattle.std.proofs.Common.{◌∙◌, ap, arith, true, refl, List, [], ◌∷◌, ◌++◌}
use Rattle.doc_rules.specs.Forests.{none}
use Rattle.doc_blocks_starts.specs.Tags.{Tag, Start, tags_of, tags_shown}
use Rattle.doc_blocks_starts.specs.OpenTags.{open_tags}
use Rattle.doc_blocks.specs.StackSteps.{block_begun}
use Rattle.doc_blocks.specs.LevelSteps.{stack_of, list_of, AreSound, frames_of}
use Rattle.doc_blocks.specs.declared.levels.Levels.{Levels}
use Rattle.doc_blocks.specs.declared.levels.OpenList.{OpenList}
use Rattle.doc_blocks.proofs.LevelLemmas.{start_pushed, stack_list_begun, tags_count, bare_fits}
use Rattle.doc_blocks.proofs.levels.Levels.begin_item.Goals as goal

pub returns-clause-stack : goal.returns-clause-stack
returns-clause-stack c =
    let b = c.begin_block.new.self in
    let h = c.in_ok-begin_block.ensures.sound in
    let l : OpenList = record { kind = c.args.kind; start = c.args.start; tight = true; place = c.len.result } in
    let no = c.goes_on_with.ensures.no c.if-goes_on_with.false in
    stack_list_begun b.outer.items b.inner.gap b.inner.list b.blank l (stack_of c.args.self.now) (tags_shown b.tags.items)
    (tags_shown c.push.new.self.items) h.entries h.last c.in_ok-begin_block.ensures.bare h.woven
    (start_pushed b.tags.items c.push.new.self.items c.block.result (list_of l true) c.block.ensures c.in_ok-push.ensures.items) refl
    (c.in_ok-begin_block.ensures.stack ∙ ap (λ (x : Levels). block_begun (stack_of x)) no.0) no.1

pub returns-clause-sound : goal.returns-clause-sound
unfolding open_tags tags_of
returns-clause-sound c =
    let b = c.begin_block.new.self in
    let h = c.in_ok-begin_block.ensures.sound in
    let l : OpenList = record { kind = c.args.kind; start = c.args.start; tight = true; place = c.len.result } in
    record {
      entries = (list_of l true, h.last) ∷ h.entries;
      last = none;
      woven = start_pushed b.tags.items c.push.new.self.items c.block.result (list_of l true) c.block.ensures c.in_ok-push.ensures.items
          ∙ ap (λ (t : List Tag). t ++ Start (list_of l true) ∷ []) h.woven;
      fits = (
        refl,
        (
          omega (arith, tags_count b.tags.items h.entries h.last h.woven),
          bare_fits b.inner.list h.entries (AreSound (frames_of b.outer.items)) c.in_ok-begin_block.ensures.bare h.fits,
        ),
      );
    }
