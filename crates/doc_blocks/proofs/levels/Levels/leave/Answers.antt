use Rattle.std.proofs.Common.{◌≡◌, ◌∙◌, ap, refl, [], ◌∷◌, ◌++◌, Option}
use Rattle.std.specs.Prelude.{option_to_list}
use Rattle.doc_rules.specs.Forests.{node}
use Rattle.doc_blocks.specs.Containers.{block_of}
use Rattle.doc_blocks.specs.LevelSteps.{stack_of}
use Rattle.doc_blocks.specs.declared.levels.Open.{Open}
use Rattle.doc_blocks.proofs.LevelLemmas as lemmas
use Rattle.doc_blocks.proofs.levels.Levels.leave.Goals as goal

pub returns-clause-left : goal.returns-clause-left
returns-clause-left c =
    let f = c.finish_list.new.self in
    let e = c.in_ok-finish_list.ensures.stack in
    let h = c.in_ok-finish_list.ensures.sound in
    let o = c.unwrap-container.result in
    let popped : f.outer.items ≡ c.pop.new.self.items ++ o ∷ [] =
    c.pop.ensures.items ∙ ap (λ (r : Option Open). c.pop.new.self.items ++ option_to_list r) c.unwrap-container.ensures in
    lemmas.leaves_left f.outer.items c.pop.new.self.items f.inner.gap f.inner.list f.blank o c.replace-inside.result f.inner
    c.replace-inside.new.dest f.tags.items c.push.new.self.items c.block.result h.entries h.last (stack_of c.args.self.now) e
    c.in_ok-finish_list.ensures.bare h.woven h.fits popped c.replace-inside.ensures.value c.replace-inside.ensures.after c.block.ensures
    c.in_ok-push.ensures.items refl

pub returns-clause-sound : goal.returns-clause-sound
returns-clause-sound c =
    let f = c.finish_list.new.self in
    let h = c.in_ok-finish_list.ensures.sound in
    let o = c.unwrap-container.result in
    let popped : f.outer.items ≡ c.pop.new.self.items ++ o ∷ [] =
    c.pop.ensures.items ∙ ap (λ (r : Option Open). c.pop.new.self.items ++ option_to_list r) c.unwrap-container.ensures in
    let last = lemmas.last_of f.outer.items c.pop.new.self.items f.inner.list o h.entries c.in_ok-finish_list.ensures.bare h.fits popped in
    record {
      entries = last.1.0;
      last = node last.0 (block_of o.container) h.last;
      woven = lemmas.container_ends f.tags.items c.push.new.self.items c.block.result (block_of o.container) h.entries last.0 h.last
          last.1.0
          h.woven last.1.1.0 c.block.ensures c.in_ok-push.ensures.items;
      fits = rw c.replace-inside.ensures.after last.1.1.1.1;
    }
