use Rattle.std.proofs.Common.{◌<◌, ◌∙◌, List, ap, arith, length, refl}
use Rattle.doc_blocks_leaves.specs.Paths.{gone_on}
use Rattle.doc_blocks_starts.specs.Tags.{tags_shown}
use Rattle.doc_blocks_starts.specs.OpenTags.{read}
use Rattle.doc_blocks.specs.Containers.{container_shown}
use Rattle.doc_blocks.specs.StackSteps.{Outer}
use Rattle.doc_blocks.specs.LevelSteps.{stack_of, round}
use Rattle.doc_blocks.specs.declared.levels.Open.{Open}
use Rattle.doc_blocks.proofs.LevelLemmas.{outers_gone, frames_gone, same_item}
use Rattle.doc_blocks.proofs.levels.Levels.go_on_at.Goals as goal

pub returns-clause-stack : goal.returns-clause-stack
returns-clause-stack c =
    let s = c.args.self.now in
    let o = c.index_mut.result.now in
    let within : c.args.place < length s.outer.items = omega arith in
    let same = same_item s.outer.items c.args.place o c.index.result.now within c.index_mut.ensures.value c.index.ensures in
    ap (λ (os : List Outer). record (stack_of s) { outer = os })
    (outers_gone s.outer.items (round s.inner.list (read (tags_shown s.tags.items)).0) c.args.place o
    (record { level = o.level; container = c.gone_on.result }) within c.index_mut.ensures.value refl
    (c.gone_on.ensures ∙ ap (λ (x : Open). gone_on (container_shown x.container)) same))

pub returns-clause-sound : goal.returns-clause-sound
returns-clause-sound c =
    let s = c.args.self.now in
    let h = c.requires.sound in
    let o = c.index_mut.result.now in
    let within : c.args.place < length s.outer.items = omega arith in
    let same = same_item s.outer.items c.args.place o c.index.result.now within c.index_mut.ensures.value c.index.ensures in
    record {
      entries = h.entries;
      last = h.last;
      woven = h.woven;
      fits = rw (frames_gone s.outer.items c.args.place o (record { level = o.level; container = c.gone_on.result })
          c.index_mut.ensures.value refl (c.gone_on.ensures ∙ ap (λ (x : Open). gone_on (container_shown x.container)) same)) h.fits;
    }
