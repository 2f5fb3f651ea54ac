use Rattle.std.proofs.Common.{sym, subst, arith, Option}
use Rattle.doc_rules.specs.Forests.{node}
use Rattle.doc_blocks_starts.specs.Tags.{tags_shown}
use Rattle.doc_blocks_starts.specs.OpenTags.{read}
use Rattle.doc_blocks.specs.LevelSteps.{list_of, LevelFits, AreSound, frames_of}
use Rattle.doc_blocks.specs.declared.levels.OpenList.{OpenList}
use Rattle.doc_blocks.proofs.LevelLemmas.{stack_bare, stack_listed, first_fits, list_ends, starts_within}
use Rattle.doc_blocks.proofs.levels.Levels.finish_list.Goals as goal

pub returns-in-None-clause-stack : goal.returns-in-None-clause-stack
returns-in-None-clause-stack c =
    let s = c.args.self.now in
    stack_bare s.outer.items s.inner.gap s.inner.list c.take.new.self s.blank (read (tags_shown s.tags.items))
    (sym c.in-None.ensures.value) c.in-None.ensures.after

pub index_mut-requires : goal.index_mut-requires
index_mut-requires c =
    let s = c.args.self.now in
    let l = c.in-Some.list in
    let h = c.requires in
    let F : Option OpenList → Type 0 = λ o. LevelFits o h.entries (AreSound (frames_of s.outer.items)) in
    let first = first_fits l h.entries (AreSound (frames_of s.outer.items)) (subst F (sym c.in-Some.ensures.value) h.fits) in
    omega (arith, starts_within s.tags.items l h.entries first.1.0 first.0 h.last h.woven first.1.1.0 first.1.1.1.0)

pub returns-clause-stack : goal.returns-clause-stack
returns-clause-stack c =
    let s = c.args.self.now in
    let l = c.in-Some.list in
    let h = c.requires in
    let F : Option OpenList → Type 0 = λ o. LevelFits o h.entries (AreSound (frames_of s.outer.items)) in
    let first = first_fits l h.entries (AreSound (frames_of s.outer.items)) (subst F (sym c.in-Some.ensures.value) h.fits) in
    stack_listed s.outer.items s.inner.gap s.inner.list c.take.new.self l s.blank (tags_shown s.tags.items) (tags_shown
    c.push.new.self.items)
    h.entries first.0 h.last first.1.0 c.in-Some.ensures.value c.in-Some.ensures.after h.woven first.1.1.0
    (list_ends s.tags.items c.push.new.self.items c.block-block.result l h.entries first.0 h.last first.1.0 h.woven first.1.1.0
    first.1.1.1.0 c.block-block.ensures c.in_ok-push.ensures.items)

pub returns-clause-sound : goal.returns-clause-sound
returns-clause-sound c =
    let s = c.args.self.now in
    let l = c.in-Some.list in
    let h = c.requires in
    let F : Option OpenList → Type 0 = λ o. LevelFits o h.entries (AreSound (frames_of s.outer.items)) in
    let first = first_fits l h.entries (AreSound (frames_of s.outer.items)) (subst F (sym c.in-Some.ensures.value) h.fits) in
    record {
      entries = first.1.0;
      last = node first.0 (list_of l l.tight) h.last;
      woven = list_ends s.tags.items c.push.new.self.items c.block-block.result l h.entries first.0 h.last first.1.0 h.woven first.1.1.0
          first.1.1.1.0 c.block-block.ensures c.in_ok-push.ensures.items;
      fits = rw c.in-Some.ensures.after first.1.1.1.1;
    }
