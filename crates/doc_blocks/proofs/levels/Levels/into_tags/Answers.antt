use Rattle.std.proofs.Common.{◌≡◌, ◌∙◌, ap, sym, arith, length, List}
use Rattle.std.proofs.Common.{Vec, Global}
use Rattle.doc_blocks_starts.specs.Tags.{tags_of, tags_shown}
use Rattle.doc_blocks_starts.specs.OpenTags.{Entry, open_tags}
use Rattle.doc_blocks.specs.StackSteps.{Stack}
use Rattle.doc_blocks.specs.LevelSteps.{AreSound, frames_of}
use Rattle.doc_blocks.specs.declared.levels.Open.{Open}
use Rattle.doc_blocks.proofs.LevelLemmas.{bare_fits, bare_blocks, none_sound}
use Rattle.doc_blocks.proofs.levels.Levels.into_tags.Goals as goal

pub returns : goal.returns
unfolding open_tags
returns c =
    let f = c.finish_list.new.self in
    let e = c.in_ok-finish_list.ensures in
    let h = e.sound in
    let none : length f.outer.items ≡ 0 = ap (λ (v : Vec Open Global). length v.items) e.outer
    ∙ omega (arith, c.requires.closed) in
    let nothing = none_sound f.outer.items h.entries none (bare_fits f.inner.list h.entries (AreSound (frames_of f.outer.items)) e.bare
    h.fits)
    in
    h.woven
    ∙ (ap (λ (es : List Entry). open_tags es h.last) nothing
    ∙ ap tags_of (sym (bare_blocks f.outer.items f.inner.gap f.inner.list f.blank (tags_shown f.tags.items) h.entries h.last e.bare h.woven)
    ∙ ap (λ (s : Stack). s.inner.blocks) e.stack))
