use Rattle.std.proofs.Common.{◌∙◌}
use Rattle.doc_inlines_emphasis.proofs.WrapLaws.{passed_part, Wraps, wraps, wrap_runs, wrap_emphasis, wrap_sound, wrap_place, kept_front}
use Rattle.doc_inlines_emphasis.proofs.marks.Marks.wrap.Goals as goal

pub pass-requires : goal.pass-requires
pass-requires c =
    passed_part c.args.self.now.marks.items c.args.self.now.runs.items c.deref_mut.result.now c.args.from c.deref_mut.ensures.value
    c.requires

made : (c : goal.After-truncate) →
    Wraps c.args.self.now.marks.items c.pass.new.marks.items c.args.self.now.runs.items c.truncate.new.self.items c.args.from
made c =
    wraps c.args.self.now.marks.items c.pass.new.marks.items c.args.self.now.runs.items c.deref_mut.result.now c.truncate.new.self.items
    c.args.from c.deref_mut.ensures.value c.requires c.in_ok-pass.ensures
    (c.truncate.ensures.items
    ∙ kept_front c.args.from.runs c.args.self.now.runs.len c.deref_mut.result.now c.args.self.now.runs.items _ _
    c.deref_mut.ensures.value c.args.self.now.runs.ok.0 c.requires.runs_fit)

pub returns-clause-size : goal.returns-clause-size
returns-clause-size c = (made c).wrapped.keeps.size

pub returns-clause-before : goal.returns-clause-before
returns-clause-before c = (made c).wrapped.keeps.front

pub returns-clause-runs : goal.returns-clause-runs
returns-clause-runs c =
    wrap_runs c.args.self.now.marks.items c.pass.new.marks.items c.args.self.now.runs.items
    c.truncate.new.self.items c.args.from (made c)

pub returns-clause-emphasis : goal.returns-clause-emphasis
returns-clause-emphasis c =
    wrap_emphasis c.args.self.now.marks.items c.pass.new.marks.items c.args.self.now.runs.items
    c.truncate.new.self.items c.args.from (made c)

pub returns-clause-slices : goal.returns-clause-slices
returns-clause-slices c = (made c).wrapped.keeps.slices

pub returns-clause-cut : goal.returns-clause-cut
returns-clause-cut c = (made c).wrapped.keeps.cut

pub returns-clause-sound : goal.returns-clause-sound
returns-clause-sound c =
    wrap_sound c.args.self.now.marks.items c.pass.new.marks.items c.args.self.now.runs.items
    c.truncate.new.self.items c.args.from (made c)

pub returns-clause-places : goal.returns-clause-places
returns-clause-places c =
    wrap_place c.args.self.now.marks.items c.pass.new.marks.items c.args.self.now.runs.items
    c.truncate.new.self.items c.args.from (made c)
