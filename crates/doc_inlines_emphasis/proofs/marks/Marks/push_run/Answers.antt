use Rattle.std.proofs.Common.{◌<◌, length, sym, ◌∙◌, subst}
use Rattle.doc_inlines_emphasis.proofs.MarkLaws.{run_some, adds_text, run_made, runs_text, sound_run, places_run}
use Rattle.doc_inlines_emphasis.proofs.marks.Marks.push_run.Goals as goal

pub returns-clause-items : goal.returns-clause-items
returns-clause-items c =
    adds_text c.args.self.now.marks.items c.push_delimiters.new.marks.items c.args.delimiter c.args.text.now c.utf8.text c.requires.text
    c.in_ok-push_delimiters.ensures

pub returns-clause-runs : goal.returns-clause-runs
returns-clause-runs c =
    runs_text c.args.self.now.runs.items c.push.new.self.items c.len-first.result (length c.args.self.now.marks.items) c.args.delimiter
    c.args.text.now c.args.opens c.args.closes
    c.utf8.text c.requires.text (c.len-first.ensures ∙ c.args.self.now.marks.ok.0) c.in_ok-push.ensures.items

pub returns-clause-sound : goal.returns-clause-sound
returns-clause-sound c =
    sound_run c.args.self.now.marks.items c.push_delimiters.new.marks.items c.args.self.now.runs.items c.push.new.self.items
    (run_made c.len-first.result c.args.text.now c.args.delimiter c.args.opens c.args.closes) c.requires.sound
    c.in_ok-push_delimiters.ensures c.in_ok-push.ensures.items
    (c.len-first.ensures ∙ c.args.self.now.marks.ok.0) (run_some c.args.delimiter c.args.text.now c.utf8.text c.requires.text)

pub returns-clause-places : goal.returns-clause-places
returns-clause-places c = λ place h.
    places_run c.args.self.now.marks.items c.push_delimiters.new.marks.items c.args.self.now.runs.items c.push.new.self.items
    (run_made c.len-first.result c.args.text.now c.args.delimiter c.args.opens c.args.closes) place h c.in_ok-push_delimiters.ensures
    c.in_ok-push.ensures.items
    (c.len-first.ensures ∙ c.args.self.now.marks.ok.0) (run_some c.args.delimiter c.args.text.now c.utf8.text c.requires.text)
