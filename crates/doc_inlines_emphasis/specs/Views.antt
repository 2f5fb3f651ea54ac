-- The marks made so far and the runs among them, as the rules' emphasis speaks of them.
use Rattle.std.specs.Prelude.{ℕ, ◌≤◌, List, length, map, take, drop}
use Rattle.doc_rules.specs.Inlines.{Inline}
use Rattle.doc_inlines_emphasis.specs.Marks.{Placed, ArePlaced, seen}
use Rattle.doc_inlines_emphasis.specs.Marks as delimiters
use Rattle.doc_inlines_marks.specs.declared.mark_ref.MarkRef.{MarkRef}
use Rattle.doc_inlines_marks.specs.Views.{inlines_in}
use Rattle.doc_inlines_emphasis.specs.declared.marks.Marks.{Marks}
use Rattle.doc_inlines_emphasis.specs.declared.marks.Place.{Place}
use Rattle.doc_inlines_emphasis.specs.RunSteps.{all_placed}

-- what each of the marks stands for
abbrev pub marks_shown : List MarkRef → delimiters.Marks
marks_shown items = map inlines_in items

abbrev pub items_of : Marks → List MarkRef
items_of m = m.marks.items

abbrev pub marks_in : Marks → delimiters.Marks
marks_in m = marks_shown (items_of m)

abbrev pub runs_in : Marks → List Placed
runs_in m = all_placed m.runs.items

-- what is seen in the marks from one place up to another, the delimiters of each of these runs as that run
abbrev pub shown_between : Marks → ℕ → ℕ → List Placed → List Inline
shown_between m a b runs = seen (marks_in m) a b runs

-- the runs stand one after another among the marks
abbrev pub IsSound : Marks → Type 0
IsSound m = ArePlaced (marks_in m) 0 (length (items_of m)) (runs_in m)

-- so many of the marks and so many of the runs stand before this place, and the others behind it
pub record StandsApart (items : List MarkRef) (runs : List Placed) (place : Place) : Type 0 where
  pub marks : place.marks ≤ length items
  pub runs_fit : place.runs ≤ length runs
  pub before : ArePlaced (marks_shown items) 0 place.marks (take place.runs runs)
  pub behind : ArePlaced (marks_shown items) place.marks (length items) (drop place.runs runs)

-- a place among the marks
abbrev pub IsPlace : Marks → Place → Type 0
IsPlace m place = StandsApart (items_of m) (runs_in m) place
