use Rattle.std.proofs.Common.{◌≡◌, drop}
use Rattle.std.specs.Prelude.{filter}
use Rattle.doc_people.specs.Pages.{has_text}
use Rattle.doc_people_pages.proofs.headings.behind_title.Given as goal

-- no heading so far has a text
abbrev pub invariant-loop-i : goal.invariant-loop-i
invariant-loop-i l = filter has_text (drop l.i l.headings) ≡ filter has_text l.headings
