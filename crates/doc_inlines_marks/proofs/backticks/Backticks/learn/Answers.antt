use Rattle.std.proofs.Common.{sym}
use Rattle.doc_inlines_marks.proofs.Sizes.{size_of}
use Rattle.doc_inlines_marks.proofs.backticks.Backticks.learn.Goals as goal

pub returns-clause-learned : goal.returns-clause-learned
returns-clause-learned c = record { all = sym (size_of _ c.utf8.text); places = c.in_ok-learn_places.ensures }
