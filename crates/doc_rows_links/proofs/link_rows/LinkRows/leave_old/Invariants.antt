use Rattle.std.specs.Prelude.{map as mapped, option_copied, string_bytes}
use Rattle.doc_rows_links.specs.LinkSteps.{dropped_at}
use Rattle.doc_rows_links.proofs.PlaceSteps.{HasLeft}
use Rattle.doc_rows_links.proofs.link_rows.LinkRows.leave_old.Given as goal

abbrev pub invariant-loop-target : goal.invariant-loop-target
invariant-loop-target l =
    HasLeft l.change.old.now (dropped_at (option_copied l.change.before) l.change.groups.now l.change.new.now) l.fn.self l.path
    (mapped string_bytes l.target-iterator) l.self
