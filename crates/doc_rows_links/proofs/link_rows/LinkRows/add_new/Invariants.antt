use Rattle.std.specs.Prelude.{map as mapped, option_copied, string_bytes}
use Rattle.doc_rows_links.specs.LinkSteps.{added_at}
use Rattle.doc_rows_links.proofs.PlaceSteps.{HasCome}
use Rattle.doc_rows_links.proofs.link_rows.LinkRows.add_new.Given as goal

abbrev pub invariant-loop-target : goal.invariant-loop-target
invariant-loop-target l =
    HasCome l.change.new.now (added_at (option_copied l.change.before) l.change.old.now l.change.groups.now) l.fn.self l.path
    (mapped string_bytes l.target-iterator) l.self
