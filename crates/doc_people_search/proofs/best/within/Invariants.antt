use Rattle.std.proofs.Common.{◌≡◌, ◌++◌, drop, take}
use Rattle.doc_people.specs.Limits.{read_limit}
use Rattle.doc_people.specs.Snippets.{within}
use Rattle.doc_people_search.proofs.best.within.Given as goal

-- the texts so far are read, and of the others those for which there is room
abbrev pub invariant-loop-i : goal.invariant-loop-i
invariant-loop-i l = within read_limit l.texts ≡ take l.i l.texts ++ within l.room (drop l.i l.texts)
