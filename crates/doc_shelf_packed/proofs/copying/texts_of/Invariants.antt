use Rattle.std.proofs.Common.{◌≡◌, take}
use Rattle.doc_shelf_packed.proofs.copying.texts_of.Given as goal

-- the texts so far
abbrev pub invariant-loop-text : goal.invariant-loop-text
invariant-loop-text l = l.copies.items ≡ take l.text-index l.texts
