-- Laws of the front of a text.
use Rattle.std.proofs.Common.{refl}
use Rattle.doc_front.specs.Laws.{NoneKeeps}

pub none_keeps : NoneKeeps
none_keeps text = refl
