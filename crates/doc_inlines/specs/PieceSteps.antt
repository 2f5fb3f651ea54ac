-- A text that is put into marks piece by piece.
use Rattle.std.specs.Prelude.{◌≡◌, ◌<◌, true, List, ◌++◌, length}
use Rattle.doc_rules.specs.Characters.{Text}
use Rattle.doc_rules.specs.Parsers.{before}
use Rattle.doc_rules.specs.Rests.{IsRest}
use Rattle.doc_inlines_marks.specs.declared.mark_ref.MarkRef.{MarkRef}
use Rattle.doc_inlines_marks.specs.Slices.{AreSlices, is_cut, AreCut}

-- marks come behind the others, whose slices stand in this text one after another, and which are cut
pub record AddsText (old new : List MarkRef) (text : Text) : Type 0 where
  pub added : List MarkRef
  pub behind : new ≡ old ++ added
  pub slices : AreSlices text added
  pub cut : AreCut added

-- a piece of the text stands before this rest, one character at least; HTML writes it as it is, or it is a character alone
pub record IsPiece (text rest : Text) : Type 0 where
  pub behind : IsRest rest text
  pub shorter : length rest < length text
  pub cut : is_cut (before rest text) ≡ true
