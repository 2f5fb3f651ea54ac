use Rattle.std.proofs.Common.{◌≡◌, chars, length}
use denote.Text.{Utf8}
use denote.Shadow.{shadow}
use Rattle.doc_rules.specs.Inlines.{literals, onto}
use Rattle.doc_rules.specs.Parsers.{before}
use Rattle.doc_rules.specs.Rests.{IsRest}
use Rattle.doc_inlines_emphasis.specs.Views.{items_of}
use Rattle.doc_inlines.specs.DraftSteps.{IsDraft, made_of}
use Rattle.doc_inlines.specs.PieceSteps.{AddsText}
use Rattle.doc_inlines.proofs.draft.Draft.put_text.Given as goal

abbrev pub invariant-pieces : goal.invariant-pieces
invariant-pieces l = record {
  is_text : shadow (Utf8 l.rest);
  rest : IsRest (chars l.rest) (chars l.text);
  items : AddsText (items_of l.initial.self.marks) (items_of l.self.marks) (before (chars l.rest) (chars l.text));
  brackets : l.self.brackets.items ≡ l.initial.self.brackets.items;
  made : made_of l.self ≡ onto (literals (before (chars l.rest) (chars l.text))) (made_of l.initial.self);
  sound : IsDraft l.self;
}

abbrev pub decreases-pieces : goal.decreases-pieces
decreases-pieces l = length (chars l.rest)
