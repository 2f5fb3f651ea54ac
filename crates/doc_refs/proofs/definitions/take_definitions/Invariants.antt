use Rattle.std.proofs.Common.{◌≡◌, chars, length}
use denote.Text.{Utf8}
use denote.Shadow.{shadow}
use Rattle.doc_rules.specs.Definitions.{definitions_of}
use Rattle.doc_rules.specs.Rests.{IsRest}
use Rattle.doc_refs_parts.specs.Targets.{targets_of, joined}
use Rattle.doc_refs.proofs.definitions.take_definitions.Given as goal

abbrev pub invariant-definitions : goal.invariant-definitions
invariant-definitions l = record {
  is_text : shadow (Utf8 l.rest);
  end : IsRest (chars l.rest) (chars l.text);
  refs : joined l.refs (targets_of (definitions_of l.entities (chars l.rest)).0) ≡ targets_of (definitions_of l.entities (chars l.text)).0;
  rest : (definitions_of l.entities (chars l.rest)).1 ≡ (definitions_of l.entities (chars l.text)).1;
}

abbrev pub decreases-definitions : goal.decreases-definitions
decreases-definitions l = length (chars l.rest)
