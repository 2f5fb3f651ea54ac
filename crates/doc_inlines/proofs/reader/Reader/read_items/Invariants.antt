use Rattle.std.proofs.Common.{◌≡◌, List, length, chars}
use Rattle.doc_rules.specs.Definitions.{Definition}
use Rattle.doc_refs_parts.specs.Targets.{targets_of}
use Rattle.doc_inlines.specs.ReaderSteps.{IsReader, outcome}
use Rattle.doc_inlines.proofs.reader.Reader.read_items.Given as goal

abbrev pub invariant-items : goal.invariant-items
invariant-items l = record {
  sound : IsReader l.self;
  text : l.self.text ≡ l.initial.self.text;
  reads : (definitions : List Definition) → l.refs ≡ targets_of definitions
      → outcome l.entities definitions l.self ≡ outcome l.entities definitions l.initial.self;
}

abbrev pub decreases-items : goal.decreases-items
decreases-items l = length (chars l.self.rest.now)
