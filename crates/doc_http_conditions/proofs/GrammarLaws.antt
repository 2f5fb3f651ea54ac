-- What is read is what the grammar writes.
use Rattle.std.proofs.Common.{◌≡◌, ℕ, List, Some, sym, ◌∙◌}
use Rattle.std.specs.Prelude.{◌↔◌}
use Rattle.doc_http_conditions.specs.FieldValues.{named_by}
use Rattle.doc_http_conditions.specs.Grammar.{IsValue}
use Rattle.doc_http_conditions.specs.declared.named.Named.{Named}
use Rattle.doc_http_conditions.proofs.ReadingSteps.{value_reads}
use Rattle.doc_http_conditions.proofs.WritingSteps.{value_is, some_same}

pub reads_the_grammar : (text : List ℕ) (named : Named) → IsValue text named ↔ (named_by text ≡ Some named)
reads_the_grammar text named = (value_reads text named, value_is text named)

pub has_one_reading : (text : List ℕ) (named other : Named) → IsValue text named → IsValue text other → named ≡ other
has_one_reading text named other first second =
    some_same named other (sym (value_reads text named first) ∙ value_reads text other second)
