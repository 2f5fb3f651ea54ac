-- Runs of characters that may be escaped, step by step.
use Rattle.std.proofs.Common.{◌≡◌, ℕ, Bool, Some, None}
use Rattle.doc_rules.specs.Characters.{Text}
use Rattle.doc_rules.specs.Parsers.{one, ◌or◌}
use Rattle.doc_rules.specs.Destinations.{escaped, many_or_escaped}
use Rattle.doc_rules.proofs.ParserLaws.{Takes, one_takes, or_takes}
use Rattle.doc_rules.proofs.GrammarLaws.{escaped_takes}
use Rattle.doc_lines.proofs.Steps.{repeated_ends, repeated_goes_on}

pub escaped_or_one_takes : (class : ℕ → Bool) → Takes (escaped or one class)
escaped_or_one_takes class = or_takes escaped (one class) escaped_takes (one_takes class)

pub run_ends : (class : ℕ → Bool) (text : Text) → None ≡ (escaped or one class) text → Some text ≡ many_or_escaped class text
unfolding many_or_escaped
run_ends class text e = repeated_ends (escaped or one class) text (escaped_or_one_takes class) e

pub run_goes_on : (class : ℕ → Bool) (text rest : Text) → Some rest ≡ (escaped or one class) text
    → many_or_escaped class text ≡ many_or_escaped class rest
unfolding many_or_escaped
run_goes_on class text rest e = repeated_goes_on (escaped or one class) text rest (escaped_or_one_takes class) e
