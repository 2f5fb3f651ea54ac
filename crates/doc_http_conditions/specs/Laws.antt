-- Laws of conditions.
use Rattle.std.specs.Prelude.{◌≡◌, ◌↔◌, ℕ, List, Bool, true, false, Option, Some, None}
use Rattle.doc_http_conditions.specs.EntityTags.{EntityTag, is_same}
use Rattle.doc_http_conditions.specs.FieldValues.{named_by}
use Rattle.doc_http_conditions.specs.Grammar.{IsValue}
use Rattle.doc_http_conditions.specs.Verdicts.{verdict_of}
use Rattle.doc_http_conditions.specs.declared.comparison.Comparison.TheVariants.{Strong}
use Rattle.doc_http_conditions.specs.declared.named.Named.{Named}
use Rattle.doc_http_conditions.specs.declared.verdict.Verdict.TheVariants.{Holds}

-- a value is read as what the grammar writes it of, and all others are malformed
abbrev pub ReadsTheGrammar : Type 0
ReadsTheGrammar = (text : List ℕ) (named : Named) → IsValue text named ↔ (named_by text ≡ Some named)

-- by the grammar a value has one reading
abbrev pub HasOneReading : Type 0
HasOneReading = (text : List ℕ) (named other : Named) → IsValue text named → IsValue text other → named ≡ other

-- a weak tag is never the same as another, strongly
abbrev pub WeakIsNoMatch : Type 0
WeakIsNoMatch = (tag other : EntityTag) → tag.weak ≡ true → (is_same Strong tag other ≡ false) × (is_same Strong other tag ≡ false)

-- without conditions a request is done, whatever stands
abbrev pub NoneAsked : Type 0
NoneAsked = (reads : Bool) (stands : Option (List ℕ)) → verdict_of reads None None stands ≡ Holds
