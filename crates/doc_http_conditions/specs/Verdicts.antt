-- What the conditions of a request come to (RFC 9110, sections 13.1.1, 13.1.2 and 13.2.2).
use Rattle.std.specs.Prelude.{ℕ, List, Bool, option_map, Option, Some, None, codes, if◌then◌else◌}
use Rattle.doc_http_conditions.specs.Lists.{has_tag}
use Rattle.doc_http_conditions.specs.FieldValues.{named_by}
use Rattle.doc_http_conditions.specs.declared.comparison.Comparison.TheVariants.{Strong, Weak}
use Rattle.doc_http_conditions.specs.declared.named.Named.{Named}
use Rattle.doc_http_conditions.specs.declared.named.Named.TheVariants.{Any, OneOf}
use Rattle.doc_http_conditions.specs.declared.verdict.Field.{Field}
use Rattle.doc_http_conditions.specs.declared.verdict.Field.TheVariants.{IfMatch, IfNoneMatch}
use Rattle.doc_http_conditions.specs.declared.verdict.Failure.{Failure}
use Rattle.doc_http_conditions.specs.declared.verdict.Failure.TheVariants.{NoPage, OtherVersion, APage, ThisVersion}
use Rattle.doc_http_conditions.specs.declared.verdict.Verdict.{Verdict}
use Rattle.doc_http_conditions.specs.declared.verdict.Verdict.TheVariants.{Holds, Unread, Fails, Unchanged}

-- whom a field names: Some None where it isn't sent, None where it is malformed
abbrev pub field_names : Option (List ℕ) → Option (Option Named)
field_names None = Some None
field_names (Some value) = option_map Some (named_by value)

-- why If-Match fails, where it does: no page stands, or its tag is not, strongly, one of the list (section 13.1.1)
abbrev pub unmatched : Option Named → Option (List ℕ) → Option Failure
unmatched None stands = None
unmatched (Some named) None = Some NoPage
unmatched (Some Any) (Some tag) = None
unmatched (Some (OneOf tags)) (Some tag) = if has_tag Strong tag tags then None else Some OtherVersion

-- why If-None-Match fails, where it does: a page stands, and any is named, or its tag is, weakly, one of the list
-- (section 13.1.2)
abbrev pub matched : Option Named → Option (List ℕ) → Option Failure
matched None stands = None
matched (Some named) None = None
matched (Some Any) (Some tag) = Some APage
matched (Some (OneOf tags)) (Some tag) = if has_tag Weak tag tags then Some ThisVersion else None

-- If-Match is judged first (section 13.2.2); what only reads is not refused by If-None-Match, but told that nothing is new
abbrev pub judged : Bool → Option Failure → Option Failure → Verdict
judged reads (Some failure) other = Fails failure
judged reads None (Some failure) = if reads then Unchanged else Fails failure
judged reads None None = Holds

-- both are read before either is judged, this project's choice as is that a malformed one is refused
abbrev pub verdict_by : Bool → Option (Option Named) → Option (Option Named) → Option (List ℕ) → Verdict
verdict_by reads None other stands = Unread IfMatch
verdict_by reads (Some if_match) None stands = Unread IfNoneMatch
verdict_by reads (Some if_match) (Some if_none_match) stands = judged reads (unmatched if_match stands) (matched if_none_match stands)

-- what a request's conditions come to: whether it only reads, the values of its If-Match and of its If-None-Match fields
-- where it has such, and the tag of the page that stands
unfoldable pub verdict_of : Bool → Option (List ℕ) → Option (List ℕ) → Option (List ℕ) → Verdict
verdict_of reads if_match if_none_match stands = verdict_by reads (field_names if_match) (field_names if_none_match) stands

-- ---- whys, this project's choice

abbrev pub why_unread : Field → List ℕ
why_unread IfMatch = codes "If-Match is neither * nor a list of entity tags"
why_unread IfNoneMatch = codes "If-None-Match is neither * nor a list of entity tags"

abbrev pub why_failed : Failure → List ℕ
why_failed NoPage = codes "no page stands there"
why_failed OtherVersion = codes "another version of the page stands there"
why_failed APage = codes "a page stands there"
why_failed ThisVersion = codes "this version of the page stands there"
