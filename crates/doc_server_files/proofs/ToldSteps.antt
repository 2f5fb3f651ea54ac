-- What is told of a configuration.
use Rattle.std.proofs.Common.{◌≡◌, ℕ, List, subst, sym, ◌∙◌}
use Rattle.std.specs.Prelude.{Some, None}
use Rattle.std.proofs.lemmas.Option.{none-some, same_Some}
use Rattle.toml.specs.Data.{Members}
use Rattle.toml.specs.Parse.{parse_document}
use Rattle.doc_server_lint_faults.specs.declared.finding.Finding.{Finding}
use Rattle.doc_server_lint.specs.Faults.{faults_of}
use Rattle.doc_server_lint.specs.Reports.{IsReport}
use Rattle.doc_server_files.specs.ToldFaults.{IsToldFaults}

-- of a text that is no document there is nothing more to tell
pub none_told : (name text lines : List ℕ) → parse_document text ≡ None → IsToldFaults name text lines
none_told name text lines none document is = absurd (none-some document (sym none ∙ is))

-- what is told of the faults of a document is told of the text that it is read of
pub faults_told : (name text lines : List ℕ) (document : Members) (found : List Finding) → parse_document text ≡ Some document
    → found ≡ faults_of document → IsReport name text document found lines → IsToldFaults name text lines
faults_told name text lines document found read is told other is_other =
    subst (λ it. IsReport name text it (faults_of it) lines) (same_Some document other (sym read ∙ is_other))
    (subst (λ it. IsReport name text document it lines) is told)
