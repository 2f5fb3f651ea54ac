-- What is told of a configuration.
use Rattle.std.proofs.Common.{◌≡◌, List, true, false, subst}
use Rattle.std.specs.List.{list_any}
use Rattle.toml.specs.Data.{Members}
use Rattle.doc_server_lint_faults.specs.declared.finding.Finding.{Finding}
use Rattle.doc_server_lint.specs.Findings.{findings_of}
use Rattle.doc_server_lint.specs.Laws.{is_taken}
use Rattle.doc_server_lint.proofs.ClearLaw.{no_fault_is_taken}

-- a document is taken where no finding is a fault
pub clear_is_taken : (document : Members) (found : List Finding) → found ≡ findings_of document
    → list_any (λ finding. finding.is_fault) found ≡ false → is_taken document ≡ true
clear_is_taken document found is none =
    no_fault_is_taken document (subst (λ it. list_any (λ finding. finding.is_fault) it ≡ false) is none)
