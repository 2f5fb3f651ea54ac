-- What is told of a configuration that stops a server.
use Rattle.std.specs.Prelude.{◌≡◌, ℕ, List, Some}
use Rattle.toml.specs.Data.{Members}
use Rattle.toml.specs.Parse.{parse_document}
use Rattle.doc_server_lint.specs.Faults.{faults_of}
use Rattle.doc_server_lint.specs.Reports.{IsReport}

-- Lines that tell the faults of a text, where it is a document.
abbrev pub IsToldFaults : List ℕ → List ℕ → List ℕ → Type 0
IsToldFaults name text lines =
    (document : Members) → parse_document text ≡ Some document → IsReport name text document (faults_of document) lines
