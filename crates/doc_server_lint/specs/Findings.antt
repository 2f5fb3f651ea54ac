-- What a document tells: its faults, and then what in it may be meant otherwise.
use Rattle.std.specs.Prelude.{List, ◌++◌}
use Rattle.toml.specs.Data.{Members}
use Rattle.doc_server_lint_faults.specs.declared.finding.Finding.{Finding}
use Rattle.doc_server_lint.specs.Faults.{faults_of}
use Rattle.doc_server_lint.specs.Warnings.{warnings_of}

abbrev pub findings_of : Members → List Finding
findings_of document = faults_of document ++ warnings_of document
