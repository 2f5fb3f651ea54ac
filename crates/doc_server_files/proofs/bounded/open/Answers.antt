use Rattle.std.proofs.Common.{subst, sym}
use Rattle.doc_server_files.specs.Rows.{IsOwn}
use Rattle.doc_server_files.proofs.bounded.open.Goals as goal

pub returns : goal.returns
returns g c = subst IsOwn (sym c.in_ok-opened.ensures) c.in_ok-document.ensures
