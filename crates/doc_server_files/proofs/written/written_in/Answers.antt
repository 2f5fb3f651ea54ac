use Rattle.std.proofs.Common.{refl}
use Rattle.toml.specs.View.{table_view}
use Rattle.doc_server_files.proofs.written.written_in.Goals as goal

pub returns-clause-own : goal.returns-clause-own
returns-clause-own c = record {
  document = table_view c.args.document.now.table;
  own = c.in_ok-config.config;
  is_own = c.in_ok-config.ensures;
  pages = refl;
}
