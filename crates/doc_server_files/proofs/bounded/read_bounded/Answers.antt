use Rattle.std.proofs.Common.{subst}
use Rattle.doc_server_files.specs.Rows.{HasOthers}
use Rattle.doc_server_files.proofs.bounded.read_bounded.Goals as goal

pub returns : goal.returns
returns g c = record {
  document = c.in_ok-document.ensures.document;
  own = c.in_ok-document.ensures.own;
  is_own = c.in_ok-document.ensures.is_own;
  others = subst (λ rows. HasOthers rows c.in_ok-bounded.bounded.site.pages.config.pages) c.in_ok-document.ensures.pages c.in_ok-bounded.ensures;
}
