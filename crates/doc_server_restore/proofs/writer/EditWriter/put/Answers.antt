use Rattle.std.proofs.Common.{sym, subst, ◌∙◌, ap, ◌++◌}
use Rattle.doc_server_journal_records.specs.Records.{IsPlain}
use Rattle.doc_store.specs.Store.{set_page}
use Rattle.doc_server_script.specs.PageLines.{line_of}
use Rattle.doc_server_script.proofs.PlainLines.{line_is}
use Rattle.doc_server_restore.proofs.writer.EditWriter.put.Goals as goal

pub add-requires-clause-plain : goal.add-requires-clause-plain
add-requires-clause-plain g c =
    let line = c.as_str.ensures.value ∙ c.in_ok-push_put_line.ensures.ok ∙ ap
    (λ t. t ++ line_of (set_page c.args.path.now c.args.page.now.page)) c.new-line.ensures.bytes in
    subst IsPlain (sym line) (line_is (set_page c.args.path.now c.args.page.now.page) c.page_bytes.ensures)
