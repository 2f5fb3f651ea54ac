use Rattle.std.proofs.Common.{sym, subst, ◌∙◌, ap, ◌++◌}
use Rattle.doc_server_journal_records.specs.Records.{IsPlain}
use Rattle.doc_store.specs.Store.{move_page}
use Rattle.doc_server_script.specs.PageLines.{line_of}
use Rattle.doc_server_script.proofs.PlainLines.{line_is}
use Rattle.doc_server_restore.proofs.writer.EditWriter.move_page.Goals as goal

pub add-requires-clause-plain : goal.add-requires-clause-plain
add-requires-clause-plain g c =
    let line = c.as_str.ensures.value ∙ c.in_ok-push_move_line.ensures.ok ∙ ap
    (λ t. t ++ line_of (move_page c.args.«from».now c.args.to.now)) c.new-line.ensures.bytes in
    subst IsPlain (sym line) (line_is (move_page c.args.«from».now c.args.to.now) (c.path_bytes.ensures, c.path_bytes-2.ensures))
