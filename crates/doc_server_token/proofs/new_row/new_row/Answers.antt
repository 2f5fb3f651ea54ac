use Rattle.std.proofs.Common.{◌≡◌, ◌∙◌, arith, length}
use Rattle.doc_server_token.proofs.RowSteps.{row_written}
use Rattle.doc_server_token.proofs.new_row.new_row.Goals as goal

-- the bytes that the source gave
pub returns : goal.returns
returns g c =
    let bytes = c.fill_bytes.new.buf in
    let all : length bytes ≡ 32 = omega (arith, c.fill_bytes.auto.buf) in
    let is = c.as_str.ensures.value ∙ c.in_ok-token.ensures in
    (bytes, all, row_written c.args.reader.now _ _ _ bytes c.new-row.ensures.bytes is c.in_ok-push_row.ensures)
