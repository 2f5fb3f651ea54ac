use Rattle.std.proofs.Common.{◌∙◌, arith}
use Rattle.doc_page_encoding.proofs.EncodingLaws.{destination-by_set}
use Rattle.doc_page_encoding.proofs.encoding.written_destination.Goals as goal

pub returns : goal.returns
returns c =
    c.in_ok-into_cow.ensures.value
    ∙ c.utf8_percent_encode.ensures.text
    ∙ destination-by_set c.args.dest.now (λ i within. omega (arith, c.type_inv.dest i))
