use Rattle.std.proofs.Common.{◌∙◌, arith}
use Rattle.doc_page_encoding.proofs.EncodingLaws.{encoded_path-by_set}
use Rattle.doc_page_encoding.proofs.encoding.encoded_path.Goals as goal

pub returns : goal.returns
returns c =
    c.in_ok-into_cow.ensures.value
    ∙ c.utf8_percent_encode.ensures.text
    ∙ encoded_path-by_set c.args.path.now (λ i within. omega (arith, c.type_inv.path i))
