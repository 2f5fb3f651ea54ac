use Rattle.std.proofs.Common.{◌∙◌, ◌++◌, ap, string_bytes, arith}
use Rattle.doc_page_encoding.proofs.EncodingLaws.{encoded_path-by_set}
use Rattle.doc_page_encoding.proofs.encoding.push_encoded_path.Goals as goal

pub returns-clause-ok : goal.returns-clause-ok
returns-clause-ok c =
    c.in_ok-append_to.ensures.ok
    ∙ ap (λ t. string_bytes c.args.out.now ++ t) (c.utf8_percent_encode.ensures.text
    ∙ encoded_path-by_set c.args.path.now (λ i within. omega (arith, c.type_inv.path i)))
