use Rattle.std.proofs.Common.{◌∙◌, ap, sym, refl, arith, string_bytes, ◌++◌}
use Rattle.doc_html.proofs.EscapeLaws.{destination_stays}
use Rattle.doc_html.proofs.PlainLinkSteps.{url_written}
use Rattle.doc_html.proofs.destinations.push_url.Goals as goal

pub returns-then-stays : goal.returns-then-stays
returns-then-stays c =
    let dest = c.args.dest.now in
    c.in_ok-push_str.ensures.bytes
    ∙ ap (λ t. string_bytes c.args.out.now ++ t) (destination_stays dest dest refl (sym c.stays.ensures ∙ c.if-stays.true)
    ∙ url_written dest (λ i within. omega (arith, c.type_inv.dest i)))

pub returns : goal.returns
returns c =
    c.in_ok-push_destination.ensures.ok
    ∙ ap (λ t. string_bytes c.args.out.now ++ t) (url_written c.args.dest.now (λ i within. omega (arith, c.type_inv.dest i)))
