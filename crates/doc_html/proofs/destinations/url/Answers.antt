use Rattle.std.proofs.Common.{◌∙◌, ap, sym, arith, chars}
use Rattle.std.specs.Prelude.{◌++◌, encode_utf8_all, flat_map}
use Rattle.doc_html.specs.PlainLinks.{url_byte}
use Rattle.doc_html.proofs.PlainLinkSteps.{url_characters, url_written}
use Rattle.doc_html.proofs.destinations.url.Goals as goal

pub returns-clause-characters : goal.returns-clause-characters
returns-clause-characters c =
    let dest = c.args.dest.now in
    let shown = encode_utf8_all (flat_map url_byte dest) in
    let written = c.in_ok-push_url.ensures ∙ ap (λ front. front ++ shown) c.in_ok-out.ensures.bytes in
    ap chars c.new.ensures
    ∙ url_characters _ dest c.utf8.dest (λ i within. omega (arith, c.type_inv.dest i)) (written
    ∙ sym (url_written dest (λ i within. omega (arith, c.type_inv.dest i))))

pub returns-clause-bytes : goal.returns-clause-bytes
returns-clause-bytes c =
    let shown = encode_utf8_all (flat_map url_byte c.args.dest.now) in
    c.new.ensures ∙ (c.in_ok-push_url.ensures ∙ ap (λ front. front ++ shown) c.in_ok-out.ensures.bytes)
