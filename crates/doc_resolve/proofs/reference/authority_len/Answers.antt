use Rattle.std.proofs.Common.{◌∙◌, ◌==◌, ap, length, rules, tests}
use Rattle.std.specs.Option.{unwrap_or}
use Rattle.std.proofs.lemmas.Iterator.Adapters.{YieldsList-from_bytes}
use Rattle.std.proofs.lemmas.Iterator.Search.{position_from_yields_List}
use Rattle.doc_resolve.proofs.reference.authority_len.Goals as goal
use Rattle.doc_page_parts.proofs.Lists.{position_or_length}

pub returns : goal.returns
returns c =
    let text = c.args.text.now in
    let found = position_from_yields_List (λ b. b == 47) _ _ c.position.result c.position.ensures.ran (YieldsList-from_bytes text cc)
    (λ x b q k. search (rules, tests)) in
    c.unwrap_or.ensures ∙ ap (λ o. unwrap_or o (length text)) found ∙ position_or_length (λ b. b == 47) text
