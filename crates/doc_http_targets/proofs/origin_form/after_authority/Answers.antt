use Rattle.std.proofs.Common.{◌∙◌, ap, drop, length, rules, tests}
use Rattle.std.specs.Option.{unwrap_or}
use Rattle.std.proofs.lemmas.Iterator.Adapters.{YieldsList-from_bytes}
use Rattle.std.proofs.lemmas.Iterator.Search.{position_from_yields_List}
use Rattle.doc_http_targets.specs.Targets.{ends_authority}
use Rattle.doc_http_targets.proofs.origin_form.after_authority.Goals as goal
use Rattle.doc_page_parts.proofs.Lists.{position_or_length}

pub returns : goal.returns
returns c =
    let text = c.args.text.now in
    let found = position_from_yields_List ends_authority _ _ c.position.result c.position.ensures.ran (YieldsList-from_bytes text cc)
    (λ x b q k. search (rules, tests)) in
    let len = c.unwrap_or-end.ensures ∙ ap (λ o. unwrap_or o (length text)) found ∙ position_or_length ends_authority text in
    c.range_from.ensures.value ∙ ap (λ n. drop n text) len
