use Rattle.std.proofs.Common.{rules, tests, ◌==◌}
use Rattle.std.proofs.lemmas.Iterator.Splits.{YieldsList-from_slice_split}
use Rattle.std.proofs.lemmas.Iterator.Search.{any_from_yields_List}
use Rattle.doc_http.specs.Accepts.{is_html}
use Rattle.doc_http.proofs.accept.lists_html.Goals as goal

pub returns : goal.returns
returns c =
    any_from_yields_List is_html _ _ _ c.any.ensures.ran (YieldsList-from_slice_split _ (λ b. b == 44) c.args.value.now
    c.split.ensures.rest c.split.ensures.done c.split.ensures.closure (λ x b q k. search (rules, tests)))
    (λ x b q k. search (rules, tests))
