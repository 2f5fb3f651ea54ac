use Rattle.std.proofs.Common.{◌++◌, ap, codes, decimal, string_bytes, ◌∙◌}
use Rattle.doc_people_lines.proofs.WriteSteps.{threefold}
use Rattle.doc_people_pages.proofs.headings.push_item_start.Goals as goal

pub returns : goal.returns
returns c =
    threefold (codes "<li class=\"h") (decimal c.args.level) (codes "\">") _ _ _ _ c.in_ok-push_str.ensures.bytes
    (c.in_ok-push_number.ensures ∙ ap (λ n. string_bytes c.push_str.new.self ++ decimal n) c.from.ensures) c.in_ok-push_str-2.ensures.bytes
