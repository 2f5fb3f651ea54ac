use Rattle.std.proofs.Common.{rules, ◌≡◌, not, chars, Some}
use Rattle.doc_rules.specs.Characters.{is_space_or_tab}
use Rattle.doc_rules.specs.Parsers.{many}
use Rattle.doc_html.proofs.WordSteps.{word_is_first}
use Rattle.doc_html.proofs.leaves.first_word.Goals as goal

pub returns : goal.returns
returns c =
    let start : Some (chars c.many-start.result.now) ≡ many is_space_or_tab (chars c.args.info.now) = c.many-start.ensures.value
    is_space_or_tab (search rules) in
    let rest : Some (chars c.many.result.now) ≡ many (λ d. not (is_space_or_tab d)) (chars c.many-start.result.now) = c.many.ensures.value
    (λ d. not (is_space_or_tab d)) (search rules) in
    word_is_first _ _ _ _ start c.front.ensures.joins rest
