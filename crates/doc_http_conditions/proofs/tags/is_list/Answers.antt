use Rattle.std.proofs.Common.{ap, sym, ◌∙◌}
use Rattle.std.specs.List.{list_all}
use Rattle.doc_http_conditions.specs.Lists.{is_element}
use Rattle.doc_http_conditions.proofs.TagSteps.{all_here, all_on}
use Rattle.doc_http_conditions.proofs.tags.is_list.Goals as goal

pub loop-element-init : goal.loop-element-init
loop-element-init c =
    ap (list_all is_element) (sym (c.into_iter-element-iterator.ensures.into_iter_gives ∙ c.new-element-items.ensures))

pub returns-then-not-is_element : goal.returns-then-not-is_element
returns-then-not-is_element c =
    sym (c.loop-element.invariant ∙ ap (list_all is_element) c.in-Some.ensures.steps
    ∙ all_here is_element c.in-Some.element.now c.next.new.self (sym c.is_element.ensures ∙ c.if-not-is_element.true))

pub loop-element-preserved : goal.loop-element-preserved
loop-element-preserved c =
    c.loop-element.invariant ∙ ap (list_all is_element) c.in-Some.ensures.steps
    ∙ all_on is_element c.in-Some.element.now c.next.new.self (sym c.is_element.ensures ∙ c.if-not-is_element.false)

pub returns : goal.returns
returns c = sym (c.loop-element.invariant ∙ ap (list_all is_element) c.in-None.ensures.steps.0)
