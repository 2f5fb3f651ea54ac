use Rattle.std.proofs.Common.{List, ℕ, ap, sym, ◌∙◌}
use Rattle.std.specs.List.{flat_map}
use Rattle.doc_http_conditions.specs.Lists.{has_tag, tags_of_element}
use Rattle.doc_http_conditions.proofs.TagSteps.{tag_here, tag_on}
use Rattle.doc_http_conditions.proofs.tags.Tags.have.Goals as goal

pub loop-element-init : goal.loop-element-init
loop-element-init c =
    ap (has_tag c.args.comparison c.args.stands.now) (sym c.self.view_is)
    ∙ ap (λ (es : List (List ℕ)). has_tag c.args.comparison c.args.stands.now (flat_map tags_of_element es))
    (sym (c.into_iter-element-iterator.ensures.into_iter_gives ∙ c.new-element-items.ensures))

pub returns-then-has_element : goal.returns-then-has_element
returns-then-has_element c =
    sym (c.loop-element.invariant
    ∙ ap (λ (es : List (List ℕ)). has_tag c.args.comparison c.args.stands.now (flat_map tags_of_element es)) c.in-Some.ensures.steps
    ∙ tag_here c.args.comparison c.args.stands.now c.in-Some.element.now c.next.new.self
    (sym c.has_element.ensures ∙ c.if-has_element.true))

pub loop-element-preserved : goal.loop-element-preserved
loop-element-preserved c =
    c.loop-element.invariant
    ∙ ap (λ (es : List (List ℕ)). has_tag c.args.comparison c.args.stands.now (flat_map tags_of_element es)) c.in-Some.ensures.steps
    ∙ tag_on c.args.comparison c.args.stands.now c.in-Some.element.now c.next.new.self
    (sym c.has_element.ensures ∙ c.if-has_element.false)

pub returns : goal.returns
returns c =
    sym (c.loop-element.invariant
    ∙ ap (λ (es : List (List ℕ)). has_tag c.args.comparison c.args.stands.now (flat_map tags_of_element es)) c.in-None.ensures.steps.0)
