use Rattle.std.proofs.Common.{◌≡◌}
use Rattle.std.specs.List.{flat_map}
use Rattle.doc_http_conditions.specs.Lists.{has_tag, tags_of_element}
use Rattle.doc_http_conditions.proofs.tags.Tags.have.Given as goal

-- the elements that are left decide
abbrev pub invariant-loop-element : goal.invariant-loop-element
invariant-loop-element l = has_tag l.comparison l.stands l.self
    ≡ has_tag l.comparison l.stands (flat_map tags_of_element l.element-iterator)
