use Rattle.std.proofs.Common.{◌≡◌, false}
use Rattle.std.specs.List.{list_all}
use Rattle.doc_http_conditions.specs.Lists.{elements, is_element}
use Rattle.doc_http_conditions.proofs.tags.is_list.Given as goal

-- the elements that are left decide
abbrev pub invariant-loop-element : goal.invariant-loop-element
invariant-loop-element l = list_all is_element (elements false l.text) ≡ list_all is_element l.element-iterator
