-- What the value of an If-Match or an If-None-Match field names (RFC 9110, sections 13.1.1 and 13.1.2).
use Rattle.std.specs.Prelude.{ℕ, List, false, bytes_eq, codes, Option, Some, None, if◌then◌else◌}
use Rattle.std.specs.List.{list_all}
use Rattle.doc_http_conditions.specs.Lists.{elements, is_element, tags_in}
use Rattle.doc_http_conditions.specs.declared.named.Named.{Named}
use Rattle.doc_http_conditions.specs.declared.named.Named.TheVariants.{Any, OneOf}

-- `*` names any page, and a list those with one of its entity tags; each other value is malformed, which is None
unfoldable pub named_by : List ℕ → Option Named
named_by text =
    if bytes_eq text (codes "*") then Some Any
    else (if list_all is_element (elements false text) then Some (OneOf (tags_in text)) else None)
