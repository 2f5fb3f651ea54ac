use Rattle.std.proofs.Common.{arith}
use Rattle.std.proofs.lemmas.Grind.{common_steps}
use Rattle.doc_http.proofs.ConditionLemmas.{one_behind, none_behind}
use Rattle.doc_http.proofs.conditions.joined_values.Goals as goal
use Rattle.doc_http.proofs.conditions.joined_values.Goals.{then-is_named+in_ok-with_value, else-is_named}

pub headers-preserved : goal.headers-preserved
headers-preserved c =
    elim c.if-is_named.branch [
      | then-is_named+in_ok-with_value w ↦ grind (arith, common_steps, one_behind)
      | else-is_named w ↦ grind (arith, common_steps)
    ]

pub returns : goal.returns
returns c = grind (arith, common_steps, none_behind)
