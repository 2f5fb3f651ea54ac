use Rattle.std.proofs.Common.{◌==◌, ◌∙◌, ap, sym}
use Rattle.doc_rules.specs.Characters.{last_or}
use Rattle.doc_lines.proofs.Ends.{last_or_end}
use Rattle.doc_front.proofs.values.ends_with_colon.Goals as goal

pub returns-in-Some : goal.returns-in-Some
returns-in-Some c = sym (ap (λ n. n == 58) (ap (last_or 58) c.in-Some.ensures ∙ last_or_end 58 _ _))

pub returns-in-None : goal.returns-in-None
unfolding last_or
returns-in-None c = sym (ap (λ t. last_or 58 t == 58) c.in-None.ensures)
