use Rattle.std.proofs.Common.{◌∙◌, ap, sym}
use Rattle.doc_rules.specs.Characters.{last_or}
use Rattle.doc_lines.proofs.Ends.{last_or_end}
use Rattle.doc_lines.proofs.scan.autolink.last_or_nul.Goals as goal

pub returns-in-Some : goal.returns-in-Some
returns-in-Some c = sym (ap (last_or 0) c.in-Some.ensures ∙ last_or_end 0 _ _)

pub returns-in-None : goal.returns-in-None
unfolding last_or
returns-in-None c = sym (ap (last_or 0) c.in-None.ensures)
