use Rattle.std.proofs.Common.{◌∙◌, ap, sym}
use Rattle.doc_rules.specs.Characters.{is_space_or_tab, last_or}
use Rattle.doc_lines.proofs.Ends.{last_or_end}
use Rattle.doc_blocks_starts.proofs.heading.ends_in_space.Goals as goal

pub returns-in-Some : goal.returns-in-Some
returns-in-Some c = c.is_space_or_tab.ensures ∙ ap is_space_or_tab (sym (ap (last_or 32) c.in-Some.ensures ∙ last_or_end 32 _ _))

pub returns-in-None : goal.returns-in-None
unfolding last_or
returns-in-None c = ap is_space_or_tab (sym (ap (last_or 32) c.in-None.ensures))
