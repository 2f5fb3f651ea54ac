use Rattle.std.proofs.Common.{ap, ◌∙◌}
use Rattle.std.specs.Prelude.{option_map}
use Rattle.doc_lines.specs.Entities.{characters}
use Rattle.doc_lines.proofs.TableLaws.{find_shown}
use Rattle.doc_lines.proofs.entities.table.find_added.Goals as goal

pub returns : goal.returns
returns c = ap (option_map characters) (c.copied.ensures ∙ c.get.ensures.value) ∙ find_shown c.args.added.now.entries c.args.name.now
