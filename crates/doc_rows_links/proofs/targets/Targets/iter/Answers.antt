use Rattle.std.proofs.Common.{◌∙◌, ap}
use Rattle.std.specs.Prelude.{map as mapped, string_bytes}
use Rattle.std.specs.FinMap as map
use Rattle.doc_rows_links.proofs.TargetSteps.{keys_are}
use Rattle.doc_rows_links.proofs.targets.Targets.iter.Goals as goal

pub returns : goal.returns
returns c = ap (mapped string_bytes) c.keys.ensures.rest ∙ keys_are c.self.inside.paths c.keys.ensures.ordered ∙ ap map.keys c.self.view_is
