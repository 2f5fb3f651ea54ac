use Rattle.std.proofs.Common.{◌∙◌}
use Rattle.doc_resolve.proofs.DotSteps.{is_no_path-segments}
use Rattle.doc_resolve.proofs.resolution.is_no_path.Goals as goal

pub returns : goal.returns
returns c = c.is_empty.ensures ∙ is_no_path-segments c.args.path.now
