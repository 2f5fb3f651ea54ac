use Rattle.std.proofs.Common.{arith}
use Rattle.doc_media.proofs.SplitSteps.{cut_at_last, part_found, part_is_all}
use Rattle.doc_media.proofs.extension.last_part.Goals as goal

pub returns-in-Some : goal.returns-in-Some
returns-in-Some c =
    part_found c.args.path.now c.rsplit_once.result
    (cut_at_last 47 c.args.path.now c.rsplit_once.result c.rsplit_once.ensures.cases (omega arith)) _ c.in-Some.part c.in-Some.is

pub returns-in-None : goal.returns-in-None
returns-in-None c =
    part_is_all c.args.path.now c.rsplit_once.result
    (cut_at_last 47 c.args.path.now c.rsplit_once.result c.rsplit_once.ensures.cases (omega arith)) c.in-None.is
