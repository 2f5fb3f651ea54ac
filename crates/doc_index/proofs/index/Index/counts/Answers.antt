use Rattle.std.proofs.Common.{ap}
use Rattle.std.specs.Prelude.{option_map}
use Rattle.doc_index.specs.Held.{Known}
use Rattle.doc_index.proofs.index.Index.counts.Goals as goal

pub returns-in_default : goal.returns-in_default
returns-in_default g c = ap (option_map (λ (page : Known g.row.T.Denot). page.counts)) c.in_default.ensures

pub returns : goal.returns
returns g c = ap (option_map (λ (page : Known g.row.T.Denot). page.counts)) c.in-Some.ensures
