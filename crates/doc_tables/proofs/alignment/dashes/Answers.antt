use Rattle.std.proofs.Common.{◌==◌, ap, ◌∙◌}
use Rattle.doc_blocks_starts.proofs.StripLaws.{front_goes}
use Rattle.doc_rules.specs.Tables.{colon_end, dashes}
use Rattle.doc_tables.proofs.alignment.dashes.Goals as goal

pub returns : goal.returns
unfolding dashes
returns c = c.colon_end.ensures ∙ ap colon_end (front_goes (λ d. d == 45) _ _ (c.many.ensures.value (λ d. d == 45) (λ d b h. h)))
