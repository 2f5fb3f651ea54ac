use Rattle.std.proofs.Common.{ap, ◌∙◌}
use Rattle.doc_rules.specs.Characters.{is_space_or_tab, strip_end}
use Rattle.doc_blocks_starts.proofs.StripLaws.{front_goes}
use Rattle.doc_blocks_starts.proofs.strip.strip_spaces.Goals as goal

pub returns : goal.returns
returns c =
    c.strip_end.ensures is_space_or_tab (λ d b h. h)
    ∙ ap (strip_end is_space_or_tab) (front_goes is_space_or_tab _ _ (c.many.ensures.value is_space_or_tab (λ d b h. h)))
