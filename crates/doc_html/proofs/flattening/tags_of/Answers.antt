use Rattle.std.proofs.Common.{[], ap}
use Rattle.doc_rules.specs.Forests.{none}
use Rattle.doc_blocks_starts.specs.Tags.{tags_of, tags_shown}
use Rattle.doc_blocks_starts.specs.OpenTags.{open_tags}
use Rattle.doc_html.proofs.flattening.tags_of.Goals as goal

pub returns : goal.returns
unfolding open_tags tags_of
returns c = c.in_ok-push_tags.ensures [] none (ap tags_shown c.new-tags.ensures.items)
