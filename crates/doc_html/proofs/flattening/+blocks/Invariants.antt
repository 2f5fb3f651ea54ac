use Rattle.std.proofs.Common.{◌≡◌, List, take}
use Rattle.doc_rules.specs.Blocks.{Blocks}
use Rattle.doc_blocks_starts.specs.Tags.{tags_shown}
use Rattle.doc_blocks_starts.specs.OpenTags.{Entry, open_tags}
use Rattle.doc_blocks.specs.Views.{forest}
use Rattle.doc_html.proofs.flattening.+blocks.Given as goal

abbrev pub invariant-push_tags-loop-block : goal.invariant-push_tags-loop-block
invariant-push_tags-loop-block l =
    (outer : List Entry) (before : Blocks) → tags_shown l.fn.tags.items ≡ open_tags outer before →
    tags_shown l.tags.items ≡ open_tags outer (forest (take l.block-index l.blocks) before)
