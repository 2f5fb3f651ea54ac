use Rattle.std.proofs.Common.{◌∙◌, ap, List}
use Rattle.doc_blocks_starts.specs.Tags.{Tag, tags_shown}
use Rattle.doc_blocks_starts.specs.OpenTags.{Open, read}
use Rattle.doc_blocks_starts.specs.declared.tag.Tag as code
use Rattle.doc_blocks_starts.proofs.TagLaws.{read_tags}
use Rattle.doc_blocks.proofs.document.blocks.Goals as goal

pub returns-clause-blocks : goal.returns-clause-blocks
returns-clause-blocks c =
    c.in_ok-tree_of.ensures
    ∙ (ap (λ (t : List code.Tag). (read (tags_shown t)).1) c.as_slice.ensures.value
    ∙ (ap (λ (t : List Tag). (read t).1) c.in_ok-tagged.ensures.tags
    ∙ ap (λ (o : Open). o.1) (read_tags _)))
