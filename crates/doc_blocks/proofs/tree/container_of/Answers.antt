use Rattle.std.proofs.Common.{◌∙◌, ap, sym}
use Rattle.doc_rules.specs.Forests.{node}
use Rattle.doc_blocks_starts.specs.Tags.{container_shown}
use Rattle.doc_blocks_starts.specs.declared.tag.ContainerBlock.{ContainerBlock}
use Rattle.doc_blocks.specs.Views.{blocks_shown}
use Rattle.doc_blocks.proofs.Forests.{behind_quote, behind_list, behind_item}
use Rattle.doc_blocks.proofs.tree.container_of.Goals as goal

pub returns-in-Quote : goal.returns-in-Quote
unfolding container_shown
returns-in-Quote c = λ before. behind_quote c.args.inside before
    ∙ sym (ap (λ (x : ContainerBlock). node before (container_shown x) (blocks_shown c.args.inside.items)) c.in-Quote.is)

pub returns-in-List : goal.returns-in-List
unfolding container_shown
returns-in-List c = λ before. behind_list c.in-List.start c.in-List.tight c.args.inside before
    ∙ sym (ap (λ (x : ContainerBlock). node before (container_shown x) (blocks_shown c.args.inside.items)) c.in-List.is)

pub returns-in-Item : goal.returns-in-Item
unfolding container_shown
returns-in-Item c = λ before. behind_item c.args.inside before
    ∙ sym (ap (λ (x : ContainerBlock). node before (container_shown x) (blocks_shown c.args.inside.items)) c.in-Item.is)
