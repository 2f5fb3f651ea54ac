use Rattle.std.proofs.Common.{◌≡◌, ◌∙◌, ap, []}
use Rattle.doc_blocks_starts.specs.Tags.{tags_of, tags_shown}
use Rattle.doc_blocks.specs.Views.{blocks_shown}
use Rattle.doc_html.proofs.ByteLaws.{html_by_bytes}
use Rattle.doc_html.proofs.document.to_html.Goals as goal

pub returns-clause-bytes : goal.returns-clause-bytes
returns-clause-bytes g c = λ definitions is.
    let flat : tags_shown c.as_slice-2.result.now ≡ tags_of (blocks_shown c.args.document.now.blocks.items) = ap tags_shown
    c.as_slice-2.ensures.value ∙ (c.in_ok-tags.ensures ∙ ap (λ items. tags_of (blocks_shown items)) c.as_slice.ensures.value) in
    c.in_ok-html.ensures definitions (blocks_shown c.args.document.now.blocks.items) is flat

pub returns-clause-alike : goal.returns-clause-alike
returns-clause-alike g c = λ definitions rule is alike.
    let flat : tags_shown c.as_slice-2.result.now ≡ tags_of (blocks_shown c.args.document.now.blocks.items) = ap tags_shown
    c.as_slice-2.ensures.value ∙ (c.in_ok-tags.ensures ∙ ap (λ items. tags_of (blocks_shown items)) c.as_slice.ensures.value) in
    c.in_ok-html.ensures definitions (blocks_shown c.args.document.now.blocks.items) is flat
    ∙ html_by_bytes c.args.entities.now [] _ rule (g.L.Linker.shown c.args.linker.now) alike
