use Rattle.std.proofs.Common.{ap, ◌++◌, ◌∙◌}
use Rattle.doc_page.specs.Plain.{html_pieces}
use Rattle.doc_html.proofs.PageSteps.{page_made}
use Rattle.doc_html.proofs.page_writer.PageWriter.into_page.Goals as goal

pub returns : goal.returns
returns c = λ p h.
    page_made _ _ _ c.args.self.fresh _ _ _ c.args.self.tells_images _ p _ _ _ _ h
    (c.in_ok-push_last.ensures ∙ ap (λ html. c.args.self.pieces.items ++ html_pieces html) c.shrink_to_fit.ensures.bytes)
    (c.new.ensures ∙ c.shrink_to_fit-2.ensures.items) (c.new-2.ensures ∙ c.shrink_to_fit-3.ensures.items) c.new-3.ensures c.new-4.ensures
