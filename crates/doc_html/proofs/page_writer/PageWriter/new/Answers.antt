use Rattle.doc_html.specs.PlainLinks.{plain_shown}
use Rattle.doc_html.proofs.PageSteps.{holds_nothing}
use Rattle.doc_html.proofs.page_writer.PageWriter.new.Goals as goal

pub returns : goal.returns
returns c = holds_nothing _ _ _ _ _ c.args.tells_images _ plain_shown c.new.ensures.items c.new-2.ensures.bytes
    c.new-3.ensures c.new-4.ensures.items c.new-5.ensures.items c.new-6.ensures.items
