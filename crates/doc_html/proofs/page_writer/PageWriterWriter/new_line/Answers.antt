use Rattle.std.proofs.Common.{refl}
use Rattle.doc_html.proofs.PageSteps.{holds_line, holds_new_line}
use Rattle.doc_html.proofs.page_writer.PageWriterWriter.new_line.Goals as goal

pub returns-then-self : goal.returns-then-self
returns-then-self c = λ p h. holds_line _ _ c.args.self.now.fresh _ _ _ c.args.self.now.tells_images _ p h c.if-self.true

pub returns : goal.returns
returns c = λ p h.
    holds_new_line _ _ _ c.args.self.now.fresh _ _ _ _ c.args.self.now.tells_images _ p h c.if-self.false
    c.in_ok-push_str.ensures.bytes refl
