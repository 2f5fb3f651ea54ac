use Rattle.std.proofs.Common.{◌∙◌}
use Rattle.std.proofs.lemmas.Result.{IfOk-weaker}
use Rattle.doc_shelf_pages.proofs.FlagSteps.{contents_by_flags}
use Rattle.doc_shelf_pages.specs.RenderingSteps.{texts_of}
use Rattle.doc_shelf_pages.proofs.lists.contents.Goals as goal

pub returns : goal.returns
returns c render is k =
    IfOk-weaker c.lines_of.result _ _ (λ lines are. contents_by_flags render c.args.store.now c.args.kept.now c.args.reader.now is k
    c.deref.result.now (c.deref.ensures.value ∙ c.in_ok-flags.ensures) (texts_of lines.items) are) c.lines_of.ensures
