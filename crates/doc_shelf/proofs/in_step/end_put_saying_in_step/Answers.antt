use Rattle.std.proofs.Common.{refl}
use Rattle.doc_shelf_pages.proofs.EditSteps.{refused_after}
use Rattle.doc_shelf.proofs.in_step.end_put_saying_in_step.Goals as goal

pub returns-then-is_err-clause-kept : goal.returns-then-is_err-clause-kept
returns-then-is_err-clause-kept c render is put =
    refused_after render c.args.store.now c.args.store.now is c.args.kept.now c.drop_page.new.self c.args.path.now c.args.page.text.now
    c.args.page.stamp put refl c.requires.next c.drop_page.ensures.rest
