use Rattle.std.proofs.Common.{ap, is_some, sym}
use Rattle.doc_shelf_pages.proofs.ViewSteps.{no_page}
use Rattle.doc_shelf_pages.proofs.NamedSteps.{where_none}
use Rattle.doc_shelf_views.proofs.pages.sees.Goals as goal

pub returns-in_default : goal.returns-in_default
returns-in_default c =
    ap is_some (no_page c.args.store.now.site c.args.reader.now c.args.path.now (sym
    (where_none c.in_ok-path.field-0 c.in_default.is c.in_ok-path.ensures.none)))
