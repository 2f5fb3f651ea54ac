use Rattle.std.proofs.Common.{ap, sym}
use Rattle.std.specs.Prelude.{option_map}
use Rattle.doc_page_parts.specs.declared.rendered.Rendered.{Rendered}
use Rattle.doc_shelf_pages.proofs.ViewSteps.{no_page}
use Rattle.doc_store_readers.specs.Pages.{Page}
use Rattle.doc_shelf_pages.proofs.NamedSteps.{where_none}
use Rattle.doc_shelf_views.proofs.pages.headings.Goals as goal

pub returns-in_default : goal.returns-in_default
returns-in_default c render k =
    ap (λ page. option_map (λ (p : Rendered). p.headings) (option_map (λ (p : Page). render p.text) page))
    (no_page c.args.store.now.site c.args.reader.now c.args.path.now (sym
    (where_none c.in_ok-path.field-0 c.in_default.is c.in_ok-path.ensures.none)))
