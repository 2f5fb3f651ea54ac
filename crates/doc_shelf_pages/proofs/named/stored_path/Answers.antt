use Rattle.std.proofs.Common.{bytes_eq, ap, sym, ◌∙◌}
use Rattle.doc_store_readers.proofs.ViewLaw.{entry_at-entries}
use Rattle.doc_store_readers.specs.Pages.{without_stamps}
use Rattle.doc_store_readers.specs.Sites.{page_at}
use Rattle.doc_shelf_pages.proofs.NamedSteps.{is_behind}
use Rattle.doc_shelf_pages.proofs.named.stored_path.Goals as goal

pub entries-init : goal.entries-init
entries-init c =
    ap (λ entries. page_at (without_stamps entries) c.args.text.now) c.into_iter-path-iterator.ensures.into_iter_gives
    ∙ ap (λ entries. page_at entries c.args.text.now) c.pages-path-items.ensures
    ∙ entry_at-entries c.args.store.now.site.pages c.args.text.now

pub entries-preserved : goal.entries-preserved
entries-preserved c =
    is_behind c.entries.path-iterator c.next.new.self c.in-Some.path.now c.args.text.now c.in-Some._page.now _ c.in-Some.ensures.steps
    (sym (c.if-eq.ensures ∙ ap (bytes_eq c.args.text.now) c.text.ensures)) c.entries.invariant

pub returns-clause-none : goal.returns-clause-none
returns-clause-none c =
    sym c.entries.invariant ∙ ap (λ entries. page_at (without_stamps entries) c.args.text.now) c.in-None.ensures.steps.0
