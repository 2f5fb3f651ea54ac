use Rattle.std.proofs.Common.{◌≡◌}
use Rattle.std.specs.FinMap as map
use Rattle.doc_store_readers.specs.Pages.{without_stamps}
use Rattle.doc_store_readers.specs.Sites.{page_at}
use Rattle.doc_shelf_pages.proofs.named.stored_path.Given as goal

-- among the pages that are left stands under the text what stands there among all
abbrev pub invariant-entries : goal.invariant-entries
invariant-entries l = page_at (without_stamps l.path-iterator) l.text ≡ map.get l.store.site.pages l.text
