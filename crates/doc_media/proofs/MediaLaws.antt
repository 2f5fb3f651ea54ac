-- What a reader sees of the media, and that it is seen whole.
use Rattle.std.proofs.Common.{◌≡◌, refl, ap, sym, ◌∙◌}
use Rattle.std.specs.Prelude.{Option, Some, None}
use Rattle.std.specs.FinMap as map
use Rattle.std.proofs.lemmas.Cmp.{nat_list_cmp_total}
use Rattle.std.proofs.lemmas.Map.Lookups.{exact_bytes}
use Rattle.doc_store_readers.specs.declared.reader.Reader.{Reader}
use Rattle.doc_store_readers.specs.Maps.{TextMap}
use Rattle.doc_store_readers.specs.Pages.{Page}
use Rattle.doc_store_readers.specs.Sites.{visible_to}
use Rattle.doc_store_readers.proofs.ViewLaw.{get-visible_pages, view_of_view}
use Rattle.doc_media.specs.Laws.{BesideOfMedia, MediaOfMedia}
use Rattle.doc_media.specs.Media.{site_of_media}

-- the pages that are seen hang on the pages alone
seen_again : (held : TextMap Page) (reader : Option Reader)
    → (visible_to (site_of_media (visible_to (site_of_media held) reader).pages) reader).pages
    ≡ (visible_to (site_of_media held) reader).pages
seen_again held reader =
    let seen = visible_to (site_of_media held) reader in
    map.same_map nat_list_cmp_total exact_bytes _ _ (λ path.
    get-visible_pages (site_of_media seen.pages) reader path ∙ sym (get-visible_pages seen reader path))
    ∙ ap (λ site. site.pages) (view_of_view (site_of_media held) reader)

pub media_of_media : MediaOfMedia
media_of_media None reader = refl
media_of_media (Some held) reader = ap (λ pages. Some pages) (seen_again held reader)

pub beside_of_media : BesideOfMedia
beside_of_media None reader = refl
beside_of_media (Some held) reader = ap (λ pages. Some (map.entries pages)) (seen_again held reader)
