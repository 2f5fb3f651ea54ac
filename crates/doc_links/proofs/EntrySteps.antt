-- What a loop over pages that are seen has put together.
use Rattle.std.proofs.Common.{◌≡◌, ℕ, ◌≤◌, List, length, take, ap, ◌∙◌}
use Rattle.std.specs.Prelude.{map as mapped}
use Rattle.std.proofs.lemmas.List.{take_all}
use Rattle.doc_links_pages.specs.Links.{contents, entry_of}
use Rattle.doc_links_seen.specs.SeenPages.{seen_page, seen_pages}
use Rattle.doc_links_pages.specs.declared.answers.Entry.{Entry}
use Rattle.doc_links_seen.specs.declared.seen.SeenPage.{SeenPage}

pub all_entries : (pages : List SeenPage) (i : ℕ) → length pages ≤ i → (all : List Entry)
    → all ≡ mapped entry_of (mapped seen_page (take i pages)) → all ≡ contents (seen_pages pages)
unfolding contents
all_entries pages i within all is = is ∙ ap (λ ps. mapped entry_of (mapped seen_page ps)) (take_all i pages within)
