-- Words of the proofs of moves.
use Rattle.std.specs.Prelude.{ℕ, List, Option, Some, None}
use Rattle.std.specs.FinMap as map
use Rattle.doc_store_readers.specs.Maps.{TextMap}
use Rattle.doc_store_readers.specs.Pages.{StampedPage}

-- the page with another stamp
abbrev pub restamped : ℕ → StampedPage → StampedPage
restamped stamp page = record { page = page.page; stamp = stamp }

-- the pages with the page of one path under another, with another stamp
abbrev pub with_stamped_at : TextMap StampedPage → List ℕ → List ℕ → ℕ → Option StampedPage → TextMap StampedPage
with_stamped_at pages from to stamp None = pages
with_stamped_at pages from to stamp (Some page) = map.insert (map.remove pages from) to (restamped stamp page)

abbrev pub with_stamped : TextMap StampedPage → List ℕ → List ℕ → ℕ → TextMap StampedPage
with_stamped pages from to stamp = with_stamped_at pages from to stamp (map.get pages from)
