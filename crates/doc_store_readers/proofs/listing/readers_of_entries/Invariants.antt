use Rattle.std.proofs.Common.{◌≡◌, ◌+◌, ◌<◌, ◌^◌, length}
use Rattle.std.specs.Vec.Iter.{into_iter_items}
use Rattle.doc_store_readers.specs.Listings.{IsListing}
use Rattle.doc_store_readers.specs.Readers.{Listed, none_listed, readers_from}
use Rattle.doc_store_readers.proofs.listing.readers_of_entries.Given as goal

-- the readers so far are listed, and what is left are the items of the iterator
abbrev pub invariant-loop-key : goal.invariant-loop-key
invariant-loop-key l =
    (before : Listed) × IsListing before l.listing
    × (readers_from none_listed 1 l.fn.entries ≡ readers_from before (l.number + 1) (into_iter_items l.key-iterator))
    × (l.number + length (into_iter_items l.key-iterator) < 2 ^ 64)
