-- Readers as they are listed.
use Rattle.std.specs.Prelude.{◌≡◌, ℕ, List}
use Rattle.std.specs.FinMap as map
use Rattle.doc_store_readers.specs.declared.listing.Listing.{Listing}
use Rattle.doc_store_readers.specs.Readers.{Listed, by_their_digests, is_listed, table_listed}

-- what is kept of listed readers: their table, and the digests of the tokens in it
pub record IsListing (before : Listed) (listing : Listing) : Type 0 where
  pub readers : listing.readers ≡ table_listed before
  pub of_tokens : (digest : List ℕ) → map.contains_key listing.of_tokens digest ≡ is_listed digest (by_their_digests before.by_token)
