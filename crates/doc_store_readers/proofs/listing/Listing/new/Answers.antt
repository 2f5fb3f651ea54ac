use Rattle.doc_store_readers.specs.declared.listing.Listing.{Listing}
use Rattle.doc_store_readers.proofs.ReaderSteps.{none_is_listed}
use Rattle.doc_store_readers.proofs.listing.Listing.new.Goals as goal

pub returns : goal.returns
returns c =
    let listing : Listing = record { readers = c.new.result; of_tokens = c.new-2.result } in
    none_is_listed listing c.new.ensures c.new-2.ensures
