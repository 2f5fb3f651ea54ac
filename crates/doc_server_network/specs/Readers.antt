-- Who may read, for the crates above.
pub use Rattle.doc_store_readers.specs.Readers.{ReaderTable}
pub use Rattle.doc_store_readers.specs.declared.readers.ReaderError.{ReaderError}
