-- Laws of what a reader sees of the media.
use Rattle.std.specs.Prelude.{◌≡◌, Option}
use Rattle.doc_store_readers.specs.declared.reader.Reader.{Reader}
use Rattle.doc_media.specs.Media.{Media, beside_of, media_visible_to}

-- a reader sees the whole of what the reader sees
abbrev pub MediaOfMedia : Type 0
MediaOfMedia = (media : Media) (reader : Option Reader)
    → media_visible_to (media_visible_to media reader) reader ≡ media_visible_to media reader

-- the media beside a view are those of what the reader sees
abbrev pub BesideOfMedia : Type 0
BesideOfMedia = (media : Media) (reader : Option Reader) → beside_of (media_visible_to media reader) reader ≡ beside_of media reader
