-- Media as they are held, and how one is added. All of this is this project's choice.
use Rattle.std.specs.Prelude.{◌≡◌, ℕ, List, length, Bool, nat_lt, nat_le, Some, Result, Ok, Err, if◌then◌else◌}
use Rattle.std.specs.FinMap as map
use Rattle.doc_store_readers.specs.Maps.{TextMap, map_values}
use Rattle.doc_store_readers.specs.Pages.{Page}
use Rattle.doc_media.specs.declared.media.MediaError.{MediaError}
use Rattle.doc_media.specs.declared.media.MediaError.TheVariants.{Taken, TooLong, MediaFull}
use Rattle.doc_media.specs.declared.medium.Medium.{Medium}
use Rattle.doc_media.specs.Kinds.{kind_of}

-- how many bytes a medium may have
unfoldable pub medium_limit : ℕ
medium_limit = 8388608

-- how many media may stand
unfoldable pub media_limit : ℕ
media_limit = 10000

-- a medium as a page: its groups and its bytes
abbrev pub page_of : Medium → Page
page_of medium = record { groups = medium.groups; text = medium.bytes }

-- the media of these entries
abbrev pub held_by : List (List ℕ × Medium) → TextMap Medium
held_by entries = map.from_entries entries

-- the media as pages
abbrev pub pages_of : TextMap Medium → TextMap Page
pages_of media = map_values page_of media

-- each medium is of the kind that its path names
pub record AreOfTheirKinds (media : TextMap Medium) : Type 0 where
  pub named : (path : List ℕ) (medium : Medium) → map.get media path ≡ Some medium → kind_of path ≡ Some medium.kind

-- whether a medium is refused, from whether one stands under its path, how many stand, and its bytes
abbrev pub fits : Bool → ℕ → List ℕ → Result (Unit {0}) MediaError
fits stands count bytes =
    if stands then Err Taken
    else (if nat_lt medium_limit (length bytes) then Err TooLong
    else (if nat_le media_limit count then Err MediaFull else Ok tt))

-- whether a medium under a path is refused
abbrev pub fits_in : TextMap Page → List ℕ → List ℕ → Result (Unit {0}) MediaError
fits_in media path bytes = fits (map.contains_key media path) (map.len media) bytes

-- the media after one that fits or not
abbrev pub added_by : TextMap Page → List ℕ → Page → Result (Unit {0}) MediaError → TextMap Page × Result (Unit {0}) MediaError
added_by media path medium (Err e) = (media, Err e)
added_by media path medium (Ok fine) = (map.insert media path medium, Ok tt)

-- the media after one is added under a path, and the answer
abbrev pub added_to : TextMap Page → List ℕ → Page → TextMap Page × Result (Unit {0}) MediaError
added_to media path medium = added_by media path medium (fits_in media path medium.text)
