-- Laws of the tags of pages.
use Rattle.std.specs.Prelude.{◌≡◌}
use Rattle.sha2.specs.Sha256.{sha256}
use Rattle.doc_store_readers.specs.Groups.{IsGroups}
use Rattle.doc_store_readers.specs.Pages.{Page}
use Rattle.doc_store_tags.specs.Tags.{tagged, tag_of}

-- where the bytes that two pages' tags are the digests of are the same, the pages are: their groups, and their texts
abbrev pub TaggedPagesDiffer : Type 0
TaggedPagesDiffer = (page other : Page) → IsGroups page.groups → IsGroups other.groups → tagged page ≡ tagged other → page ≡ other

-- equal tags are equal digests
abbrev pub EqualTagsAreEqualDigests : Type 0
EqualTagsAreEqualDigests = (page other : Page) → tag_of page ≡ tag_of other → sha256 (tagged page) ≡ sha256 (tagged other)
