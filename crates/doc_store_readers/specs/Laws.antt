-- Laws of groups and of what readers see.
use Rattle.std.specs.Prelude.{◌≡◌, ℕ, List, bytes_eq, false, Option, Some, None}
use Rattle.std.specs.List.{list_any}
use Rattle.sha2.specs.Sha256.{sha256}
use Rattle.doc_store_readers.specs.declared.reader.Reader.{Reader}
use Rattle.doc_store_readers.specs.Groups.{IsGroups, different_names}
use Rattle.doc_store_readers.specs.Readers.{ReaderTable, find_in, with_reader, without_reader}
use Rattle.doc_store_readers.specs.Sites.{Site, IsSite, empty_site, goal_in, goal_of, view_of, visible_to}

-- the different ones of some names are these names, and no others
abbrev pub SameNames : Type 0
SameNames = (names : List (List ℕ)) (name : List ℕ) → list_any (bytes_eq name) (different_names names) ≡ list_any (bytes_eq name) names

-- where each name is in both lists or in neither, the different ones are the same list
abbrev pub EqualSets : Type 0
EqualSets = (names others : List (List ℕ)) → ((name : List ℕ) → list_any (bytes_eq name) names ≡ list_any (bytes_eq name) others)
    → different_names names ≡ different_names others

-- two sets of groups with the same names are the same list
abbrev pub SameGroups : Type 0
SameGroups = (names others : List (List ℕ)) → IsGroups names → IsGroups others
    → ((name : List ℕ) → list_any (bytes_eq name) names ≡ list_any (bytes_eq name) others) → names ≡ others

-- a reader sees the whole of what the reader sees
abbrev pub ViewOfView : Type 0
ViewOfView = (site : Site) (reader : Option Reader) → visible_to (visible_to site reader) reader ≡ visible_to site reader

-- no reader sees nothing
abbrev pub NoReaderSeesNothing : Type 0
NoReaderSeesNothing = (site : Site) → visible_to site None ≡ empty_site

-- a path leads in a view where it leads in what the reader sees
abbrev pub GoalsOfViews : Type 0
GoalsOfViews = (site : Site) (reader : Option Reader) (path : List ℕ)
    → goal_in (view_of site reader) path ≡ goal_of (visible_to site reader) path

-- what a reader sees of a site is a site: no alias is the path of a page that is seen, and each leads to one
abbrev pub ViewsAreSites : Type 0
ViewsAreSites = (site : Site) (reader : Option Reader) → IsSite site → IsSite (visible_to site reader)

-- the reader who was set is found by the token
abbrev pub WhoIsSetIsFound : Type 0
WhoIsSetIsFound = (readers : ReaderTable) (token : List ℕ) (reader : Reader) → find_in (with_reader readers token reader) token ≡ Some reader

-- nobody is found by a token whose reader was removed
abbrev pub WhoIsRemovedIsGone : Type 0
WhoIsRemovedIsGone = (readers : ReaderTable) (token : List ℕ) → find_in (without_reader readers token) token ≡ None

-- neither changes who is found by another token, but for a collision of SHA-256
abbrev pub OthersStay : Type 0
OthersStay = (readers : ReaderTable) (token other : List ℕ) → bytes_eq other token ≡ false → bytes_eq (sha256 other) (sha256 token) ≡ false
    → ((reader : Reader) → find_in (with_reader readers token reader) other ≡ find_in readers other)
    × (find_in (without_reader readers token) other ≡ find_in readers other)
