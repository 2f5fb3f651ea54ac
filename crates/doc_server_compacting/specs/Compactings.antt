-- What a compaction makes of the file of a journal's name.
use Rattle.std.specs.Prelude.{◌≡◌, ◌⊎◌, ◌≤◌, ℕ, All, List, length, Option, None, Ok, IfSome}
use Rattle.std.specs.FinMap as map
use Rattle.doc_store_readers.specs.Groups.{IsGroups}
use Rattle.doc_store_readers.specs.Pages.{Page}
use Rattle.doc_store_readers.specs.Sites.{IsSite, Site}
use Rattle.doc_store.specs.Store.{StoreState, alias_limit, page_limit, text_limit}
use Rattle.doc_server_journal_records.specs.FirstReadings.{IsFirst}
use Rattle.doc_server_journal_records.specs.Readings.{ReadsAs}
use Rattle.doc_server_restore.specs.Restores.{restored, unstamped}
use Rattle.doc_server_restore.specs.Written.{AreLines}
use Rattle.doc_server_script.specs.Compactions.{compacted}
use Rattle.doc_server_script.specs.Laws.{IsPathText, IsText}

-- a page as puts take it, and where it may stand
pub record IsPageOfEdits (path : List ℕ) (page : Page) : Type 0 where
  pub path_text : IsPathText path
  pub groups : IsGroups page.groups
  pub text : IsText page.text
  pub within : length page.text ≤ text_limit

-- A site as edits make it: its aliases lead to its pages, it is no larger than a store may be, and it has paths, groups and texts as calls
-- take them.
pub record IsOfEdits (site : Site) : Type 0 where
  pub is_site : IsSite site
  pub few_pages : map.len site.pages ≤ page_limit
  pub few_aliases : map.len site.aliases ≤ alias_limit
  pub pages : All (λ entry. IsPageOfEdits entry.0 entry.1) (map.entries site.pages)
  pub aliases : All (λ entry. IsPathText entry.0) (map.entries site.aliases)

-- the bytes are a journal of either form, with records of these texts
abbrev pub IsJournal : List ℕ → List (List ℕ) → Type 0
IsJournal file texts = ReadsAs file texts ⊎ IsFirst file texts

-- the edits of a journal, which is known or not, lead from one store to another
abbrev pub LeadsTo : Option (List ℕ) → StoreState → StoreState → Type 0
LeadsTo known old new =
    (texts : List (List ℕ)) × IfSome known (λ file. IsJournal file texts) × (restored None (unstamped old) texts ≡ Ok (unstamped new))

-- records that, restored over a configuration, give a site
abbrev pub GiveSite : List (List ℕ) → StoreState → Site → Type 0
GiveSite texts config site = (after : StoreState) × (restored None (unstamped config) texts ≡ Ok after) × (after.site ≡ site)

-- records of the edits that lead from a configuration's site to another: restored, they give it, where edits can make both
abbrev pub LeadThere : StoreState → Site → List (List ℕ) → Type 0
LeadThere config site texts =
    AreLines texts (compacted config.site site) × (IsOfEdits config.site → IsOfEdits site → GiveSite texts config site)

-- the bytes are a journal of such records
abbrev pub IsJournalTo : StoreState → Site → List ℕ → Type 0
IsJournalTo config site file = (texts : List (List ℕ)) × ReadsAs file texts × LeadThere config site texts

-- the file is one, where it is known
abbrev pub HoldsSite : Option (List ℕ) → StoreState → Site → Type 0
HoldsSite known config site = IfSome known (IsJournalTo config site)

-- The file of a name before and after a compaction: the edits of the journal that it held led from one store to another, and it holds a
-- journal that leads to that one's site from the configuration's.
abbrev pub Compacts : Option (List ℕ) → Option (List ℕ) → StoreState → StoreState → StoreState → Type 0
Compacts before behind config old new = LeadsTo before old new × HoldsSite behind config new.site
