-- What a server is given that follows another one. All of this is this project's choice.
use Rattle.std.specs.Prelude.{◌≡◌, ◌≤◌, ⊤, ℕ, List, Option, Some, None, Ok}
use Rattle.doc_media.specs.Media.{Media}
use Rattle.doc_store.specs.Store.{StoreState}
use Rattle.doc_server_follow.specs.declared.followed.Followed.{Followed}
use Rattle.doc_server_restore.specs.Restores.{restored, unstamped}
use Rattle.doc_server_serving.specs.declared.given.Given.{Given}
use Rattle.doc_server_serving.specs.declared.given.Given.TheVariants as givens
use Rattle.docs_server.specs.Followed.{AreAllTaken}
use Rattle.doc_server_files.specs.Configured.{IsConfigured}

-- the pages of some configuration, with the edits of all records on them that some journal was taken to, made beside these media
pub record IsConfiguredTo (followed : Followed) (media : Media) (pages : StoreState) : Type 0 where
  pub config : StoreState
  pub texts : List (List ℕ)
  pub configured : IsConfigured config
  pub taken : AreAllTaken followed texts
  pub made : restored media (unstamped config) texts ≡ Ok (unstamped pages)

-- the same of pages that aren't there where one of these edits was refused
abbrev pub AreConfiguredTo : Followed → Media → Option StoreState → Type 0
AreConfiguredTo followed media None = ⊤
AreConfiguredTo followed media (Some pages) = IsConfiguredTo followed media pages

-- the pages of some configuration, with the edits of all records of some journal on them, made beside these media
abbrev pub IsConfiguredBehind : Media → StoreState → Type 0
IsConfiguredBehind media pages = (followed : Followed) × IsConfiguredTo followed media pages

-- What somebody who follows another server, and has given something so often, has answered: where nothing was given yet, nothing; and of
-- each configuration the pages are those of one, behind the edits of a journal.
abbrev pub HasGiven : ℕ → Option Given → Type 0
HasGiven count None = ⊤
HasGiven count (Some (givens.Configuration given)) = (1 ≤ count) × IsConfiguredBehind given.media given.pages
HasGiven count (Some (givens.Records texts)) = 1 ≤ count
