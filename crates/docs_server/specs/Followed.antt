-- What is taken of a journal that another server writes. All of this is this project's choice.
use Rattle.std.specs.Prelude.{◌≡◌, ℕ, List, Ok}
use Rattle.doc_hub.specs.Worlds.{World, store_of, with_store}
use Rattle.doc_server_follow.specs.Follows.{IsBegun}
use Rattle.doc_server_follow.specs.declared.followed.Followed.{Followed}
use Rattle.doc_server_restore.specs.Restores.{restored}

-- the texts of all records of some bytes that read as a journal, which was taken as far as that
pub record AreAllTaken (followed : Followed) (texts : List (List ℕ)) : Type 0 where
  pub bytes : List ℕ
  pub begun : IsBegun bytes (record { followed = followed; texts = texts })

-- All records of a journal were made on a site: it is what they make of it, and all else is as before.
pub record IsFollowed (followed : Followed) (before behind : World) : Type 0 where
  pub texts : List (List ℕ)
  pub taken : AreAllTaken followed texts
  pub gives : restored before.media (store_of before) texts ≡ Ok (store_of behind)
  pub others : behind ≡ with_store before (store_of behind)
