-- What a server answers that follows another one.
use Rattle.std.specs.Prelude.{◌≡◌, List, ℕ, true, false, None}
use Rattle.doc_http.specs.declared.request.Request.{Request}
use Rattle.doc_hub.specs.Replies.{Renders}
use Rattle.doc_hub.specs.TakingEdits.{left_to}
use Rattle.doc_hub.specs.StepLaws.{is_owners_put}
use Rattle.doc_hub.specs.Worlds.{World, answer_in, asking_of, reader_of}
use Rattle.doc_server_kept.specs.KeptTurns.{IsRestored}
use Rattle.doc_store.specs.Store.{StoreState}

-- a world of whom follows another: its media, its readers and its settings are those of that one, but that it takes no edits
pub record FollowsAs (w f : World) : Type 0 where
  pub media : f.media ≡ w.media
  pub readers : f.readers ≡ w.readers
  pub settings : f.settings ≡ record w.settings { takes_edits = false }

-- Who follows answers as the other did. Where the records of these texts, over one configuration, give the sites of both, each request has
-- the same answer, byte for byte: but an owner's PUT, and whatever else is left to the one that takes edits.
abbrev pub FollowersAnswerAlike : Type 0
FollowersAnswerAlike = (render : Renders) (config : StoreState) (texts : List (List ℕ)) (w f : World) (request : Request)
    → w.settings.takes_edits ≡ true → FollowsAs w f → IsRestored config texts w → IsRestored config texts f
    → is_owners_put (reader_of w request) request ≡ false → left_to f.settings (asking_of f request) request ≡ None
    → answer_in render f request ≡ answer_in render w request
