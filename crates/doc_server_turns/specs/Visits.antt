-- What a turn answers where another server is followed: nothing that came in it. All of this is this project's choice.
use Rattle.std.specs.Prelude.{◌≡◌, ◌⊎◌, ◌++◌, ℕ, List, [], ◌∷◌}
use Rattle.doc_hub.specs.Runs.{Happened, sent_on}
use Rattle.doc_hub.specs.RunParts.{AreOf, pushed_on}

-- on a client's connection alone, and it isn't both heard and answered
pub record IsEither (id : ℕ) (run : List Happened) : Type 0 where
  pub own : AreOf id run
  pub either : (pushed_on id run ≡ []) ⊎ (sent_on id run ≡ [])

-- one such part for each of these clients, in their order, is the run
abbrev pub AreEither : List ℕ → List Happened → Type 0
AreEither [] run = run ≡ []
AreEither (id ∷ ids) run = (xs ys : List Happened) × (run ≡ xs ++ ys) × IsEither id xs × AreEither ids ys
