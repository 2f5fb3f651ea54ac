-- The rest of a text: what a parser leaves of it is its end.
use Rattle.std.specs.Prelude.{◌≡◌, ◌++◌}
use Rattle.doc_rules.specs.Characters.{Text}

-- the rest is the end of the text
pub record IsRest (rest text : Text) : Type 0 where
  pub front : Text
  pub split : text ≡ front ++ rest
