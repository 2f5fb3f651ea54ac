-- Where a slice of a text stands.
use Rattle.std.specs.Prelude.{◌≡◌, ◌++◌}
use Rattle.doc_rules.specs.Characters.{Text}

-- this slice stands in the text, in front of what is behind
pub record StandsBefore (slice behind text : Text) : Type 0 where
  pub front : Text
  pub between : Text
  pub split : text ≡ front ++ (slice ++ (between ++ behind))
