-- What stands at the front of a text.
use Rattle.std.specs.Prelude.{◌≡◌, ℕ, ◌<◌, ◌++◌, length, Some}
use Rattle.doc_rules.specs.Characters.{Text}
use Rattle.doc_rules.specs.BareLinks.{bare_address}

-- a text is this one, and then more
pub record StandsInFront (front text : Text) : Type 0 where
  pub rest : Text
  pub split : text ≡ front ++ rest

-- the rules find this address behind this character, with this put before it in its destination
pub record IsFound (last : ℕ) (text scheme address : Text) : Type 0 where
  pub value : bare_address last text ≡ Some (scheme ++ address, address)
  pub front : StandsInFront address text
  pub some : 0 < length address
