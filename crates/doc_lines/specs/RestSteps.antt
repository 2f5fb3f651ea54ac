-- What a scanner answers: the text behind what it took, as a list of characters.
use Rattle.std.specs.Prelude.{◌≡◌, ◌<◌, ℕ, Bool, true, not, [], ◌∷◌, ◌++◌, Option, Some, None, chars}
use Rattle.std.specs.List.{list_all}
use denote.Ref.{Bor}
use Rattle.doc_rules.specs.Characters.{Text}
use Rattle.doc_rules.specs.Parsers.{Parser}

-- the characters of the text behind, if there is one
abbrev pub rest_of : Option (Bor Text) → Option Text
rest_of None = None
rest_of (Some rest) = Some (chars rest.now)

-- this code answers whether a character is in the class
abbrev pub IsTestOf : (ℕ → Bool → Type 0) → (ℕ → Bool) → Type 0
IsTestOf answers class = (c : ℕ) (b : Bool) → answers c b → b ≡ class c

-- only ASCII characters are in the class
abbrev pub IsAsciiClass : (ℕ → Bool) → Type 0
IsAsciiClass class = (c : ℕ) → class c ≡ true → c < 128

-- the text ends, or begins with a character of the class
abbrev pub begins_in : (ℕ → Bool) → Text → Bool
begins_in class [] = true
begins_in class (c ∷ rest) = class c

-- the rest of the text begins at its first character of the class, or is empty where there is none
pub record IsCutBefore (class : ℕ → Bool) (text rest : Text) : Type 0 where
  pub front : Text
  pub split : text ≡ front ++ rest
  pub outside : list_all (λ c. not (class c)) front ≡ true
  pub stop : begins_in class rest ≡ true

-- this code answers what a parser leaves of a text
abbrev pub IsScannerOf : (Bor Text → Option (Bor Text) → Type 0) → Parser → Type 0
IsScannerOf answers parser = (text : Bor Text) (found : Option (Bor Text)) → answers text found → rest_of found ≡ parser (chars text.now)
