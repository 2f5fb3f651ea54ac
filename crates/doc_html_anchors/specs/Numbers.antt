-- The form in which anchors are kept: each one with the next number that may be free behind it. This is this project's choice.
use Rattle.std.specs.Prelude.{ℕ, ◌<◌, ◌≤◌, ◌≡◌, true, false, List, map, Some, String, string_bytes, chars}
use Rattle.std.specs.BTreeMap.{BTreeMap, keys, get_by_text}
use Rattle.doc_rules.specs.Characters.{Text}
use Rattle.doc_rules.specs.Anchors.{is_used, with_number}

-- the characters of a name
abbrev pub name_of : {A : Type 0} → String A → Text
name_of name = chars (string_bytes name)

-- the anchors that a map has
abbrev pub names : {A : Type 0} → BTreeMap (String A) ℕ → List Text
names entries = map (λ key. name_of key) (keys entries)

-- NAME-n is used for each n from first on and below n
abbrev pub AreUsed : List Text → Text → ℕ → ℕ → Type 0
AreUsed used name first n = (k : ℕ) → first ≤ k → k < n → is_used used (with_number name k) ≡ true

-- the number that is kept with a name is 1 or more, and those below it are used
abbrev pub AreNumbered : {A : Type 0} → BTreeMap (String A) ℕ → Type 0
AreNumbered entries = (bytes : List ℕ) (n : ℕ) → get_by_text entries bytes ≡ Some n → (1 ≤ n) × AreUsed (names entries) (chars bytes) 1 n

-- n is the least number from this one on that is free
pub record IsNext (used : List Text) (name : Text) (first n : ℕ) : Type 0 where
  pub reached : first ≤ n
  pub is_free : is_used used (with_number name n) ≡ false
  pub below : AreUsed used name first n
