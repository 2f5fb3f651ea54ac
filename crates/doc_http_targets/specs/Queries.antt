-- The query of a target (RFC 3986, section 3.4), read as a form (URL Standard, section 5.1).
use Rattle.std.specs.Prelude.{ℕ, List, [], ◌∷◌, ◌==◌, bytes_eq, Option, Some, None, unwrap_or, if◌then◌else◌}
use Rattle.std.specs.List.{after_first}
use Rattle.std.specs.Str.Lossy.{utf8_lossy}
use Rattle.form_urlencoded.specs.Form.{raw_pairs, decode}

-- what follows the first `?` of a target, or nothing
abbrev pub query_of : List ℕ → List ℕ
query_of target = after_first (λ b. b == 63) target

-- the text that an encoded name or value stands for: `+` is a space, percent-encoded bytes are decoded, and what is no UTF-8 then becomes
-- U+FFFD
abbrev pub text_of : List ℕ → List ℕ
text_of encoded = utf8_lossy (decode encoded)

-- the value of the first pair of this name
abbrev pub first_value : List ℕ → List (List ℕ × List ℕ) → Option (List ℕ)
first_value name [] = None
first_value name (pair ∷ pairs) = if bytes_eq (text_of pair.0) name then Some (text_of pair.1) else first_value name pairs

-- the same in a query
unfoldable pub value_of : List ℕ → List ℕ → Option (List ℕ)
value_of query name = first_value name (raw_pairs query)

-- the same in a target's query
abbrev pub optional_parameter : List ℕ → List ℕ → Option (List ℕ)
optional_parameter target name = value_of (query_of target) name

-- the same; empty where there is none
abbrev pub parameter : List ℕ → List ℕ → List ℕ
parameter target name = unwrap_or (optional_parameter target name) []
