-- What a client is asked for with 401 (RFC 9110, section 11.6.1).
use Rattle.std.specs.Prelude.{ℕ, ◌==◌, ◌&&◌, nat_le, List, [], ◌∷◌, ◌++◌, chars, codes, if◌then◌else◌}
use Rattle.std.specs.List.{flat_map}

-- A character of a title within a quoted string (RFC 9110, section 5.6.4): `"` and `\` with a `\` before them, and each other from space
-- to `~` as it is. Every other is `?`, since no encoding is defined for what stands there.
abbrev pub quoted_char : ℕ → List ℕ
quoted_char c =
    if c == 34 then codes "\\\"" else (if c == 92 then codes "\\\\" else (if nat_le 32 c && nat_le c 126 then c ∷ [] else codes "?"))

-- the title, each character written so
unfoldable pub quoted_realm : List ℕ → List ℕ
quoted_realm title = flat_map quoted_char (chars title)

-- a token by itself, as programs send it (RFC 6750, section 3); the realm is this project's choice
abbrev pub bearer_challenge : List ℕ
bearer_challenge = codes "Bearer realm=\"docs\""

-- a name and a password, as browsers ask for them (RFC 7617, sections 2 and 2.1); the realm is the title of the site
abbrev pub basic_challenge : List ℕ → List ℕ
basic_challenge title = codes "Basic realm=\"" ++ quoted_realm title ++ codes "\", charset=\"UTF-8\""
