-- The token that a request carries.
use Rattle.std.specs.Prelude.{ℕ, ◌&&◌, ◌==◌, List, Option, Some, None, take, drop, position, codes, if◌then◌else◌}
use Rattle.std.specs.List.{prefix_len}
use Rattle.std.specs.Str.{str_eq_ignore_ascii_case}
use Rattle.doc_http.specs.declared.request.Request.{Request}
use Rattle.doc_page_parts.specs.Tokens.{is_token}

-- the bytes from the first that is no space
abbrev pub skip_spaces : List ℕ → List ℕ
skip_spaces bytes = drop (prefix_len (λ b. b == 32) bytes) bytes

-- the token where it is one, behind the scheme `Bearer` in any case (RFC 6750, section 2.1; RFC 9110, section 11.1)
abbrev pub token_behind : List ℕ → List ℕ → Option (List ℕ)
token_behind scheme token =
    if str_eq_ignore_ascii_case scheme (codes "bearer") && is_token token then Some token else None

-- credentials = scheme 1*SP token (RFC 9110, section 11.4), with the place of the first space
abbrev pub credentials_at : List ℕ → Option ℕ → Option (List ℕ)
credentials_at value None = None
credentials_at value (Some at) = token_behind (take at value) (skip_spaces (drop at value))

-- the token of a value of an Authorization field
abbrev pub bearer_in : Option (List ℕ) → Option (List ℕ)
bearer_in None = None
bearer_in (Some value) = credentials_at value (position (λ b. b == 32) value)

-- the token of a request
unfoldable pub bearer_of : Request → Option (List ℕ)
bearer_of request = bearer_in request.authorization
