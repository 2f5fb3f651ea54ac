-- The token that a browser sends as the password of a login (RFC 7617).
use Rattle.std.specs.Prelude.{ℕ, ◌+◌, ◌&&◌, ◌==◌, not, Bool, List, Option, Some, None, take, drop, position, codes, if◌then◌else◌}
use Rattle.std.specs.List.{list_all}
use Rattle.std.specs.Option.{option_and_then}
use Rattle.std.specs.Str.{chars, is_utf8, str_eq_ignore_ascii_case}
use Rattle.base64.specs.Engines.{standard}
use Rattle.base64.specs.GeneralPurpose.{decoded_of}
use Rattle.doc_http.specs.declared.request.Request.{Request}
use Rattle.doc_http.specs.Bearers.{bearer_in, skip_spaces}
use Rattle.doc_page_parts.specs.Paths.{is_control}
use Rattle.doc_page_parts.specs.Tokens.{is_token}

-- the text, where it stands behind the scheme `Basic` in any case (RFC 7617, section 2)
abbrev pub text_behind : List ℕ → List ℕ → Option (List ℕ)
text_behind scheme text = if str_eq_ignore_ascii_case scheme (codes "basic") then Some text else None

-- credentials = scheme 1*SP text (RFC 9110, section 11.4), with the place of the first space
abbrev pub text_at : List ℕ → Option ℕ → Option (List ℕ)
text_at value None = None
text_at value (Some at) = text_behind (take at value) (skip_spaces (drop at value))

-- the text of a login, in a value of an Authorization field
abbrev pub basic_text : List ℕ → Option (List ℕ)
basic_text value = text_at value (position (λ b. b == 32) value)

-- a name that may stand in a login: UTF-8 without control characters (RFC 7617, section 2). It may be empty
abbrev pub is_user : List ℕ → Bool
is_user bytes = is_utf8 bytes && list_all (λ c. not (is_control c)) (chars bytes)

-- the password, where it is a token and the name may stand before it
abbrev pub password_behind : List ℕ → List ℕ → Option (List ℕ)
password_behind user password = if is_user user && is_token password then Some password else None

-- user-pass = user-id ":" password (RFC 7617, section 2), with the place of the first colon
abbrev pub password_at : List ℕ → Option ℕ → Option (List ℕ)
password_at bytes None = None
password_at bytes (Some at) = password_behind (take at bytes) (drop (at + 1) bytes)

-- the password of a login's bytes, where it is a token. The name isn't looked up: this project's choice
abbrev pub password_of : List ℕ → Option (List ℕ)
password_of bytes = password_at bytes (position (λ b. b == 58) bytes)

-- the token of a value of an Authorization field by RFC 7617, whose text is the base64 of its bytes (RFC 4648, section 4): padded, and
-- with no spare bit set
unfoldable pub password_in : List ℕ → Option (List ℕ)
password_in value = option_and_then password_of (option_and_then (decoded_of standard) (basic_text value))

-- a bearer's token where there is one; else the password, where logins are understood
abbrev pub or_password : Bool → List ℕ → Option (List ℕ) → Option (List ℕ)
or_password login value (Some token) = Some token
or_password login value None = if login then password_in value else None

-- the token of the value of a request's Authorization field, with or without logins
abbrev pub token_in : Bool → Option (List ℕ) → Option (List ℕ)
token_in login None = None
token_in login (Some value) = or_password login value (bearer_in (Some value))

-- the token of a request, with or without logins
unfoldable pub token_asking : Bool → Request → Option (List ℕ)
token_asking login request = token_in login request.authorization
