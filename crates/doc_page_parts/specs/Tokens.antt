-- Bearer tokens.
use Rattle.std.specs.Prelude.{ℕ, Bool, ◌||◌, ◌&&◌, ◌==◌, List, drop, codes, nat_lt}
use Rattle.std.specs.List.{list_all, list_any, prefix_len}
use Rattle.std.specs.Char.{is_ascii_alphanumeric}

-- a byte of a token before its padding (RFC 6750, section 2.1)
abbrev pub is_token_byte : ℕ → Bool
is_token_byte b = is_ascii_alphanumeric b || list_any (λ c. c == b) (codes "-._~+/")

-- b64token = 1*( ALPHA / DIGIT / "-" / "." / "_" / "~" / "+" / "/" ) *"=" (RFC 6750, section 2.1)
unfoldable pub is_token : List ℕ → Bool
is_token bytes =
    nat_lt 0 (prefix_len is_token_byte bytes) && list_all (λ b. b == 61) (drop (prefix_len is_token_byte bytes) bytes)
