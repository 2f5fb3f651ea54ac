-- What a reader entry names its reader by. All of this is this project's choice.
use Rattle.std.specs.Prelude.{ℕ, List, Bool, ◌&&◌, ◌||◌, nat_le, codes, Option, Some, None, option_map, option_and_then, if◌then◌else◌}
use Rattle.std.specs.List.{list_all}
use Rattle.std.specs.Result.{result_ok}
use Rattle.hex.specs.Hex.{decode_sized}
use Rattle.toml.specs.Data.{Data, get, as_str}
use Rattle.doc_store_readers.specs.declared.keys.Key.{Key}
use Rattle.doc_store_readers.specs.declared.keys.Key.TheVariants.{Token, Digest}
use Rattle.doc_page_parts.specs.Tokens.{is_token}

-- the token, where a string is one
abbrev pub good_token : Option (List ℕ) → Option (List ℕ)
good_token None = None
good_token (Some text) = if is_token text then Some text else None

-- a digit, or a letter from `a` to `f`
abbrev pub is_digit : ℕ → Bool
is_digit b = nat_le 48 b && nat_le b 57 || nat_le 97 b && nat_le b 102

-- the 32 bytes of 64 such digits, two for each
abbrev pub digest_of_text : List ℕ → Option (List ℕ)
digest_of_text text = if list_all is_digit text then result_ok (decode_sized text 32) else None

-- what these two name: a token, or the digest of one, and not both
abbrev pub key_of : Option Data → Option Data → Option Key
key_of None None = None
key_of (Some token) None = option_map Token (good_token (as_str token))
key_of None (Some digest) = option_map Digest (option_and_then digest_of_text (as_str digest))
key_of (Some token) (Some digest) = None

-- the key of a reader entry
abbrev pub key_in : Data → Option Key
key_in entry = key_of (get (codes "token") entry) (get (codes "token_sha256") entry)
