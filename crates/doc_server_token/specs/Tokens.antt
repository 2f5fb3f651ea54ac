-- Tokens of readers, and the rows by which readers with them are known. All of this is this project's choice.
use Rattle.std.specs.Prelude.{◌≡◌, ⊤, ℕ, List, [], ◌∷◌, ◌++◌, Bool, true, false, codes, length, Result, Ok, Err, String, string_bytes}
use Rattle.std.specs.List.{flat_map}
use Rattle.base64.specs.Engines.{url_safe_no_pad}
use Rattle.base64.specs.GeneralPurpose.{encode_of}
use Rattle.hex.specs.Hex.{encode_lower}
use Rattle.sha2.specs.Sha256.{sha256}
use Rattle.doc_server_token.specs.declared.fault.TokenFault.{TokenFault}
use Rattle.doc_server_token.specs.declared.fault.TokenFault.TheVariants as faults
use Rattle.doc_server_token.specs.declared.new_reader.NewReader.{NewReader}

-- the base64 for URLs of random bytes, without padding (RFC 4648, section 5)
abbrev pub token_of : List ℕ → List ℕ
token_of bytes = encode_of url_safe_no_pad bytes

-- what a configuration has in place of a token: its SHA-256 (FIPS 180-4) in small hexadecimal digits
abbrev pub digest_text : List ℕ → List ℕ
digest_text token = encode_lower (sha256 token)

-- a key with a string in which nothing is to be escaped (TOML 1.0.0, basic strings)
abbrev pub string_line : List ℕ → List ℕ → List ℕ
string_line key text = key ++ codes " = \"" ++ text ++ codes "\"\n"

-- that the reader is an owner, where it is
abbrev pub owner_line : Bool → List ℕ
owner_line true = codes "owner = true\n"
owner_line false = []

-- groups, with a comma between two
abbrev pub some_groups : List ℕ → List (List ℕ) → List ℕ
some_groups first others =
    codes "groups = [\"" ++ first ++ codes "\"" ++ flat_map (λ name. codes ", \"" ++ name ++ codes "\"") others ++ codes "]\n"

-- its groups, where it has some
abbrev pub groups_line : List (List ℕ) → List ℕ
groups_line [] = []
groups_line (first ∷ others) = some_groups first others

-- what stands above the keys of a row: the token in a comment, and the row's header
abbrev pub row_head : List ℕ → List ℕ
row_head token = codes "# token, shown once: " ++ token ++ codes "\n[[reader]]\n"

-- who the reader is: a name, and the digest of the token
abbrev pub identity_lines : List ℕ → List ℕ → List ℕ
identity_lines name token = string_line (codes "name") name ++ string_line (codes "token_sha256") (digest_text token)

-- the row of a reader with this token
abbrev pub row_of : NewReader → List ℕ → List ℕ
row_of reader token =
    row_head token ++ identity_lines reader.name token ++ owner_line reader.is_owner ++ groups_line reader.groups

-- The row of a reader with a token of 32 bytes; or no random bytes were given, or memory ran out. Which bytes a source gives, nobody
-- knows.
abbrev pub IsNewRow : {A : Type 0} → NewReader → Result (String A) TokenFault → Type 0
IsNewRow reader (Ok row) = (bytes : List ℕ) × (length bytes ≡ 32) × (string_bytes row ≡ row_of reader (token_of bytes))
IsNewRow reader (Err faults.NoRandomness) = ⊤
IsNewRow reader (Err faults.Memory) = ⊤
IsNewRow reader (Err other) = ⊥
