-- Bearer tokens are text.
use Rattle.std.proofs.Common.{◌≡◌, ℕ, ◌<◌, Bool, true, false, All, List, [], ◌∷◌, arith, drop, cond, refl, ◌+◌, ap, suc}
use Rattle.std.specs.Prelude.{IsUtf8, ◌==◌, nat_lt}
use Rattle.std.specs.List.{list_all, prefix_len}
use Rattle.std.proofs.lemmas.Bool.{and_parts}
use Rattle.std.proofs.lemmas.Bool.Decides.{nat_tests}
use Rattle.std.proofs.lemmas.Str.{IsUtf8-from_ascii}
use Rattle.std.proofs.lemmas.Str.Ascii.{IsAscii-from_all}
use Rattle.std.proofs.lemmas.List.Elements.{All-cons, All-nil}
use Rattle.doc_page_parts.specs.Tokens.{is_token, is_token_byte}

token_byte_is_ascii : (b : ℕ) → is_token_byte b ≡ true → b < 128
token_byte_is_ascii b token = grind (arith, nat_tests)

padding_is_ascii : (bytes : List ℕ) → list_all (λ b. b == 61) bytes ≡ true → All (λ b. b < 128) bytes
padding_is_ascii [] padding = All-nil (λ b. b < 128)
padding_is_ascii (b ∷ rest) padding =
    let parts = and_parts (b == 61) (list_all (λ c. c == 61) rest) padding in
    let first : b < 128 = grind (arith, nat_tests, parts.0) in
    All-cons (λ c. c < 128) b rest first (padding_is_ascii rest parts.1)

ascii_from_parts : (bytes : List ℕ) → list_all (λ b. b == 61) (drop (prefix_len is_token_byte bytes) bytes) ≡ true
    → All (λ b. b < 128) bytes
ascii_from_parts [] padding = All-nil (λ b. b < 128)
ascii_from_parts (b ∷ rest) padding = by_test (ascii_from_parts rest) (is_token_byte b) refl padding
  where
    by_test : (list_all (λ c. c == 61) (drop (prefix_len is_token_byte rest) rest) ≡ true → All (λ c. c < 128) rest) → (t : Bool)
        → is_token_byte b ≡ t
        → list_all (λ c. c == 61) (drop (cond t (1 + prefix_len is_token_byte rest) 0) (b ∷ rest)) ≡ true → All (λ c. c < 128) (b ∷ rest)
    by_test later true first padding =
        let behind : drop (1 + prefix_len is_token_byte rest) (b ∷ rest)
        ≡ drop (prefix_len is_token_byte rest) rest = (let next : 1 + prefix_len is_token_byte rest
        ≡ suc (prefix_len is_token_byte rest) = omega arith in ap (λ n. drop n (b ∷ rest)) next) in
        All-cons (λ c. c < 128) b rest (token_byte_is_ascii b first) (later (rw behind at padding))
    by_test later false first padding = padding_is_ascii (b ∷ rest) padding

-- a bearer token is text: its bytes are ASCII
pub token_is_text : (bytes : List ℕ) → is_token bytes ≡ true → IsUtf8 bytes
unfolding is_token
token_is_text bytes token =
    let parts = and_parts (nat_lt 0 (prefix_len is_token_byte bytes))
    (list_all (λ b. b == 61) (drop (prefix_len is_token_byte bytes) bytes)) token in
    IsUtf8-from_ascii _ (IsAscii-from_all _ (ascii_from_parts bytes parts.1))
