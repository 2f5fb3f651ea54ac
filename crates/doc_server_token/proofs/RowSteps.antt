-- Texts to which one piece after the other is added.
use Rattle.std.proofs.Common.{◌≡◌, ℕ, List, [], ◌++◌, append_assoc, refl}
use Rattle.doc_server_token.specs.declared.new_reader.NewReader.{NewReader}
use Rattle.doc_server_token.specs.Tokens.{row_of, token_of}

pub two_written : (old a b first second : List ℕ) → first ≡ old ++ a → second ≡ first ++ b → second ≡ old ++ (a ++ b)
two_written old a b first second has_a has_b = rw (has_b, has_a) (append_assoc old a b)

pub four_written : (old a b c d first second third fourth : List ℕ) → first ≡ old ++ a → second ≡ first ++ b → third ≡ second ++ c
    → fourth ≡ third ++ d → fourth ≡ old ++ (a ++ b ++ c ++ d)
four_written old a b c d first second third fourth has_a has_b has_c has_d = rw (has_d, has_c, has_b, has_a) (simp append_assoc)

pub five_written : (old a b c d e first second third fourth fifth : List ℕ) → first ≡ old ++ a → second ≡ first ++ b → third ≡ second ++ c
    → fourth ≡ third ++ d → fifth ≡ fourth ++ e → fifth ≡ old ++ (a ++ b ++ c ++ d ++ e)
five_written old a b c d e first second third fourth fifth has_a has_b has_c has_d has_e =
    rw (has_e, has_d, has_c, has_b, has_a) (simp append_assoc)

-- a row in a text that was empty
pub row_written : (reader : NewReader) (old new token bytes : List ℕ) → old ≡ [] → token ≡ token_of bytes → new ≡ old ++ row_of reader token
    → new ≡ row_of reader (token_of bytes)
row_written reader old new token bytes none is has = rw (has, none, is) refl
