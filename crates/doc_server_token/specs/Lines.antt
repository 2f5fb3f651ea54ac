-- The line of a token.
use Rattle.std.specs.Prelude.{◌≡◌, ◌≤◌, ◌⊎◌, ⊤, ℕ, List, [], ◌∷◌, ◌==◌, false, true, length, if◌then◌else◌, Result, Ok, Err, String, string_bytes}
use Rattle.doc_page_parts.specs.Tokens.{is_token}
use Rattle.doc_server_streams.specs.Streams.{one_more}
use Rattle.doc_server_token.specs.declared.fault.TokenFault.{TokenFault}
use Rattle.doc_server_token.specs.declared.fault.TokenFault.TheVariants as faults
use Rattle.doc_server_token.specs.Tokens.{digest_text}

-- the bytes in front of the first line feed, or all where there is none
abbrev pub line_of : List ℕ → List ℕ
line_of [] = []
line_of (b ∷ rest) = if b == 10 then [] else b ∷ line_of rest

-- a line is read up to here
abbrev pub line_limit : ℕ
line_limit = 16384

-- What is told of an input: the digest of the token in its first line; that this is no token, or too long for one; or the input can't be
-- read, or memory ran out.
abbrev pub IsDigestOf : {A : Type 0} → List ℕ → Result (String A) TokenFault → Type 0
IsDigestOf left (Ok text) = (is_token (line_of left) ≡ true) × (string_bytes text ≡ digest_text (line_of left))
IsDigestOf left (Err faults.NoToken) = (is_token (line_of left) ≡ false) ⊎ (line_limit ≤ length (line_of left))
IsDigestOf left (Err faults.CannotRead) = ⊤
IsDigestOf left (Err faults.Memory) = ⊤
IsDigestOf left (Err other) = ⊥

-- how many reads of an input have failed behind a call that ended so: one more exactly where it answers that the input can't be read
abbrev pub failed_reads_after : {X : Type 0} → ℕ → Result X TokenFault → ℕ
failed_reads_after before (Err faults.CannotRead) = one_more before
failed_reads_after before result = before
