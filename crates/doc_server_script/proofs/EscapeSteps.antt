-- Reading an escaped text, byte by byte.
use Rattle.std.proofs.Common.{◌≡◌, ℕ, List, [], ◌∷◌, ◌++◌, refl, ap, sym}
use Rattle.std.specs.Prelude.{Option, Some, None}
use Rattle.std.proofs.lemmas.List.{append-nil, append_assoc}
use Rattle.doc_server_script.specs.Escapes.{in_front, unescaped}

-- bytes in front of what a text stands for
abbrev pub behind : List ℕ → Option (List ℕ) → Option (List ℕ)
behind bytes None = None
behind bytes (Some rest) = Some (bytes ++ rest)

pub behind_none : (rest : Option (List ℕ)) → rest ≡ behind [] rest
behind_none None = refl
behind_none (Some rest) = refl

-- one byte more was read
pub behind_more : (bytes : List ℕ) (b : ℕ) (rest : Option (List ℕ)) → behind bytes (in_front (Some b) rest) ≡ behind (bytes ++ b ∷ []) rest
behind_more bytes b None = refl
behind_more bytes b (Some rest) = ap Some (sym (append_assoc bytes (b ∷ []) rest))

-- all were read
pub behind_all : (bytes : List ℕ) → behind bytes (unescaped []) ≡ Some bytes
unfolding unescaped
behind_all bytes = ap Some (append-nil bytes)
