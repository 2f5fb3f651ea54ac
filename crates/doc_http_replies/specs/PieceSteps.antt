-- A content whose texts lie apart.
use Rattle.std.specs.Prelude.{ℕ, List, ◌++◌}
use Rattle.std.specs.List.{flat_map}
use Rattle.doc_http_replies.specs.declared.pieces.Pieces.{Pieces}

-- the texts, each behind the one before
abbrev pub content_in : Pieces → List ℕ
content_in pieces = pieces.front.now ++ (flat_map (λ text. text.now) pieces.texts.now ++ pieces.end.now)
