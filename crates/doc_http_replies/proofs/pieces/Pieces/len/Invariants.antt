use Rattle.std.proofs.Common.{◌≡◌, ◌++◌, length, take}
use Rattle.std.specs.List.{flat_map}
use Rattle.doc_http_replies.proofs.pieces.Pieces.len.Given as goal

-- the texts so far are counted
abbrev pub invariant-loop-text : goal.invariant-loop-text
invariant-loop-text l = l.len ≡ length (l.self.front.now ++ flat_map (λ text. text.now) (take l.text-index l.self.texts.now))
