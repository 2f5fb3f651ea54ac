use Rattle.std.proofs.Common.{◌≡◌, ◌++◌, take, string_bytes}
use Rattle.std.specs.List.{flat_map}
use Rattle.doc_http_replies.proofs.pieces.Pieces.push.Given as goal

-- the texts so far are written
abbrev pub invariant-loop-text : goal.invariant-loop-text
invariant-loop-text l =
    string_bytes l.out ≡ string_bytes l.fn.out ++ (l.self.front.now ++ flat_map (λ text. text.now) (take l.text-index l.self.texts.now))
