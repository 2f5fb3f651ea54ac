-- Texts that are cut in two.
use Rattle.std.specs.Prelude.{ℕ, ◌+◌, ◌==◌, List, Option, Some, None, drop, position, take}
use Rattle.doc_server_status.specs.declared.cut.Cut.{Cut}

abbrev pub parts_at : List ℕ → Option ℕ → Option (List ℕ × List ℕ)
parts_at text None = None
parts_at text (Some place) = Some (take place text, drop (place + 1) text)

-- what stands before and behind the first of these bytes
unfoldable pub cut_at : ℕ → List ℕ → Option (List ℕ × List ℕ)
cut_at byte text = parts_at text (position (λ b. b == byte) text)

-- the two parts of a cut text
abbrev pub parts_of : Cut → List ℕ × List ℕ
parts_of cut = (cut.front.now, cut.behind.now)
