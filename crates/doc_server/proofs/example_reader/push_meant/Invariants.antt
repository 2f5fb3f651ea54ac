use Rattle.std.proofs.Common.{◌≡◌, ◌++◌, ℕ, List, map}
use Rattle.std.specs.Prelude.{chars, encode_utf8_all, string_bytes}
use Rattle.std.proofs.iter.TextItems.{spells}
use Rattle.std.proofs.lemmas.Iterator.{YieldsList}
use Rattle.doc_server.specs.Examples.{tab_or}
use Rattle.doc_server.proofs.example_reader.push_meant.Given as goal

abbrev pub invariant-loop-c : goal.invariant-loop-c
invariant-loop-c l =
    (rest : List ℕ) × YieldsList spells (λ c. c) l.c-iterator rest
    × (string_bytes l.fn.out ++ encode_utf8_all (map tab_or (chars l.line)) ≡ string_bytes l.out ++ encode_utf8_all (map tab_or rest))
