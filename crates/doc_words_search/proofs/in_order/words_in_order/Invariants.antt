use Rattle.std.proofs.Common.{◌≡◌, ℕ, List, [], ◌++◌, chars, string_bytes}
use Rattle.doc_words_search.specs.WordSteps.{words_after}
use Rattle.doc_words_search.proofs.in_order.words_in_order.Given as goal

-- what was found, the run and the rest have, the whole text has
abbrev pub invariant-characters : goal.invariant-characters
invariant-characters l =
    (rest : List ℕ) → l.words.items ++ words_after (chars (string_bytes l.run)) rest ≡ words_after [] (l.yielded ++ rest)
