-- What is written at the end of a buffer, part behind part.
use Rattle.std.proofs.Common.{◌≡◌, ℕ, List, ◌++◌}
use Rattle.doc_page_parts.proofs.BufferSteps.{both_written, five_written}

pub three_written : (old a b c one two new : List ℕ) → one ≡ old ++ a → two ≡ one ++ b → new ≡ two ++ c → new ≡ old ++ (a ++ b ++ c)
three_written old a b c one two new first second third =
    both_written old (a ++ b) c two new (both_written old a b one two first second) third

pub six_written : (old a b c d e f one two three four five new : List ℕ) → one ≡ old ++ a → two ≡ one ++ b → three ≡ two ++ c
    → four ≡ three ++ d → five ≡ four ++ e → new ≡ five ++ f → new ≡ old ++ (a ++ b ++ c ++ d ++ e ++ f)
six_written old a b c d e f one two three four five new first second third fourth fifth sixth =
    both_written old _ f five new (five_written old a b c d e one two three four five first second third fourth fifth) sixth

pub seven_written : (old a b c d e f g one two three four five six new : List ℕ) → one ≡ old ++ a → two ≡ one ++ b → three ≡ two ++ c
    → four ≡ three ++ d → five ≡ four ++ e → six ≡ five ++ f → new ≡ six ++ g → new ≡ old ++ (a ++ b ++ c ++ d ++ e ++ f ++ g)
seven_written old a b c d e f g one two three four five six new first second third fourth fifth sixth seventh =
    both_written old _ g six new (six_written old a b c d e f one two three four five six first second third fourth fifth sixth) seventh

pub eight_written : (old a b c d e f g h one two three four five six seven new : List ℕ) → one ≡ old ++ a → two ≡ one ++ b
    → three ≡ two ++ c → four ≡ three ++ d → five ≡ four ++ e → six ≡ five ++ f → seven ≡ six ++ g → new ≡ seven ++ h
    → new ≡ old ++ (a ++ b ++ c ++ d ++ e ++ f ++ g ++ h)
eight_written old a b c d e f g h one two three four five six seven new first second third fourth fifth sixth seventh eighth =
    both_written old _ h seven new
    (seven_written old a b c d e f g one two three four five six seven first second third fourth fifth sixth seventh) eighth
