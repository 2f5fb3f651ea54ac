-- Lines that were written, one behind the other.
use Rattle.std.proofs.Common.{◌≡◌, ℕ, List, ◌++◌, refl, ap, ◌∙◌}
use Rattle.std.proofs.lemmas.List.{append_assoc}

pub two_written : (old first second a b : List ℕ) → first ≡ old ++ a → second ≡ first ++ b → second ≡ old ++ (a ++ b)
two_written old first second a b one two = rw (two, one, append_assoc) refl

pub six_written : (old first second third fourth fifth sixth a b c d e f : List ℕ) → first ≡ old ++ a → second ≡ first ++ b
    → third ≡ second ++ c → fourth ≡ third ++ d → fifth ≡ fourth ++ e → sixth ≡ fifth ++ f → sixth ≡ old ++ (a ++ b ++ c ++ d ++ e ++ f)
six_written old first second third fourth fifth sixth a b c d e f one two three four five six =
    six ∙ ap (λ t. t ++ f) (five ∙ ap (λ t. t ++ e) (four ∙ ap (λ t. t ++ d) (three ∙ ap (λ t. t ++ c) (two ∙ ap (λ t. t ++ b) one))))
    ∙ simp append_assoc
