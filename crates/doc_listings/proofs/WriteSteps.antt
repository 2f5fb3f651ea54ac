-- What is written at the end of a buffer.
use Rattle.std.proofs.Common.{◌≡◌, ℕ, List, [], ◌++◌, append-nil, ap, sym, ◌∙◌}
use Rattle.std.specs.Prelude.{OnErr, OnOk, Result, Ok, Err}
use Rattle.std.proofs.lemmas.List.{append_assoc}

-- three texts were written, one behind the other
pub framed : (old reserved first second third before middle after : List ℕ) → reserved ≡ old → first ≡ reserved ++ before
    → second ≡ first ++ middle → third ≡ second ++ after → third ≡ old ++ (before ++ (middle ++ after))
framed old reserved first second third before middle after room one two three =
    let begun : first ≡ old ++ before = one ∙ ap (λ text. text ++ before) room in
    let inner : second ≡ (old ++ before) ++ middle = two ∙ ap (λ text. text ++ middle) begun in
    three ∙ ap (λ text. text ++ after) inner ∙ append_assoc (old ++ before) middle after ∙ append_assoc old before (middle ++ after)

-- two were
pub joined : (old first second before after : List ℕ) → first ≡ old ++ before → second ≡ first ++ after → second ≡ old ++ (before ++ after)
joined old first second before after one two = two ∙ ap (λ text. text ++ after) one ∙ append_assoc old before after

-- four were
pub fourfold : (old one two three four a b c d : List ℕ) → one ≡ old ++ a → two ≡ one ++ b → three ≡ two ++ c → four ≡ three ++ d
    → four ≡ old ++ (a ++ b ++ c ++ d)
fourfold old one two three four a b c d first second third fourth =
    let inner : three ≡ old ++ (a ++ b ++ c) =
    third ∙ ap (λ text. text ++ c) (joined old one two a b first second) ∙ append_assoc old (a ++ b) c in
    fourth ∙ ap (λ text. text ++ d) inner ∙ append_assoc old (a ++ b ++ c) d

-- what stands where a call is refused
pub on_err : {X E P : Type 0} (r : Result X E) → P → OnErr r P
on_err (Ok x) p = tt
on_err (Err e) p = p

-- a text that begins anew, with what a call writes behind its start
pub begun : {X E : Type 0} (r : Result X E) (cleared one new start text path : List ℕ) (written : List ℕ → List ℕ) → cleared ≡ []
    → one ≡ cleared ++ start → text ≡ path → OnOk r (new ≡ one ++ written text) → OnOk r (new ≡ start ++ written path ++ [])
begun (Ok x) cleared one new start text path written empty first same is =
    is ∙ ap (λ front. front ++ written text) (first ∙ ap (λ front. front ++ start) empty) ∙ ap (λ t. start ++ written t) same
    ∙ sym (append-nil (start ++ written path))
begun (Err e) cleared one new start text path written empty first same is = tt
