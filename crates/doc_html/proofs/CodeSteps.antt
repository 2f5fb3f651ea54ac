-- Texts cut at their line endings.
use Rattle.std.proofs.Common.{◌≡◌, ℕ, Bool, true, false, not, [], ◌∷◌, ◌++◌, refl, ap, sym, ◌∙◌, Option, Some}
use Rattle.std.specs.Prelude.{◌==◌, if◌then◌else◌}
use Rattle.std.proofs.lemmas.List.{append_cancel_right}
use Rattle.doc_rules.specs.Characters.{Text}
use Rattle.doc_rules.specs.CodeSpans.{spaced}
use Rattle.doc_rules.specs.Parsers.{many}

pub in_line : ℕ → Bool
in_line c = not (c == 10)

-- what stands before the first line ending, and what from it on
line : Text → Text
line [] = []
line (c ∷ rest) = elim (c == 10) [ true ↦ [] | false ↦ c ∷ line rest ]

behind : Text → Text
behind [] = []
behind (c ∷ rest) = elim (c == 10) [ true ↦ c ∷ rest | false ↦ behind rest ]

many_at : (c : ℕ) (rest : Text) (b : Bool) → many (λ d. not (d == 10)) rest ≡ Some (behind rest) →
    elim (not b) as (λ _. Option Text) [ true ↦ many (λ d. not (d == 10)) rest | false ↦ Some (c ∷ rest) ]
    ≡ Some (elim b as (λ _. Text) [ true ↦ c ∷ rest | false ↦ behind rest ])
many_at c rest true h = refl
many_at c rest false h = h

many_behind : (text : Text) → many (λ d. not (d == 10)) text ≡ Some (behind text)
unfolding many behind
many_behind [] = refl
many_behind (c ∷ rest) = many_at c rest (c == 10) (many_behind rest)

cut_at : (c : ℕ) (rest : Text) (b : Bool) → rest ≡ line rest ++ behind rest →
    c ∷ rest ≡ elim b as (λ _. Text) [ true ↦ [] | false ↦ c ∷ line rest ]
    ++ elim b as (λ _. Text) [ true ↦ c ∷ rest | false ↦ behind rest ]
cut_at c rest true h = refl
cut_at c rest false h = ap (λ t. c ∷ t) h

cut : (text : Text) → text ≡ line text ++ behind text
unfolding line behind
cut [] = refl
cut (c ∷ rest) = cut_at c rest (c == 10) (cut rest)

spaced_at : (c : ℕ) (rest : Text) (b : Bool) → spaced rest ≡ line rest ++ spaced (behind rest)
    → (b ≡ true → spaced (c ∷ rest) ≡ 32 ∷ spaced rest) →
    (if b then 32 else c) ∷ spaced rest ≡ elim b as (λ _. Text) [ true ↦ [] | false ↦ c ∷ line rest ]
    ++ spaced (elim b as (λ _. Text) [ true ↦ c ∷ rest | false ↦ behind rest ])
spaced_at c rest true h g = sym (g refl)
spaced_at c rest false h g = ap (λ t. c ∷ t) h

spaced_first : (c : ℕ) (rest : Text) → c == 10 ≡ true → spaced (c ∷ rest) ≡ 32 ∷ spaced rest
unfolding spaced
spaced_first c rest e = ap (λ b. (if b then 32 else c) ∷ spaced rest) e

spaced_cut : (text : Text) → spaced text ≡ line text ++ spaced (behind text)
unfolding line behind spaced
spaced_cut [] = refl
spaced_cut (c ∷ rest) = spaced_at c rest (c == 10) (spaced_cut rest) (spaced_first c rest)

first_at : (c : ℕ) (rest : Text) (b : Bool) (d : ℕ) (after : Text) → b ≡ (c == 10) → (behind rest ≡ d ∷ after → d == 10 ≡ true) →
    elim b as (λ _. Text) [ true ↦ c ∷ rest | false ↦ behind rest ] ≡ d ∷ after → d == 10 ≡ true
first_at c rest true d after e h f = let same : c ≡ d = cc in ap (λ n. n == 10) (sym same) ∙ sym e
first_at c rest false d after e h f = h f

first : (text : Text) (d : ℕ) (after : Text) → behind text ≡ d ∷ after → d == 10 ≡ true
unfolding behind
first [] d after e = cc
first (c ∷ rest) d after e = first_at c rest (c == 10) d after refl (first rest d after) e

is_behind : (text rest : Text) → Some rest ≡ many (λ d. not (d == 10)) text → rest ≡ behind text
is_behind text rest e = let f : Some rest ≡ Some (behind text) = e ∙ many_behind text in cc

pub one_line : (text front rest : Text) (d : ℕ) (after : Text) → text ≡ front ++ rest → Some rest ≡ many (λ d. not (d == 10)) text
    → rest ≡ d ∷ after →
    spaced text ≡ front ++ 32 ∷ spaced after
one_line text front rest d after e f g =
    let is : rest ≡ behind text = is_behind text rest f in
    let start : front ≡ line text = append_cancel_right front (line text) rest (sym e ∙ (cut text ∙ ap (λ r. line text ++ r) (sym is))) in
    let end : spaced (behind text) ≡ 32 ∷ spaced after = ap spaced (sym is ∙ g) ∙ spaced_first d after (first text d after (sym is ∙ g)) in
    spaced_cut text ∙ (ap (λ r. line text ++ r) end ∙ ap (λ s. s ++ 32 ∷ spaced after) (sym start))

pub last_line : (text front rest : Text) → text ≡ front ++ rest → Some rest ≡ many (λ d. not (d == 10)) text → rest ≡ []
    → spaced text ≡ text
unfolding spaced
last_line text front rest e f g =
    let is : behind text ≡ [] = sym (is_behind text rest f) ∙ g in
    spaced_cut text ∙ (ap (λ r. line text ++ spaced r) is ∙ (ap (λ r. line text ++ r) (sym is) ∙ sym (cut text)))
