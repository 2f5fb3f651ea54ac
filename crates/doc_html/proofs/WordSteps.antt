-- The first word of an info string.
use Rattle.std.proofs.Common.{◌≡◌, ℕ, Bool, true, false, not, [], ◌∷◌, ◌++◌, refl, ap, sym, ◌∙◌, Option, Some}
use Rattle.std.proofs.lemmas.List.{append_cancel_right}
use Rattle.doc_rules.specs.Characters.{Text, is_space_or_tab, strip_front}
use Rattle.doc_rules.specs.Parsers.{many}
use Rattle.doc_rules.specs.Html.{first_word}

strip_at : (c : ℕ) (rest : Text) (b : Bool) → many is_space_or_tab rest ≡ Some (strip_front is_space_or_tab rest) →
    elim b as (λ _. Option Text) [ true ↦ many is_space_or_tab rest | false ↦ Some (c ∷ rest) ]
    ≡ Some (elim b as (λ _. Text) [ true ↦ strip_front is_space_or_tab rest | false ↦ c ∷ rest ])
strip_at c rest true h = h
strip_at c rest false h = refl

pub many_strips : (text : Text) → many is_space_or_tab text ≡ Some (strip_front is_space_or_tab text)
unfolding many strip_front
many_strips [] = refl
many_strips (c ∷ rest) = strip_at c rest (is_space_or_tab c) (many_strips rest)

behind : Text → Text
behind [] = []
behind (c ∷ rest) = elim (is_space_or_tab c) [ true ↦ c ∷ rest | false ↦ behind rest ]

many_at : (c : ℕ) (rest : Text) (b : Bool) → many (λ d. not (is_space_or_tab d)) rest ≡ Some (behind rest) →
    elim (not b) as (λ _. Option Text) [ true ↦ many (λ d. not (is_space_or_tab d)) rest | false ↦ Some (c ∷ rest) ]
    ≡ Some (elim b as (λ _. Text) [ true ↦ c ∷ rest | false ↦ behind rest ])
many_at c rest true h = refl
many_at c rest false h = h

many_behind : (text : Text) → many (λ d. not (is_space_or_tab d)) text ≡ Some (behind text)
unfolding many behind
many_behind [] = refl
many_behind (c ∷ rest) = many_at c rest (is_space_or_tab c) (many_behind rest)

cut_at : (c : ℕ) (rest : Text) (b : Bool) → rest ≡ first_word rest ++ behind rest →
    c ∷ rest ≡ elim b as (λ _. Text) [ true ↦ [] | false ↦ c ∷ first_word rest ]
    ++ elim b as (λ _. Text) [ true ↦ c ∷ rest | false ↦ behind rest ]
cut_at c rest true h = refl
cut_at c rest false h = ap (λ t. c ∷ t) h

cut : (text : Text) → text ≡ first_word text ++ behind text
unfolding first_word behind
cut [] = refl
cut (c ∷ rest) = cut_at c rest (is_space_or_tab c) (cut rest)

is_behind : (text rest : Text) → Some rest ≡ many (λ d. not (is_space_or_tab d)) text → rest ≡ behind text
is_behind text rest e = let f : Some rest ≡ Some (behind text) = e ∙ many_behind text in cc

is_stripped : (text rest : Text) → Some rest ≡ many is_space_or_tab text → rest ≡ strip_front is_space_or_tab text
is_stripped text rest e = let f : Some rest ≡ Some (strip_front is_space_or_tab text) = e ∙ many_strips text in cc

pub word_is_first : (info start front rest : Text) → Some start ≡ many is_space_or_tab info → start ≡ front ++ rest
    → Some rest ≡ many (λ d. not (is_space_or_tab d)) start →
    front ≡ first_word (strip_front is_space_or_tab info)
word_is_first info start front rest s e f =
    let is : rest ≡ behind start = is_behind start rest f in
    append_cancel_right front (first_word start) rest (sym e ∙ (cut start ∙ ap (λ r. first_word start ++ r) (sym is)))
    ∙ ap first_word (is_stripped info start s)
