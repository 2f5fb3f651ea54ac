-- The terms of words.
use Rattle.std.proofs.Common.{◌≡◌, ℕ, ◌<◌, ◌≤◌, List, [], ◌∷◌, ◌++◌, if◌then◌else◌, ap, sym, ◌∙◌, append-nil, append_assoc, length, refl}
use Rattle.std.proofs.lemmas.Bool.{le-ltb, lt-ltb}
use Rattle.doc_people.specs.Terms.{exact_terms, terms_behind, terms_with}
use Rattle.doc_people.specs.declared.term.Term.{Term}
use Rattle.doc_people.specs.declared.term.Term.TheVariants.{Prefix}

behind : (before words : List (List ℕ)) (last : List ℕ) → terms_behind before (words ++ last ∷ []) ≡ terms_with (before ++ words) last
behind before [] last = ap (λ ws. terms_with ws last) (sym (append-nil before))
behind before (word ∷ []) last = refl
behind before (word ∷ other ∷ words) last =
    behind (before ++ word ∷ []) (other ∷ words) last
    ∙ ap (λ ws. terms_with ws last) (append_assoc before (word ∷ []) (other ∷ words))

pub of_last : (all words : List (List ℕ)) (last : List ℕ) → all ≡ words ++ last ∷ [] → terms_with words last ≡ terms_behind [] all
of_last all words last e = sym (ap (terms_behind []) e ∙ behind [] words last)

pub short_is : (words all : List (List ℕ)) (last : List ℕ) (terms : List Term) → length last < 3 → all ≡ words ++ last ∷ []
    → terms ≡ exact_terms all → terms ≡ terms_with words last
short_is words all last terms less e is =
    is ∙ ap exact_terms e
    ∙ sym (ap (λ b. if b then exact_terms (words ++ last ∷ []) else exact_terms words ++ Prefix last ∷ []) (lt-ltb (length last) 3 less))

pub long_is : (words : List (List ℕ)) (last : List ℕ) (front terms : List Term) → 3 ≤ length last → front ≡ exact_terms words
    → terms ≡ front ++ Prefix last ∷ [] → terms ≡ terms_with words last
long_is words last front terms least f is =
    is ∙ ap (λ ts. ts ++ Prefix last ∷ []) f
    ∙ sym (ap (λ b. if b then exact_terms (words ++ last ∷ []) else exact_terms words ++ Prefix last ∷ []) (le-ltb (length last) 3 least))
