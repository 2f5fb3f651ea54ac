-- The folders that lead to a place, one by one.
use Rattle.std.proofs.Common.{◌≡◌, ℕ, ◌+◌, ◌<◌, ◌≤◌, List, [], ◌∷◌, ◌++◌, length, get_or, take, drop, true, false, ap, sym, ◌∙◌, arith}
use Rattle.std.specs.Prelude.{if◌then◌else◌}
use Rattle.std.specs.List.{flat_map}
use Rattle.std.specs.Str.{IsCharBoundary, IsUtf8}
use Rattle.std.proofs.lemmas.Bool.{eq-eqb, ne_eqb}
use Rattle.std.proofs.lemmas.Str.{IsCharBoundary-after_ascii}
use Rattle.std.proofs.lemmas.List.{append_assoc, append-nil, drop_all, drop_more, take_more}
use Rattle.doc_people.specs.Folders.{is_slash}
use Rattle.doc_people.specs.Navigation.{folders_behind, folders_to}

-- what is still to be written behind so many bytes of a place
abbrev pub left : (List ℕ → List ℕ) → List ℕ → ℕ → List ℕ
left f place i = flat_map f (folders_behind (take i place) (drop i place))

-- one byte further
further : (f : List ℕ → List ℕ) (place : List ℕ) (i : ℕ) → i < length place
    → left f place i ≡ flat_map f ((if is_slash (get_or place i 0) then take (i + 1) place ∷ [] else [])
    ++ folders_behind (take (i + 1) place) (drop (i + 1) place))
further f place i within =
    ap (λ l. flat_map f (folders_behind (take i place) l)) (drop_more place i 0 within)
    ∙ ap (λ l. flat_map f ((if is_slash (get_or place i 0) then l ∷ [] else []) ++ folders_behind l (drop (i + 1) place)))
    (sym (take_more place i 0 within))

-- a byte of a place that is read from a list of its bytes
read_at : (place bytes : List ℕ) (i : ℕ) → bytes ≡ place → get_or place i 0 ≡ get_or bytes i 0
read_at place bytes i same = ap (λ l. get_or l i 0) (sym same)

pub passed : (f : List ℕ → List ℕ) (place bytes : List ℕ) (i : ℕ) (out all : List ℕ) → bytes ≡ place → i < length bytes
    → (get_or bytes i 0 ≡ 47 → ⊥) → out ++ left f place i ≡ all → out ++ left f place (i + 1) ≡ all
passed f place bytes i out all same within other so =
    let inside : i < length place = omega (arith, within, ap length same) in
    let goes : is_slash (get_or place i 0) ≡ false = ap is_slash (read_at place bytes i same) ∙ ne_eqb _ 47 other in
    ap (λ t. out ++ flat_map f ((if t then take (i + 1) place ∷ [] else [])
    ++ folders_behind (take (i + 1) place) (drop (i + 1) place))) (sym goes)
    ∙ ap (λ l. out ++ l) (sym (further f place i inside)) ∙ so

pub written : (f : List ℕ → List ℕ) (place bytes : List ℕ) (i : ℕ) (out new all folder : List ℕ) → bytes ≡ place → i < length bytes
    → get_or bytes i 0 ≡ 47 → folder ≡ take (i + 1) place → new ≡ out ++ f folder → out ++ left f place i ≡ all
    → new ++ left f place (i + 1) ≡ all
written f place bytes i out new all folder same within slash cut more so =
    let inside : i < length place = omega (arith, within, ap length same) in
    let ends : is_slash (get_or place i 0) ≡ true = ap is_slash (read_at place bytes i same) ∙ eq-eqb _ 47 slash in
    ap (λ l. l ++ left f place (i + 1)) (more ∙ ap (λ l. out ++ f l) cut) ∙ append_assoc out (f (take (i + 1) place)) (left f place (i + 1))
    ∙ ap (λ t. out ++ flat_map f ((if t then take (i + 1) place ∷ [] else [])
    ++ folders_behind (take (i + 1) place) (drop (i + 1) place))) (sym ends)
    ∙ ap (λ l. out ++ l) (sym (further f place i inside)) ∙ so

-- a place may be cut behind a `/`
pub cut_after : (place bytes : List ℕ) (i : ℕ) → IsUtf8 place → bytes ≡ place → i < length bytes → get_or bytes i 0 ≡ 47
    → IsCharBoundary place (i + 1)
cut_after place bytes i utf8 same within slash =
    let inside : i < length place = omega (arith, within, ap length same) in
    let there : get_or place i 0 ≡ 47 = read_at place bytes i same ∙ slash in
    IsCharBoundary-after_ascii place i utf8 inside (omega (arith, there))

pub ended : (f : List ℕ → List ℕ) (place : List ℕ) (i : ℕ) (out all : List ℕ) → length place ≤ i → out ++ left f place i ≡ all → out ≡ all
ended f place i out all past so =
    sym (append-nil out) ∙ ap (λ l. out ++ flat_map f (folders_behind (take i place) l)) (sym (drop_all i place past)) ∙ so

pub first_one : (f : List ℕ → List ℕ) (place out new : List ℕ) → new ≡ out ++ f []
    → new ++ left f place 0 ≡ out ++ flat_map f (folders_to place)
unfolding folders_to
first_one f place out new one = ap (λ l. l ++ left f place 0) one ∙ append_assoc out (f []) (left f place 0)
