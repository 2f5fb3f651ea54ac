-- Texts that are packed, after one more, and at a place.
use Rattle.std.proofs.Common.{◌≡◌, ℕ, zero, suc, ◌+◌, ◌-◌, ◌<◌, ◌≤◌, List, [], ◌∷◌, ◌++◌, length, take, drop, get_or, refl, ap, ap₂, sym, ◌∙◌, arith, subst, length-append, length-drop, inl, inr}
use Rattle.std.specs.Borrow.{Bor}
use Rattle.std.specs.Prelude.{slice_index}
use Rattle.std.specs.Str.{IsUtf8, IsCharBoundary}
use Rattle.std.proofs.lemmas.Bool.{cases_lt}
use Rattle.std.proofs.lemmas.List.{map-append, take_more, take-append-le, drop-append-le, get_or_append_left, take_rest}
use Rattle.std.proofs.lemmas.Str.{IsCharBoundary-at_seam, IsCharBoundary-end, IsCharBoundary-start}
use Rattle.doc_index_tables.proofs.CountSteps.{drop_all}
use Rattle.doc_index_tables.specs.Maps.{shown}
use Rattle.doc_index_tables.specs.Packed.{IsPacked, between, start_of, unpacked}

-- a place in a text is one in the text that goes on behind it
boundary_stays : (old more : List ℕ) (n : ℕ) → IsUtf8 more → IsCharBoundary old n → IsCharBoundary (old ++ more) n
boundary_stays old more n u b = elim (cases_lt n (length old)) [
  | inl less ↦ (
    let whole : length (old ++ more) ≡ length old + length more = length-append old more in omega arith,
    λ h big.
        let same : slice_index (old ++ more) n ≡ slice_index old n = get_or_append_left old more 0 n less in
        let low : 128 ≤ slice_index old n = omega arith in
        let high : 192 ≤ slice_index old n = b.1 less low in
        omega arith,
  )
  | inr rest ↦ let all : n ≡ length old = omega (arith, b.0) in subst (λ (k : ℕ). IsCharBoundary (old ++ more) k) (sym all)
      (IsCharBoundary-at_seam (old ++ more) old more refl u)
]

between_stays : (old more : List ℕ) (start end : ℕ) → start ≤ end → end ≤ length old
    → between (old ++ more) start end ≡ between old start end
between_stays old more start end h within =
    ap (take (end - start)) (drop-append-le start old more (omega arith))
    ∙ take-append-le (end - start) (drop start old) more
    (let left : length (drop start old) ≡ length old - start = length-drop start old in omega arith)

-- the text behind all others
between_last : (old more : List ℕ) → between (old ++ more) (length old) (length (old ++ more)) ≡ more
between_last old more =
    take_rest (old ++ more) (length old) ∙ drop-append-le (length old) old more (omega arith)
    ∙ ap (λ front. front ++ more) (drop_all old)

pub packed_more : (old more : List ℕ) (start : ℕ) (ends : List (ℕ × ℕ)) (n : ℕ) → IsUtf8 more → IsPacked old start ends
    → IsPacked (old ++ more) start (ends ++ (length (old ++ more), n) ∷ [])
packed_more old more start [] n u is = (
  let whole : length (old ++ more) ≡ length old + length more = length-append old more in omega (arith, is),
  IsCharBoundary-end (old ++ more),
  refl,
)
packed_more old more start (e ∷ ends) n u is = (is.0, boundary_stays old more e.0 u is.1, packed_more old more e.0 ends n u is.2)

pub unpacked_more : (old more : List ℕ) (start : ℕ) (ends : List (ℕ × ℕ)) (n : ℕ) → IsPacked old start ends
    → unpacked (old ++ more) start (ends ++ (length (old ++ more), n) ∷ []) ≡ unpacked old start ends ++ (more, n) ∷ []
unpacked_more old more start [] n is =
    ap (λ text. (text, n) ∷ []) (ap (λ i. between (old ++ more) i (length (old ++ more))) is ∙ between_last old more)
unpacked_more old more start (e ∷ ends) n is =
    ap₂ (λ text rest. (text, e.1) ∷ rest) (between_stays old more start e.0 is.0 is.1.0) (unpacked_more old more e.0 ends n is.2)

pub length_unpacked : (bytes : List ℕ) (start : ℕ) (ends : List (ℕ × ℕ)) → length (unpacked bytes start ends) ≡ length ends
length_unpacked bytes start [] = refl
length_unpacked bytes start (e ∷ ends) = ap suc (length_unpacked bytes e.0 ends)

pub pushed : (old more new : List ℕ) (ends after : List (ℕ × ℕ)) (end n : ℕ) → IsUtf8 more → new ≡ old ++ more → end ≡ length new
    → after ≡ ends ++ (end, n) ∷ [] → IsPacked old 0 ends
    → IsPacked new 0 after × (unpacked new 0 after ≡ unpacked old 0 ends ++ (more, n) ∷ [])
pushed old more new ends after end n u grown last added is =
    subst (λ es. IsPacked new 0 es × (unpacked new 0 es ≡ unpacked old 0 ends ++ (more, n) ∷ [])) (sym added)
    (subst (λ k. IsPacked new 0 (ends ++ (k, n) ∷ [])
    × (unpacked new 0 (ends ++ (k, n) ∷ []) ≡ unpacked old 0 ends ++ (more, n) ∷ [])) (sym last)
    (subst (λ bytes. IsPacked bytes 0 (ends ++ (length bytes, n) ∷ [])
    × (unpacked bytes 0 (ends ++ (length bytes, n) ∷ []) ≡ unpacked old 0 ends ++ (more, n) ∷ [])) (sym grown)
    (packed_more old more 0 ends n u is, unpacked_more old more 0 ends n is)))

pub in_range : (bytes : List ℕ) (ends : List (ℕ × ℕ)) (items : List (List ℕ × ℕ)) (i : ℕ) → unpacked bytes 0 ends ≡ items
    → i < length items → i < length ends
in_range bytes ends items i is within =
    let same : length ends ≡ length items = sym (length_unpacked bytes 0 ends) ∙ ap length is in omega arith

pub at_place : (bytes : List ℕ) (start : ℕ) (ends : List (ℕ × ℕ)) (i : ℕ) (e : ℕ × ℕ) → i < length ends → IsCharBoundary bytes start
    → IsPacked bytes start ends → e ≡ get_or ends i e
    → (start_of start ends i ≤ e.0) × IsCharBoundary bytes (start_of start ends i) × IsCharBoundary bytes e.0
at_place bytes start [] i e within b is same = absurd (omega (arith, within))
at_place bytes start (f ∷ ends) zero e within b is same =
    (subst (λ x. start ≤ x.0) (sym same) is.0, b, subst (λ x. IsCharBoundary bytes x.0) (sym same) is.1)
at_place bytes start (f ∷ ends) (suc i) e within b is same = at_place bytes f.0 ends i e (omega (arith, within)) is.1 is.2 same

pub text_at : (bytes : List ℕ) (start : ℕ) (ends : List (ℕ × ℕ)) (i : ℕ) (e : ℕ × ℕ) (t : List ℕ × ℕ) → i < length ends
    → e ≡ get_or ends i e → t ≡ (between bytes (start_of start ends i) e.0, e.1) → t ≡ get_or (unpacked bytes start ends) i t
text_at bytes start [] i e t within same is = absurd (omega (arith, within))
text_at bytes start (f ∷ ends) zero e t within same is = is ∙ ap (λ x. (between bytes start x.0, x.1)) same
text_at bytes start (f ∷ ends) (suc i) e t within same is = text_at bytes f.0 ends i e t (omega (arith, within)) same is

start_after : (start : ℕ) (ends : List (ℕ × ℕ)) (i : ℕ) (d : ℕ × ℕ) → i < length ends → (get_or ends i d).0 ≡ start_of start ends (suc i)
start_after start [] i d within = absurd (omega (arith, within))
start_after start (f ∷ ends) zero d within = refl
start_after start (f ∷ ends) (suc i) d within = start_after f.0 ends i d (omega (arith, within))

pub start_before : (ends : List (ℕ × ℕ)) (i : ℕ) (d : ℕ × ℕ) → (i ≡ 0 → ⊥) → i < length ends → (get_or ends (i - 1) d).0 ≡ start_of 0 ends i
start_before ends zero d some within = absurd (some refl)
start_before ends (suc i) d some within =
    let one : suc i - 1 ≡ i = omega arith in ap (λ j. (get_or ends j d).0) one ∙ start_after 0 ends i d (omega (arith, within))

-- the start, the end and the text of a place
pub placed : (bytes : List ℕ) (ends : List (ℕ × ℕ)) (start : ℕ) (e : ℕ × ℕ) (i : ℕ) → IsUtf8 bytes → IsPacked bytes 0 ends → i < length ends
    → e ≡ get_or ends i e → start ≡ start_of 0 ends i
    → (start ≤ e.0) × IsCharBoundary bytes start × IsCharBoundary bytes e.0
placed bytes ends start e i u is within same from =
    subst (λ s. (s ≤ e.0) × IsCharBoundary bytes s × IsCharBoundary bytes e.0) (sym from)
    (at_place bytes 0 ends i e within (IsCharBoundary-start bytes u) is same)

pub text_placed : (bytes : List ℕ) (ends : List (ℕ × ℕ)) (items : List (List ℕ × ℕ)) (start : ℕ) (e : ℕ × ℕ) (i : ℕ) (text : List ℕ)
    → unpacked bytes 0 ends ≡ items → i < length ends → e ≡ get_or ends i e → start ≡ start_of 0 ends i → text ≡ between bytes start e.0
    → ◌≡◌ {A = List ℕ × ℕ} (text, e.1) (get_or items i (text, e.1))
text_placed bytes ends items start e i text view within same from is =
    text_at bytes 0 ends i e (text, e.1) within same
    (ap (λ t. (t, e.1)) (is ∙ ap (λ s. between bytes s e.0) from))
    ∙ ap (λ l. get_or l i (text, e.1)) view

-- one entry more
pub entries_more : (es : List (Bor (List ℕ) × ℕ)) (i : ℕ) (d : Bor (List ℕ) × ℕ) (old new : List (List ℕ × ℕ)) → i < length es
    → old ≡ shown (take i es) → new ≡ old ++ ((get_or es i d).0.now, (get_or es i d).1) ∷ [] → new ≡ shown (take (i + 1) es)
entries_more es i d old new low so_far more =
    more ∙ ap (λ front. front ++ ((get_or es i d).0.now, (get_or es i d).1) ∷ []) so_far
    ∙ sym (ap shown (take_more es i d low) ∙ map-append (λ e. (e.0.now, e.1)) (take i es) (get_or es i d ∷ []))
