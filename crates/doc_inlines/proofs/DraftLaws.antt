-- Drafts that grow.
use Rattle.std.proofs.Common.{◌≡◌, Bool, true, false, ◌||◌, ap₂, reverse, chars, ℕ, zero, suc, ◌+◌, ◌≤◌, List, [], ◌∷◌, ◌++◌, length}
use Rattle.std.proofs.Common.{get_or, map, refl, ap, sym, ◌∙◌, subst, arith, length-append}
use denote.Ref.{Bor}
use Rattle.std.specs.Prelude.{nat_le}
use Rattle.std.proofs.lemmas.Bool.{le-leb}
use Rattle.std.proofs.lemmas.List.{map-append, length-map, length-replicate, length-reverse, reverse-append}
use Rattle.std.proofs.Math.Bool.{or-true}
use Rattle.doc_rules.specs.Inlines.{Inline, Delimiters, Open, literals, onto}
use Rattle.doc_rules.specs.Characters.{Text}
use Rattle.doc_inlines_emphasis.specs.Marks.{Placed, ArePlaced, IsFinal}
use Rattle.doc_inlines_emphasis.proofs.Stretches.{Agree, placed_at}
use Rattle.doc_inlines_emphasis.proofs.Growing.{seen_none}
use Rattle.doc_inlines_emphasis.proofs.Finals.{AreFinal, final_marks}
use Rattle.doc_inlines_marks.specs.declared.mark_ref.MarkRef.{MarkRef}
use Rattle.doc_inlines_marks.specs.declared.mark_ref.MarkRef.TheVariants as mark
use Rattle.doc_inlines_marks.specs.Views.{inlines_in}
use Rattle.doc_inlines_emphasis.specs.Views.{marks_shown}
use Rattle.doc_inlines_emphasis.specs.RunSteps.{delimiter}
use Rattle.doc_inlines_emphasis.specs.declared.delimiter.Delimiter.{Delimiter}
use Rattle.doc_inlines_emphasis.specs.Texts.{IsRunText, AreEach, AddsEach, fresh_run}
use Rattle.doc_inlines.specs.declared.bracket.Bracket.{Bracket}
use Rattle.doc_inlines.specs.MadeSteps.{text_of_bracket, made_below, AreBrackets}
use Rattle.doc_inlines.specs.DraftSteps.{bracket_in, brackets_shown, made_by, AreOpen, IsRunOf, codes_of_bracket, AddsBracket}
use Rattle.doc_inlines.proofs.MadeLaws.{made_mark, brackets_mark, made_run, brackets_run, made_bracket, brackets_bracket}

-- ---- marks stand for no runs and no brackets

final_literals : (text : Text) → IsFinal (literals text)
final_literals [] = tt
final_literals (c ∷ text) = final_literals text

final_mark : (m : MarkRef) → IsFinal (inlines_in m)
unfolding inlines_in
final_mark (mark.Text text) = final_literals (chars text.now)
final_mark (mark.Code text) = tt
final_mark mark.Soft = tt
final_mark mark.Hard = tt
final_mark (mark.Raw text) = tt
final_mark (mark.Reference reference) = tt
final_mark (mark.Start span) = tt
final_mark (mark.End span) = tt

pub items_final : (items : List MarkRef) → AreFinal (marks_shown items)
items_final items = final_marks inlines_in final_mark items

-- ---- an empty draft

pub nothing_made : (items : List MarkRef) (runs : List Placed) (brackets : List Bracket) → items ≡ [] → runs ≡ [] → brackets ≡ []
    → made_by items runs brackets 0 ≡ []
unfolding made_by made_below
nothing_made items runs brackets e f g =
    ap (λ those. made_by those runs brackets 0) e ∙ (ap (λ those. made_by [] those brackets 0) f
    ∙ (ap (λ those. made_by [] [] those 0) g ∙ ap reverse (seen_none [] 0)))

pub nothing_open : (items : List MarkRef) (runs : List Placed) (brackets : List Bracket) → items ≡ [] → runs ≡ [] → brackets ≡ []
    → AreOpen items runs brackets
nothing_open items runs brackets e f g =
    subst (λ those. AreOpen those runs brackets) (sym e)
    (subst (λ those. AreOpen [] those brackets) (sym f) (subst (λ those. AreOpen [] [] those) (sym g) (record { stand = omega arith })))

-- ---- marks behind all

agree_appended : (xs ys : List (List Inline)) → Agree xs (xs ++ ys) 0 (length xs)
agree_appended [] ys i l h = absurd (omega arith)
agree_appended (x ∷ xs) ys zero l h = refl
agree_appended (x ∷ xs) ys (suc i) l h = agree_appended xs ys i (omega arith) (omega arith)

at_end : (xs : List (List Inline)) (y : List Inline) (ys : List (List Inline)) → get_or (xs ++ (y ∷ ys)) (length xs) [] ≡ y
at_end [] y ys = refl
at_end (x ∷ xs) y ys = at_end xs y ys

pub agree_grown : (items added : List MarkRef) → Agree (marks_shown items) (marks_shown (items ++ added)) 0 (length items)
agree_grown items added =
    subst (λ next. Agree (marks_shown items) next 0 (length items)) (sym (map-append inlines_in items added))
    (subst (λ n. Agree (marks_shown items) (marks_shown items ++ marks_shown added) 0 n) (length-map items inlines_in)
    (agree_appended (marks_shown items) (marks_shown added)))

pub mark_at_end : (items : List MarkRef) (m : MarkRef) → get_or (marks_shown (items ++ (m ∷ []))) (length items) [] ≡ inlines_in m
mark_at_end items m =
    ap (λ next. get_or next (length items) []) (map-append inlines_in items (m ∷ []))
    ∙ (ap (λ n. get_or (marks_shown items ++ (inlines_in m ∷ [])) n []) (sym (length-map items inlines_in))
    ∙ at_end (marks_shown items) (inlines_in m) [])

one_longer : (items : List MarkRef) (m : MarkRef) → length (items ++ (m ∷ [])) ≡ suc (length items)
one_longer items m = let n : length (items ++ (m ∷ [])) ≡ length items + 1 = length-append items (m ∷ []) in omega arith

pub put_made : (items next : List MarkRef) (runs new : List Placed) (brackets : List Bracket) (dead : ℕ) (m : MarkRef)
    → AreOpen items runs brackets → next ≡ items ++ (m ∷ []) → new ≡ runs →
    made_by next new brackets dead ≡ onto (inlines_in m) (made_by items runs brackets dead)
unfolding made_by
put_made items next runs new brackets dead m h e f =
    ap (λ those. made_by those new brackets dead) e
    ∙ (ap (λ those. made_by (items ++ (m ∷ [])) those brackets dead) f
    ∙ (ap (λ n. made_below (marks_shown (items ++ (m ∷ []))) n dead runs (brackets_shown brackets)) (one_longer items m)
    ∙ (made_mark (marks_shown items) (marks_shown (items ++ (m ∷ []))) (length items) dead runs (brackets_shown brackets) h.stand
    (agree_grown items (m ∷ []))
    ∙ ap (λ x. onto x (made_by items runs brackets dead)) (mark_at_end items m))))

pub put_open : (items next : List MarkRef) (runs new : List Placed) (brackets : List Bracket) (m : MarkRef) → AreOpen items runs brackets
    → next ≡ items ++ (m ∷ []) → new ≡ runs → AreOpen next new brackets
put_open items next runs new brackets m h e f =
    subst (λ those. AreOpen those new brackets) (sym e)
    (subst (λ those. AreOpen (items ++ (m ∷ [])) those brackets) (sym f)
    (record {
      stand = brackets_mark (marks_shown items) (marks_shown (items ++ (m ∷ []))) (length items) (length (items ++ (m ∷ []))) runs
          (brackets_shown brackets) h.stand (agree_grown items (m ∷ []))
          (let n : length (items ++ (m ∷ [])) ≡ suc (length items) = one_longer items m in omega arith);
    }))

-- ---- a run behind all

each_length : (added : List MarkRef) (text : Text) → AreEach added text → length added ≡ length text
each_length [] [] h = refl
each_length [] (c ∷ text) h = absurd h
each_length (m ∷ added) [] h = absurd h
each_length (m ∷ added) (c ∷ text) h = ap (λ n. suc n) (each_length added text h.1)

pub run_of : (own : Delimiter) (text : Text) → (r : IsRunText own text) → IsRunOf r.more (delimiter own) text
run_of own text r = record { same = r.is }

run_end : (items next : List MarkRef) (n c : ℕ) (text : Text) → IsRunOf n c text → AddsEach items next text
    → length next ≡ length items + suc n
run_end items next n c text r a =
    let l : length next ≡ length (items ++ a.added) = ap length a.behind in
    let m : length (items ++ a.added) ≡ length items + length a.added = length-append items a.added in
    let k : length a.added ≡ suc n = each_length a.added text a.each ∙ (ap length r.same ∙ length-replicate (suc n) c) in
    omega arith

agree_each : (items next : List MarkRef) (text : Text) → AddsEach items next text
    → Agree (marks_shown items) (marks_shown next) 0 (length items)
agree_each items next text a = subst (λ those. Agree (marks_shown items) (marks_shown those) 0 (length items)) (sym a.behind)
    (agree_grown items a.added)

pub run_made : (items next : List MarkRef) (runs new : List Placed) (brackets : List Bracket) (dead n c : ℕ) (opens closes : Bool)
    (text : Text) → AreOpen items runs brackets →
    IsRunOf n c text → AddsEach items next text → new ≡ runs ++ (fresh_run (length items) c (suc n) opens closes ∷ [])
    → ArePlaced (marks_shown next) 0 (length next) new →
    made_by next new brackets dead ≡ Delimiters (record { char = c; left = suc n; length = suc n; opens = opens; closes = closes }) ∷
    made_by items runs brackets dead
unfolding made_by
run_made items next runs new brackets dead n c opens closes text h r a e placed =
    let p : Placed = fresh_run (length items) c (suc n) opens closes in
    let own : ArePlaced (marks_shown next) 0 (length next) (runs ++ (p ∷ [])) = subst
    (λ those. ArePlaced (marks_shown next) 0 (length next) those) e placed in
    ap (λ those. made_by next those brackets dead) e
    ∙ (ap (λ k. made_below (marks_shown next) k dead (runs ++ (p ∷ [])) (brackets_shown brackets)) (run_end items next n c text r a)
    ∙ made_run (marks_shown items) (marks_shown next) (length items) dead runs p (brackets_shown brackets) h.stand
    (agree_each items next text a) refl (omega arith)
    (placed_at (marks_shown next) 0 (length next) runs p [] own).1)

pub run_open : (items next : List MarkRef) (runs new : List Placed) (brackets : List Bracket) (n c : ℕ) (opens closes : Bool) (text : Text)
    → AreOpen items runs brackets →
    IsRunOf n c text → AddsEach items next text → new ≡ runs ++ (fresh_run (length items) c (suc n) opens closes ∷ [])
    → ArePlaced (marks_shown next) 0 (length next) new → AreOpen next new brackets
run_open items next runs new brackets n c opens closes text h r a e placed =
    let p : Placed = fresh_run (length items) c (suc n) opens closes in
    let own : ArePlaced (marks_shown next) 0 (length next) (runs ++ (p ∷ [])) = subst
    (λ those. ArePlaced (marks_shown next) 0 (length next) those) e placed in
    subst (λ those. AreOpen next those brackets) (sym e)
    (record {
      stand = subst (λ k. AreBrackets (marks_shown next) k (runs ++ (p ∷ [])) (brackets_shown brackets))
          (sym (run_end items next n c text r a))
          (brackets_run (marks_shown items) (marks_shown next) (length items) runs p (brackets_shown brackets) h.stand
          (agree_each items next text a) refl (omega arith)
          (placed_at (marks_shown next) 0 (length next) runs p [] own).1);
    })

-- ---- a bracket behind all

text_of_codes : (image : Bool) → literals (codes_of_bracket image) ≡ text_of_bracket image
text_of_codes true = refl
text_of_codes false = refl

pub shown_more : (brackets : List Bracket) (b : Bracket) → brackets_shown (brackets ++ (b ∷ [])) ≡ bracket_in b ∷ brackets_shown brackets
shown_more brackets b = ap reverse (map-append bracket_in brackets (b ∷ [])) ∙ reverse-append (map bracket_in brackets) (bracket_in b ∷ [])

pub bracket_made : (items next : List MarkRef) (runs new : List Placed) (brackets more : List Bracket) (dead : ℕ) (b : Bracket)
    (text : Bor Text) → AreOpen items runs brackets → dead ≤ length brackets →
    b.place.marks ≡ length items → b.place.runs ≡ length runs → chars text.now ≡ codes_of_bracket b.image
    → next ≡ items ++ (mark.Text text ∷ []) → new ≡ runs → more ≡ brackets ++ (b ∷ []) →
    made_by next new more dead ≡ Open (record { image = b.image; live = true; behind = chars b.behind.now }) ∷ made_by items runs brackets
    dead
unfolding made_by
bracket_made items next runs new brackets more dead b text h l e f t g k m =
    let grown : List MarkRef = items ++ (mark.Text text ∷ []) in
    let number : length (brackets_shown brackets) ≡ length brackets = length-reverse (map bracket_in brackets)
    ∙ length-map brackets bracket_in in
    let live : (b.image || nat_le dead (length (brackets_shown brackets))) ≡ true = ap (λ n. b.image || nat_le dead n) number
    ∙ (ap (λ v. b.image || v) (le-leb dead (length brackets) l) ∙ or-true b.image) in
    ap (λ those. made_by those new more dead) g
    ∙ (ap (λ those. made_by grown those more dead) k
    ∙ (ap₂ (λ n those. made_below (marks_shown grown) n dead runs those) (one_longer items (mark.Text text)) (ap brackets_shown m
    ∙ shown_more brackets b)
    ∙ (made_bracket (marks_shown items) (marks_shown grown) (length items) dead runs (bracket_in b) (brackets_shown brackets) h.stand
    (agree_grown items (mark.Text text ∷ [])) e f
    ∙ ap (λ v. Open (record { image = b.image; live = v; behind = chars b.behind.now }) ∷ made_by items runs brackets dead) live)))

pub bracket_open : (items next : List MarkRef) (runs new : List Placed) (brackets more : List Bracket) (b : Bracket) (text : Bor Text)
    → AreOpen items runs brackets →
    b.place.marks ≡ length items → b.place.runs ≡ length runs → chars text.now ≡ codes_of_bracket b.image
    → next ≡ items ++ (mark.Text text ∷ []) → new ≡ runs → more ≡ brackets ++ (b ∷ []) →
    AreOpen next new more
unfolding inlines_in
bracket_open items next runs new brackets more b text h e f t g k m =
    let grown : List MarkRef = items ++ (mark.Text text ∷ []) in
    let own : get_or (marks_shown grown) (length items) [] ≡ text_of_bracket b.image = mark_at_end items (mark.Text text)
    ∙ (ap literals t ∙ text_of_codes b.image) in
    subst (λ those. AreOpen those new more) (sym g)
    (subst (λ those. AreOpen grown those more) (sym k)
    (record {
      stand = subst (λ those. AreBrackets (marks_shown grown) (length grown) runs those) (sym (ap brackets_shown m ∙ shown_more brackets b))
          (subst (λ n. AreBrackets (marks_shown grown) n runs (bracket_in b ∷ brackets_shown brackets))
          (sym (one_longer items (mark.Text text)))
          (brackets_bracket (marks_shown items) (marks_shown grown) (length items) runs (bracket_in b) (brackets_shown brackets) h.stand
          (agree_grown items (mark.Text text ∷ [])) e f own));
    }))

pub still_below : (brackets more : List Bracket) (dead : ℕ) (b : Bracket) → dead ≤ length brackets → more ≡ brackets ++ (b ∷ [])
    → dead ≤ length more
still_below brackets more dead b l e =
    let n : length more ≡ length (brackets ++ (b ∷ [])) = ap length e in
    let m : length (brackets ++ (b ∷ [])) ≡ length brackets + 1 = length-append brackets (b ∷ []) in
    omega arith

pub adds_bracket : (old new : List Bracket) (b : Bracket) → new ≡ old ++ (b ∷ []) → AddsBracket old new (chars b.behind.now)
adds_bracket old new b e = record { bracket = b; added = e; same = refl }
