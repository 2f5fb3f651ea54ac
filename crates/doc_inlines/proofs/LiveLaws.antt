-- Whether a bracket is open that may begin a link or an image.
use Rattle.std.proofs.Common.{◌≡◌, ℕ, suc, ◌<◌, ◌≤◌, Bool, true, false, ◌||◌, List, [], ◌∷◌, ◌++◌, length, take, drop, map, reverse}
use Rattle.std.proofs.Common.{refl, ap, ap₂, sym, ◌∙◌, subst, arith, append-nil}
use Rattle.std.specs.Prelude.{nat_le, nat_lt}
use Rattle.std.proofs.lemmas.List.{reverse-append, length-reverse, length-map}
use Rattle.std.proofs.lemmas.Bool.{lt-ltb, le-ltb, leb-true, leb-false, ltb-true, le-leb}
use Rattle.doc_rules.specs.Inlines.{Inline, Open, onto}
use Rattle.doc_rules.specs.Reading.{has_live_bracket}
use Rattle.doc_inlines_emphasis.specs.Marks.{Marks, Placed, seen}
use Rattle.doc_inlines_emphasis.specs.Views.{marks_shown}
use Rattle.doc_inlines_emphasis.proofs.Finals.{AreFinal}
use Rattle.doc_inlines_marks.specs.declared.mark_ref.MarkRef.{MarkRef}
use Rattle.doc_inlines.specs.declared.bracket.Bracket.{Bracket}
use Rattle.doc_inlines.specs.MadeSteps.{OpenBracket, bracket_shown, made_below}
use Rattle.doc_inlines.specs.DraftSteps.{bracket_in, brackets_shown, made_by, holds_image, TellImages}
use Rattle.doc_inlines.proofs.LinkLaws.{NoBracket, no_bracket_seen, onto_first}
use Rattle.doc_inlines.proofs.DraftLaws.{items_final}

-- ---- inlines that are no brackets

pub passed_over : (xs made : List Inline) → NoBracket xs → has_live_bracket (onto xs made) ≡ has_live_bracket made
unfolding has_live_bracket
passed_over [] made h = refl
passed_over (Open k ∷ xs) made h = absurd h
passed_over (x ∷ xs) made h = ap has_live_bracket (onto_first x xs made) ∙ passed_over xs (x ∷ made) h

any_live : ℕ → List OpenBracket → Bool
any_live dead [] = false
any_live dead (bracket ∷ more) = (bracket.image || nat_le dead (length more)) || any_live dead more

live_below : (marks : Marks) (end dead : ℕ) (runs : List Placed) (brackets : List OpenBracket) → AreFinal marks
    → has_live_bracket (made_below marks end dead runs brackets) ≡ any_live dead brackets
unfolding made_below has_live_bracket any_live
live_below marks end dead runs [] h =
    ap has_live_bracket (sym (append-nil (reverse (seen marks 0 end runs))))
    ∙ passed_over (seen marks 0 end runs) [] (no_bracket_seen marks 0 end runs h)
live_below marks end dead runs (bracket ∷ more) h =
    passed_over (seen marks (suc bracket.mark) end (drop bracket.runs runs))
    (Open (bracket_shown dead (length more) bracket) ∷ made_below marks bracket.mark dead (take bracket.runs runs) more)
    (no_bracket_seen marks (suc bracket.mark) end (drop bracket.runs runs) h)
    ∙ ap (λ b. (bracket.image || nat_le dead (length more)) || b) (live_below marks bracket.mark dead (take bracket.runs runs) more h)

-- ---- an image's, or one behind those that are dead

any_image : List OpenBracket → Bool
any_image [] = false
any_image (bracket ∷ more) = bracket.image || any_image more

joined : (i l a m : Bool) → (m ≡ true → l ≡ true) → (i || l) || (a || m) ≡ (i || a) || l
joined true l a m h = refl
joined false true true m h = refl
joined false true false m h = refl
joined false false true m h = refl
joined false false false true h = absurd (let e : false ≡ true = h refl in cc)
joined false false false false h = refl

live_is : (dead : ℕ) (brackets : List OpenBracket) → any_live dead brackets ≡ any_image brackets || nat_lt dead (length brackets)
unfolding any_live any_image
live_is dead [] = sym (le-ltb dead 0 (omega arith))
live_is dead (bracket ∷ more) =
    ap (λ b. (bracket.image || nat_le dead (length more)) || b) (live_is dead more)
    ∙ (joined bracket.image (nat_le dead (length more)) (any_image more) (nat_lt dead (length more)) below
    ∙ ap (λ b. (bracket.image || any_image more) || b) (same (nat_le dead (length more)) refl))
  where
    below : nat_lt dead (length more) ≡ true → nat_le dead (length more) ≡ true
    below e = let l : dead < length more = ltb-true dead (length more) e in le-leb dead (length more) (omega arith)

    same : (b : Bool) → nat_le dead (length more) ≡ b → b ≡ nat_lt dead (suc (length more))
    same true e =
        let l : dead ≤ length more = leb-true dead (length more) e in
        sym (lt-ltb dead (suc (length more)) (omega arith))
    same false e =
        let l : length more < dead = leb-false dead (length more) e in
        sym (le-ltb dead (suc (length more)) (omega arith))

-- ---- by the brackets of the code

turned_image : (xs : List OpenBracket) (brackets : List Bracket) → any_image (xs ++ map bracket_in brackets) ≡ any_image xs || holds_image brackets
unfolding any_image
turned_image [] [] = refl
turned_image [] (b ∷ brackets) = ap (λ v. b.image || v) (turned_image [] brackets)
turned_image (x ∷ xs) brackets = ap (λ v. x.image || v) (turned_image xs brackets) ∙ assoc x.image (any_image xs) (holds_image brackets)
  where
    assoc : (a b c : Bool) → a || (b || c) ≡ (a || b) || c
    assoc true b c = refl
    assoc false b c = refl

map_turned : (brackets : List Bracket) → reverse (map bracket_in brackets) ≡ map bracket_in (reverse brackets)
map_turned [] = refl
map_turned (b ∷ brackets) =
    reverse-append (bracket_in b ∷ []) (map bracket_in brackets)
    ∙ (ap (λ t. t ++ (bracket_in b ∷ [])) (map_turned brackets)
    ∙ (sym (map_both (reverse brackets) (b ∷ [])) ∙ ap (map bracket_in) (sym (reverse-append (b ∷ []) brackets))))
  where
    map_both : (xs ys : List Bracket) → map bracket_in (xs ++ ys) ≡ map bracket_in xs ++ map bracket_in ys
    map_both [] ys = refl
    map_both (x ∷ xs) ys = ap (λ t. bracket_in x ∷ t) (map_both xs ys)

pub live_told : (items : List MarkRef) (runs : List Placed) (brackets : List Bracket) (dead count : ℕ) (image : Bool)
    → image ≡ holds_image (reverse brackets) → count ≡ length brackets
    → (image || nat_lt dead count) ≡ has_live_bracket (made_by items runs brackets dead)
unfolding made_by any_image
live_told items runs brackets dead count image e f =
    let number : length (brackets_shown brackets) ≡ length brackets = length-reverse (map bracket_in brackets)
    ∙ length-map brackets bracket_in in
    ap₂ (λ i n. i || nat_lt dead n) e (f ∙ sym number)
    ∙ (ap (λ i. i || nat_lt dead (length (brackets_shown brackets)))
    (sym (ap any_image (map_turned brackets) ∙ turned_image [] (reverse brackets)))
    ∙ (sym (live_is dead (brackets_shown brackets))
    ∙ sym (live_below (marks_shown items) (length items) dead runs (brackets_shown brackets) (items_final items))))

-- ---- brackets come and go

pub images_told : (old new : List Bracket) (b : Bracket) → TellImages (reverse old) → new ≡ old ++ (b ∷ [])
    → b.images ≡ (b.image || holds_image (reverse old)) → TellImages (reverse new)
images_told old new b h e f = subst TellImages (sym (ap reverse e ∙ reverse-append old (b ∷ []))) (f, h)

pub images_left : (old new : List Bracket) (b : Bracket) → old ≡ new ++ (b ∷ []) → TellImages (reverse old) → TellImages (reverse new)
images_left old new b e h =
    let all : TellImages (b ∷ reverse new) = subst TellImages (ap reverse e ∙ reverse-append new (b ∷ [])) h in
    all.1

pub none_tell : (brackets : List Bracket) → brackets ≡ [] → TellImages (reverse brackets)
none_tell brackets e = subst (λ bs. TellImages (reverse bs)) (sym e) tt

pub no_image : (brackets : List Bracket) → brackets ≡ [] → false ≡ holds_image (reverse brackets)
no_image brackets e = sym (ap (λ bs. holds_image (reverse bs)) e)

pub last_tells : (brackets front : List Bracket) (b : Bracket) → TellImages (reverse brackets) → brackets ≡ front ++ (b ∷ [])
    → b.images ≡ holds_image (reverse brackets)
last_tells brackets front b h e =
    let same : reverse brackets ≡ b ∷ reverse front = ap reverse e ∙ reverse-append front (b ∷ []) in
    let all : TellImages (b ∷ reverse front) = subst TellImages same h in
    all.0 ∙ ap holds_image (sym same)
