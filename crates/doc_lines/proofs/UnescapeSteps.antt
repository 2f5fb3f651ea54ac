-- The steps of the loop that reads escapes and references.
use Rattle.std.proofs.Common.{◌≡◌, ℕ, zero, suc, ◌+◌, ◌-◌, [], ◌∷◌, ◌++◌, drop, length, refl, ap, sym, ◌∙◌, Option, Some, None, arith}
use Rattle.std.proofs.Common.{append_assoc, length-append}
use Rattle.std.proofs.lemmas.List.{append_cancel_right}
use Rattle.std.proofs.Math.Seq.{drop-append_seam}
use Rattle.doc_rules.specs.Characters.{Text}
use Rattle.doc_rules.specs.Rules.{Rules}
use Rattle.doc_rules.specs.Escapes.{Meaning, escape_or_reference, meaning, unescape_behind, unescape}
use Rattle.doc_rules.specs.Rests.{IsRest}

-- characters that are read already are passed over
read_already : (rules : Rules) (n : ℕ) (text : Text) → unescape_behind rules n text ≡ unescape rules (drop n text)
unfolding unescape_behind unescape
read_already rules zero text = refl
read_already rules (suc n) [] = refl
read_already rules (suc n) (c ∷ rest) = read_already rules n rest

unescape_cons : (rules : Rules) (c : ℕ) (rest : Text) → unescape rules (c ∷ rest) ≡ (meaning rules c rest).0
    ++ unescape rules (drop (meaning rules c rest).1 rest)
unfolding unescape_behind unescape
unescape_cons rules c rest = ap (λ more. (meaning rules c rest).0 ++ more) (read_already rules (meaning rules c rest).1 rest)

unescape_nil : (rules : Rules) → unescape rules [] ≡ []
unfolding unescape_behind unescape
unescape_nil rules = refl

abbrev or_itself : ℕ → Option Meaning → Meaning
or_itself c found = elim found [ Some those ↦ those | None ↦ (c ∷ [], 0) ]

-- a character that begins neither an escape nor a reference is itself
pub unescape_itself : (rules : Rules) (c : ℕ) (rest : Text) → None ≡ escape_or_reference rules c rest
    → unescape rules (c ∷ rest) ≡ c ∷ unescape rules rest
unfolding meaning
unescape_itself rules c rest e = unescape_cons rules c rest
    ∙ sym (ap (λ found. (or_itself c found).0 ++ unescape rules (drop (or_itself c found).1 rest)) e)

rest_is_dropped : (text rest : Text) → IsRest rest text → drop (length text - length rest) text ≡ rest
rest_is_dropped text rest h =
    let e : length text ≡ length (h.front ++ rest) = ap length h.split in
    let f : length (h.front ++ rest) ≡ length h.front + length rest = length-append h.front rest in
    let n : length text - length rest ≡ length h.front = omega arith in
    ap (λ k. drop k text) n ∙ (ap (drop (length h.front)) h.split ∙ drop-append_seam h.front rest)

-- an escape or a reference is what it means
pub unescape_meant : (rules : Rules) (c : ℕ) (those rest after : Text)
    → Some (those, length rest - length after) ≡ escape_or_reference rules c rest → IsRest after rest →
    unescape rules (c ∷ rest) ≡ those ++ unescape rules after
unfolding meaning
unescape_meant rules c those rest after e h =
    unescape_cons rules c rest
    ∙ (sym (ap (λ found. (or_itself c found).0 ++ unescape rules (drop (or_itself c found).1 rest)) e)
    ∙ ap (λ more. those ++ unescape rules more) (rest_is_dropped rest after h))

-- ---- the loop: what is written, what stands before the rest and isn't written yet, and the rest

pub goes_on : (rules : Rules) (out front rest behind whole : Text) (c : ℕ) → rest ≡ c ∷ behind → None ≡ escape_or_reference rules c behind →
    out ++ (front ++ unescape rules rest) ≡ whole → out ++ ((front ++ c ∷ []) ++ unescape rules behind) ≡ whole
goes_on rules out front rest behind whole c e n f =
    ap (λ more. out ++ more) (append_assoc front (c ∷ []) (unescape rules behind))
    ∙ (sym (ap (λ more. out ++ (front ++ more)) (ap (unescape rules) e ∙ unescape_itself rules c behind n)) ∙ f)

pub writes : (rules : Rules) (out front start rest behind cut mid those new after whole : Text) (c : ℕ) → rest ≡ c ∷ behind
    → start ≡ front ++ rest → start ≡ cut ++ rest →
    mid ≡ out ++ cut → new ≡ mid ++ those → Some (those, length behind - length after) ≡ escape_or_reference rules c behind
    → IsRest after behind →
    out ++ (front ++ unescape rules rest) ≡ whole → new ++ unescape rules after ≡ whole
writes rules out front start rest behind cut mid those new after whole c e s t m n found h f =
    let same : cut ≡ front = append_cancel_right cut front rest (sym t ∙ s) in
    ap (λ more. more ++ unescape rules after) (n ∙ ap (λ more. more ++ those) m)
    ∙ (append_assoc (out ++ cut) those (unescape rules after)
    ∙ (append_assoc out cut (those ++ unescape rules after)
    ∙ (ap (λ more. out ++ (cut ++ more)) (sym (ap (unescape rules) e ∙ unescape_meant rules c those behind after found h))
    ∙ (ap (λ more. out ++ (more ++ unescape rules rest)) same ∙ f))))

pub ends : (rules : Rules) (out front start rest new whole : Text) → rest ≡ [] → start ≡ front ++ rest → new ≡ out ++ start →
    out ++ (front ++ unescape rules rest) ≡ whole → new ≡ whole
ends rules out front start rest new whole e s n f =
    n ∙ (ap (λ more. out ++ more) (s ∙ ap (λ more. front ++ more) (e ∙ sym (ap (unescape rules) e ∙ unescape_nil rules))) ∙ f)
