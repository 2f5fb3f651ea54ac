-- What an item takes, and what stands before the rest then.
use Rattle.std.proofs.Common.{◌≡◌, ℕ, ◌+◌, ◌-◌, List, [], ◌∷◌, ◌++◌, length, refl, ap, sym, ◌∙◌, arith, append_assoc, length-append}
use Rattle.std.proofs.lemmas.List.{append_cancel_right}
use Rattle.doc_rules.specs.Characters.{Text, last_or}
use Rattle.doc_rules.specs.Parsers.{before}
use Rattle.doc_rules.specs.Rules.{Rules}
use Rattle.doc_rules.specs.Definitions.{Definition}
use Rattle.doc_rules.specs.Inlines.{Inline}
use Rattle.doc_rules.specs.Reading.{read, read_item}
use Rattle.doc_rules.specs.Rests.{IsRest}
use Rattle.doc_rules.proofs.ParserLaws.{before_rest}
use Rattle.doc_inlines.specs.ReadingSteps.{reading}

-- what stands before a rest
pub before_is : (front rest : Text) → before rest (front ++ rest) ≡ front
before_is front rest = append_cancel_right (before rest (front ++ rest)) front rest
    (sym (before_rest rest (front ++ rest) (record { front = front; split = refl })))

last_of_both : (c : ℕ) (xs ys : Text) (d : ℕ) → last_or c (xs ++ (d ∷ ys)) ≡ last_or d ys
unfolding last_or
last_of_both c [] ys d = refl
last_of_both c (x ∷ xs) ys d = last_of_both x xs ys d

-- characters that are read already are passed over
skipped : (rules : Rules) (refs : List Definition) (last : ℕ) (made : List Inline) (taken rest : Text)
    → read rules refs last made (length taken) (taken ++ rest) ≡ read rules refs (last_or last taken) made 0 rest
unfolding read last_or
skipped rules refs last made [] rest = refl
skipped rules refs last made (c ∷ taken) rest = skipped rules refs c made taken rest

-- an item takes its first character and those behind it up to the new rest
item_reads : (rules : Rules) (refs : List Definition) (behind : Text) (made new : List Inline) (c : ℕ) (taken after : Text) →
    read_item rules refs (last_or 10 behind) made c (taken ++ after) ≡ (new, length taken)
    → reading rules refs behind made (c ∷ (taken ++ after)) ≡ reading rules refs (behind ++ (c ∷ taken)) new after
unfolding read
item_reads rules refs behind made new c taken after e =
    ap (λ step. read rules refs c step.0 step.1 (taken ++ after)) e
    ∙ (skipped rules refs c new taken after ∙ ap (λ last. read rules refs last new 0 after) (sym (last_of_both 10 behind taken c)))

pub item_taken : (rules : Rules) (refs : List Definition) (whole rest more after : Text) (made new : List Inline) (c : ℕ)
    → IsRest rest whole → rest ≡ c ∷ more → IsRest after more →
    read_item rules refs (last_or 10 (before rest whole)) made c more ≡ (new, length more - length after)
    → reading rules refs (before rest whole) made rest ≡ reading rules refs (before after whole) new after
item_taken rules refs whole rest more after made new c h e g f =
    let cut : length more ≡ length (g.front ++ after) = ap length g.split in
    let joined : length (g.front ++ after) ≡ length g.front + length after = length-append g.front after in
    let n : length more - length after ≡ length g.front = omega arith in
    let b : Text = before rest whole in
    let whole_is : whole ≡ (b ++ (c ∷ g.front)) ++ after =
    before_rest rest whole h ∙ (ap (λ r. b ++ r) (e ∙ ap (λ r. c ∷ r) g.split) ∙ sym (append_assoc b (c ∷ g.front) after)) in
    ap (reading rules refs b made) (e ∙ ap (λ r. c ∷ r) g.split)
    ∙ (item_reads rules refs b made new c g.front after (ap (read_item rules refs (last_or 10 b) made c) (sym g.split)
    ∙ (f ∙ ap (λ k. (new, k)) n))
    ∙ ap (λ front. reading rules refs front new after) (sym (ap (before after) whole_is ∙ before_is (b ++ (c ∷ g.front)) after)))
