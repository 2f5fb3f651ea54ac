-- Texts whose first character begins no definition, and what definitions leave.
use Rattle.std.proofs.Common.{◌≡◌, ℕ, Bool, true, false, List, [], ◌∷◌, length, chars, refl, ap, sym, ◌∙◌, arith}
use Rattle.std.specs.Prelude.{◌==◌, Option, Some, None, option_and_then}
use Rattle.std.specs.Str.{IsUtf8}
use Rattle.std.proofs.lemmas.Bool.{ne_eqb}
use Rattle.doc_rules.specs.Characters.{Text, is_space_or_tab, strip_end}
use Rattle.doc_rules.specs.Parsers.{is, maybe, passing, before, inside, is_nothing}
use Rattle.doc_rules.specs.Rules.{Rules}
use Rattle.doc_rules.specs.Forests.{◌▹◌}
use Rattle.doc_rules.specs.Blocks.{Leaf, Blocks, with_text}
use Rattle.doc_rules.specs.Labels.{label, label_text, is_label}
use Rattle.doc_rules.specs.Definitions.{Definition, DefinitionSource, margin, after_label, definition_source, definitions_of}
use Rattle.doc_lines.proofs.Ends.{empty_is_nothing}
use Rattle.doc_refs_parts.specs.Targets.{Targets, targets_of, joined}
use Rattle.doc_refs_parts.proofs.MapLaws.{joined-empty}
use Rattle.doc_refs_parts.proofs.TakenLaws.{none_more}

-- ---- the first character

not_this : (k c : ℕ) (rest : Text) → (c == k) ≡ false → is k (c ∷ rest) ≡ None
not_this k c rest e = ap (λ (b : Bool). elim b [ true ↦ Some rest | false ↦ None ]) e

no_space : (c : ℕ) (rest : Text) → (c == 32) ≡ false → maybe (is 32) (c ∷ rest) ≡ Some (c ∷ rest)
no_space c rest e = ap (λ (o : Option Text). elim o [ Some behind ↦ Some behind | None ↦ Some (c ∷ rest) ]) (not_this 32 c rest e)

no_margin : (c : ℕ) (rest : Text) → (c == 32) ≡ false → margin (c ∷ rest) ≡ Some (c ∷ rest)
no_margin c rest e =
    let one : maybe (is 32) (c ∷ rest) ≡ Some (c ∷ rest) = no_space c rest e in
    ap (λ o. option_and_then (maybe (is 32)) (option_and_then (maybe (is 32)) o)) one ∙ (ap (option_and_then (maybe (is 32))) one ∙ one)

no_label : (c : ℕ) (rest : Text) → (c == 91) ≡ false → label (c ∷ rest) ≡ None
unfolding label
no_label c rest e = ap (λ (o : Option Text). option_and_then (is 93) (option_and_then (passing is_label label_text) o))
    (not_this 91 c rest e)

abbrev labelled : Text → Option Text → Option DefinitionSource
labelled start found = elim found [ None ↦ None | Some behind ↦ after_label (inside (before behind start)) behind ]

no_source : (c : ℕ) (rest : Text) → (c == 32) ≡ false → (c == 91) ≡ false → definition_source (c ∷ rest) ≡ None
unfolding definition_source
no_source c rest s b =
    ap (λ (o : Option Text). elim o [ None ↦ None | Some start ↦ labelled start (label start) ]) (no_margin c rest s)
    ∙ ap (labelled (c ∷ rest)) (no_label c rest b)

no_source_at_end : definition_source [] ≡ None
unfolding definition_source label
no_source_at_end = refl

pub none_at_other : (rules : Rules) (text rest : Text) (c : ℕ) → text ≡ c ∷ rest → (c == 32) ≡ false → (c == 91) ≡ false
    → definitions_of rules text ≡ ([], text)
none_at_other rules text rest c e s b = ap (definitions_of rules) e
    ∙ (none_more rules (c ∷ rest) (sym (no_source c rest s b)) ∙ ap (λ (t : Text). ([], t)) (sym e))

pub none_at_end : (rules : Rules) (text : Text) → text ≡ [] → definitions_of rules text ≡ ([], text)
none_at_end rules text e = ap (definitions_of rules) e ∙ (none_more rules [] (sym no_source_at_end) ∙ ap (λ (t : Text). ([], t)) (sym e))

-- ---- what they leave

pub nothing_joins : (refs : Targets) (found : List Definition × Text) (text : Text) → found ≡ ([], text)
    → refs ≡ joined refs (targets_of found.0)
nothing_joins refs found text e = sym (joined-empty refs) ∙ ap (λ (f : List Definition × Text). joined refs (targets_of f.0)) (sym e)

pub all_is_left : (found : List Definition × Text) (text : Text) → found ≡ ([], text) → text ≡ found.1
all_is_left found text e = ap (λ (f : List Definition × Text). f.1) (sym e)

pub text_is_left : (leaf : Text → Leaf) (before : Blocks) (text found stripped more : Text) (c : ℕ) → text ≡ c ∷ more → text ≡ found
    → stripped ≡ strip_end is_space_or_tab text →
    before ▹ leaf stripped ≡ with_text leaf found before
unfolding with_text
text_is_left leaf before text found stripped more c e f s =
    ap (λ t. before ▹ leaf t) (s ∙ ap (strip_end is_space_or_tab) e) ∙ ap (λ t. with_text leaf t before) (sym e ∙ f)

pub no_text_is_left : (leaf : Text → Leaf) (before : Blocks) (text found : Text) → text ≡ [] → text ≡ found
    → before ≡ with_text leaf found before
unfolding with_text
no_text_is_left leaf before text found e f = ap (λ t. with_text leaf t before) (sym e ∙ f)

no_length : (text : Text) → is_nothing text ≡ (length text == 0)
no_length [] = refl
no_length (c ∷ rest) = sym (ne_eqb (length (c ∷ rest)) 0 (λ k. omega arith))

pub empty_by_chars : (bytes : List ℕ) (left : Text) → IsUtf8 bytes → chars bytes ≡ left → (length bytes == 0) ≡ (length left == 0)
empty_by_chars bytes left u e = empty_is_nothing bytes u ∙ (no_length (chars bytes) ∙ ap (λ (t : Text). length t == 0) e)
