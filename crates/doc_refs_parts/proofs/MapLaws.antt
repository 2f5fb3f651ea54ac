-- Maps of targets, by look-ups.
use Rattle.std.proofs.Common.{◌≡◌, Bool, true, false, cond, List, [], ◌∷◌, ◌++◌, map, refl, ap, sym, ◌∙◌}
use Rattle.std.specs.Prelude.{Option, Some, None, bytes_eq}
use Rattle.std.specs.Cmp.Lexicographic.{slice_cmp, nat_list_cmp_total, nat_list_eq_equiv}
use Rattle.std.specs.FinMap.{find, get, empty, entries, get-empty, get-entries, get-from_entries, same_map}
use Rattle.std.specs.Ordering.{nat_cmp, eq_by_cmp}
use Rattle.std.proofs.lemmas.Map.Lookups.{exact_bytes}
use Rattle.std.proofs.lemmas.Map.Text.{is_eq-slice_cmp}
use Rattle.std.proofs.lemmas.Slice.Eq.{bytes_eq-Decides}
use Rattle.doc_rules.specs.Characters.{Text}
use Rattle.doc_rules.specs.Definitions.{Definition, find_reference}
use Rattle.doc_rules.specs.Destinations.{Target}
use Rattle.doc_rules.specs.Labels.{normal_label}
use Rattle.doc_refs_parts.specs.Laws.{FindsTheReference, JoinsDefinitions}
use Rattle.doc_refs_parts.specs.Targets.{Targets, targets_of, joined, single}

-- ---- what stands under a name

-- the target of the first pair with this name
abbrev pub named : List (Text × Target) → Text → Option Target
named pairs name = find (slice_cmp nat_cmp) name pairs

-- whether two names are the same
abbrev pub is_name : Text → Text → Bool
is_name name other = eq_by_cmp (slice_cmp nat_cmp) name other

pub is_name-same : (name other : Text) → is_name name other ≡ true → name ≡ other
is_name-same name other e = (bytes_eq-Decides name other).0 (sym (is_eq-slice_cmp name other) ∙ e)

pub same_targets : (first second : Targets) → ((name : Text) → get first name ≡ get second name) → first ≡ second
same_targets first second h = same_map nat_list_cmp_total exact_bytes first second h

-- ---- one of two

abbrev pub first_of : Option Target → Option Target → Option Target
first_of None other = other
first_of (Some target) other = Some target

first_of-choice : (b : Bool) (target : Target) (first second : Option Target)
    → first_of (cond b (Some target) first) second ≡ cond b (Some target) (first_of first second)
first_of-choice true target first second = refl
first_of-choice false target first second = refl

pub first_of-none : (first : Option Target) → first_of first None ≡ first
first_of-none None = refl
first_of-none (Some target) = refl

named-both : (xs ys : List (Text × Target)) (name : Text) → named (xs ++ ys) name ≡ first_of (named xs name) (named ys name)
named-both [] ys name = refl
named-both (pair ∷ xs) ys name =
    ap (cond (is_name name pair.0) (Some pair.1)) (named-both xs ys name)
    ∙ sym (first_of-choice (is_name name pair.0) pair.1 (named xs name) (named ys name))

pub get-joined : (first second : Targets) (name : Text) → get (joined first second) name ≡ first_of (get first name) (get second name)
get-joined first second name =
    get-from_entries nat_list_cmp_total (entries first ++ entries second) name
    ∙ named-both (entries first) (entries second) name
    ∙ ap (λ o. first_of o (named (entries second) name)) (sym (get-entries first name))
    ∙ ap (first_of (get first name)) (sym (get-entries second name))

pub get-single : (name : Text) (target : Target) (other : Text)
    → get (single name target) other ≡ cond (is_name other name) (Some target) None
get-single name target other = get-from_entries nat_list_cmp_total ((name, target) ∷ []) other

pub joined-empty : (targets : Targets) → joined targets empty ≡ targets
joined-empty targets = same_targets (joined targets empty) targets (λ name.
    get-joined targets empty name ∙ ap (first_of (get targets name)) (get-empty (slice_cmp nat_cmp) name)
    ∙ first_of-none (get targets name))

-- ---- what definitions name

abbrev pairs_of : List Definition → List (Text × Target)
pairs_of definitions = map (λ d. (normal_label d.label, d.target)) definitions

chosen : (a b : Bool) (target : Target) (o p : Option Target) → a ≡ b → o ≡ p
    → cond a (Some target) o ≡ elim b [ true ↦ Some target | false ↦ p ]
chosen true true target o p e h = refl
chosen true false target o p e h = absurd cc
chosen false true target o p e h = absurd cc
chosen false false target o p e h = h

named-reference : (definitions : List Definition) (name : Text)
    → named (pairs_of definitions) (normal_label name) ≡ find_reference definitions name
unfolding find_reference
named-reference [] name = refl
named-reference (d ∷ more) name =
    chosen (is_name (normal_label name) (normal_label d.label)) (bytes_eq (normal_label d.label) (normal_label name)) d.target
    (named (pairs_of more) (normal_label name)) (find_reference more name)
    (is_eq-slice_cmp (normal_label name) (normal_label d.label) ∙ nat_list_eq_equiv.symm (normal_label name) (normal_label d.label))
    (named-reference more name)

pub finds_the_reference : FindsTheReference
finds_the_reference definitions name = get-from_entries nat_list_cmp_total (pairs_of definitions) (normal_label name)
    ∙ named-reference definitions name

pairs-both : (first later : List Definition) → pairs_of (first ++ later) ≡ pairs_of first ++ pairs_of later
pairs-both [] later = refl
pairs-both (d ∷ first) later = ap (λ (t : List (Text × Target)). (normal_label d.label, d.target) ∷ t) (pairs-both first later)

get-targets_of : (definitions : List Definition) (name : Text) → get (targets_of definitions) name ≡ named (pairs_of definitions) name
get-targets_of definitions name = get-from_entries nat_list_cmp_total (pairs_of definitions) name

pub joins_definitions : JoinsDefinitions
joins_definitions first later = same_targets (joined (targets_of first) (targets_of later)) (targets_of (first ++ later)) (λ name.
    get-joined (targets_of first) (targets_of later) name
    ∙ ap (λ o. first_of o (get (targets_of later) name)) (get-targets_of first name)
    ∙ ap (first_of (named (pairs_of first) name)) (get-targets_of later name)
    ∙ sym (named-both (pairs_of first) (pairs_of later) name)
    ∙ ap (λ pairs. named pairs name) (sym (pairs-both first later))
    ∙ sym (get-targets_of (first ++ later) name))
