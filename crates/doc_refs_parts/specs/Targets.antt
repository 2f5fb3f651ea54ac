-- What labels name: a finite map of targets by normal labels (CommonMark 0.31.2, sections 4.7 and 6.3).
use Rattle.std.specs.Prelude.{List, [], ◌∷◌, ◌++◌, map, chars, Option, Some, None, option_map, refl}
use Rattle.std.specs.Coded.{Coded, code_by, coded×, coded_ℕ, coded_list, coded_option}
use Rattle.std.specs.Cmp.Lexicographic.{slice_cmp}
use Rattle.std.specs.FinMap as finite
use Rattle.std.specs.Ordering.{nat_cmp}
use denote.Ref.{Bor}
use Rattle.doc_rules.specs.Characters.{Text}
use Rattle.doc_rules.specs.Definitions.{Definition}
use Rattle.doc_rules.specs.Destinations as rules
use Rattle.doc_rules.specs.Labels.{normal_label}
use Rattle.doc_refs_parts.specs.declared.target.Target.{Target}

-- targets by normal labels
abbrev pub Targets : Type 0
Targets = finite.FinMap {K = Text} (slice_cmp nat_cmp) rules.Target

-- what tells targets apart, and what tells maps of targets apart
abbrev pub target_code : Coded rules.Target
target_code = code_by (Text × Option Text) (coded× (coded_list coded_ℕ) (coded_option (coded_list coded_ℕ))) (λ t. (t.dest, t.title))
    (λ p. record { dest = p.0; title = p.1 }) (λ _. refl)

abbrev pub targets_code : Coded Targets
targets_code = finite.code (coded_list coded_ℕ) target_code

-- a target as texts
abbrev pub target_shown : Target → rules.Target
target_shown t = record { dest = chars t.dest; title = option_map chars t.title }

abbrev pub target_found : Option (Bor Target) → Option rules.Target
target_found None = None
target_found (Some t) = Some (target_shown t.now)

-- one label with its target
abbrev pub single : Text → rules.Target → Targets
single name target = finite.from_entries ((name, target) ∷ [])

-- what definitions name: of those of one label the first counts
abbrev pub targets_of : List Definition → Targets
targets_of definitions = finite.from_entries (map (λ d. (normal_label d.label, d.target)) definitions)

-- the labels of both; where a label stands in both, the first's target counts
abbrev pub joined : Targets → Targets → Targets
joined first second = finite.from_entries (finite.entries first ++ finite.entries second)
