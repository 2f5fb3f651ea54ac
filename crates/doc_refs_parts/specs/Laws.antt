-- Laws of what labels name.
use Rattle.std.specs.Prelude.{◌≡◌, List, ◌++◌}
use Rattle.std.specs.FinMap as finite
use Rattle.doc_rules.specs.Characters.{Text}
use Rattle.doc_rules.specs.Definitions.{Definition, find_reference}
use Rattle.doc_rules.specs.Labels.{normal_label}
use Rattle.doc_refs_parts.specs.Targets.{targets_of, joined}

-- a normal label names the target of the first definition whose label matches
abbrev pub FindsTheReference : Type 0
FindsTheReference = (definitions : List Definition) (name : Text)
    → finite.get (targets_of definitions) (normal_label name) ≡ find_reference definitions name

-- the targets of definitions and of later ones are those of all
abbrev pub JoinsDefinitions : Type 0
JoinsDefinitions = (first later : List Definition) → joined (targets_of first) (targets_of later) ≡ targets_of (first ++ later)
