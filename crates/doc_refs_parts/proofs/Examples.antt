-- Examples: what labels name (sections 4.7 and 6.3), and places inside a destination.
use Rattle.std.proofs.Common.{◌≡◌, List, [], ◌∷◌, ◌++◌, replicate, refl, ap, ◌∙◌}
use Rattle.std.specs.Prelude.{Option, Some, None, codes}
use Rattle.std.specs.FinMap.{get}
use Prim.Native.String.{String}
use Rattle.doc_rules.proofs.Computing.{reference_words}
use Rattle.doc_rules.specs.Definitions.{Definition, definitions_of, find_reference}
use Rattle.doc_rules.specs.Destinations.{Target, balanced}
use Rattle.doc_rules.specs.Rules.{built_in_rules}
use Rattle.doc_rules.specs.Labels.{normal_label}
use Rattle.doc_refs_parts.specs.ParenthesisSteps.{finish, ends_at}
use Rattle.doc_refs_parts.specs.Targets.{Targets, targets_of, joined, single}
use Rattle.doc_refs_parts.proofs.MapLaws.{finds_the_reference, joins_definitions, get-single}

-- ---- what definitions name

-- the definitions at the front of a text
abbrev in_text : String → List Definition
in_text text = (definitions_of built_in_rules (codes text)).0

-- what the label names in the map
abbrev names : Targets → String → Option Target
names targets label = get targets (normal_label (codes label))

abbrev leads_to : String → Option Target
leads_to dest = Some (record { dest = codes dest; title = None })

-- a label names what its definition leads to, and another label names nothing
one_definition : names (targets_of (in_text "[foo]: /url \"title\"\n")) "foo"
    ≡ Some (record { dest = codes "/url"; title = Some (codes "title") })
unfolding reference_words
one_definition = finds_the_reference (in_text "[foo]: /url \"title\"\n") (codes "foo") ∙ refl

other_label : names (targets_of (in_text "[foo]: /url\n")) "bar" ≡ None
unfolding reference_words
other_label = finds_the_reference (in_text "[foo]: /url\n") (codes "bar") ∙ refl

no_definition : names (targets_of []) "foo" ≡ None
unfolding reference_words
no_definition = finds_the_reference [] (codes "foo") ∙ refl

-- several definitions of one label: the first counts
first_counts : names (targets_of (in_text "[foo]: first\n[foo]: second\n")) "foo" ≡ leads_to "first"
unfolding reference_words
first_counts = finds_the_reference (in_text "[foo]: first\n[foo]: second\n") (codes "foo") ∙ refl

-- labels match whatever their case and white space
in_another_case : names (targets_of (in_text "[b]: y\n[FOO\n bar]: x\n[foo bar]: z\n")) "Foo\tBar" ≡ leads_to "x"
unfolding reference_words
in_another_case = finds_the_reference (in_text "[b]: y\n[FOO\n bar]: x\n[foo bar]: z\n") (codes "Foo\tBar") ∙ refl

-- ---- one label

the_label : get (single (codes "a") (record { dest = codes "x"; title = None })) (codes "a") ≡ leads_to "x"
the_label = get-single (codes "a") (record { dest = codes "x"; title = None }) (codes "a") ∙ refl

no_other_label : get (single (codes "a") (record { dest = codes "x"; title = None })) (codes "A") ≡ None
no_other_label = get-single (codes "a") (record { dest = codes "x"; title = None }) (codes "A") ∙ refl

-- ---- joined maps

both : Targets
both = joined (targets_of (in_text "[a]: x\n[b]: y\n")) (targets_of (in_text "[B]: z\n[c]: w\n"))

in_both : (label : String) → names both label ≡ find_reference (in_text "[a]: x\n[b]: y\n" ++ in_text "[B]: z\n[c]: w\n") (codes label)
unfolding both
in_both label =
    ap (λ targets. names targets label) (joins_definitions (in_text "[a]: x\n[b]: y\n") (in_text "[B]: z\n[c]: w\n"))
    ∙ finds_the_reference (in_text "[a]: x\n[b]: y\n" ++ in_text "[B]: z\n[c]: w\n") (codes label)

-- the labels of both; the first map's target counts
of_both : (names both "a" ≡ leads_to "x") × (names both "b" ≡ leads_to "y") × (names both "c" ≡ leads_to "w") × (names both "d" ≡ None)
unfolding reference_words
of_both = (in_both "a" ∙ refl, in_both "b" ∙ refl, in_both "c" ∙ refl, in_both "d" ∙ refl)

-- ---- places inside a destination without '<' and '>'

-- outside all parentheses the run goes on to what it can't take
outside :
    (finish 0 32 [] (codes "rl) x") ≡ Some (codes ") x"))
    × (finish 0 32 [] (codes "a(b(c)d)e f") ≡ Some (codes " f"))
    × (finish 0 32 [] (codes "a(b c)") ≡ Some (codes "(b c)"))
    × (finish 0 32 [] (codes "a\\(b") ≡ Some [])
unfolding reference_words finish
outside = (refl, refl, refl, refl)

-- inside one that is closed, the run goes on behind it
closed :
    (finish 1 31 (codes "(url)x y") (codes "url)x y") ≡ Some (codes " y"))
    × (finish 2 30 (codes "((a)b)c d") (codes "a)b)c d") ≡ Some (codes " d"))
    × (finish 1 31 (codes "(a)(b") (codes "a)(b") ≡ Some (codes "(b"))
    × (finish 1 31 (codes "(a\\))b") (codes "a\\))b") ≡ Some [])
unfolding reference_words finish
closed = (refl, refl, refl, refl)

-- where one stays open, the run ends before the outermost
left_open :
    (finish 1 31 (codes "(url x)") (codes "url x)") ≡ Some (codes "(url x)"))
    × (finish 2 30 (codes "((a)b c)") (codes "a)b c)") ≡ Some (codes "((a)b c)"))
    × (finish 1 31 (codes "(") [] ≡ Some (codes "("))
unfolding reference_words finish
left_open = (refl, refl, refl)

-- at 32 levels no further one opens
no_level_is_left :
    (finish 32 0 (replicate 32 40 ++ codes "a") (97 ∷ replicate 32 41) ≡ Some [])
    × (finish 32 0 (replicate 33 40 ++ codes "a") (40 ∷ 97 ∷ replicate 33 41) ≡ Some (replicate 33 40 ++ codes "a"))
unfolding reference_words finish
no_level_is_left = (refl, refl)

-- from its front, a run is what the rule of destinations takes
from_the_front : finish 0 32 [] (codes "my_(url) x") ≡ balanced 32 (codes "my_(url) x")
unfolding finish
from_the_front = refl

ends : (ends_at 0 (codes "(a") (codes "a") ≡ codes "a") × (ends_at 1 (codes "(a") (codes "a") ≡ codes "(a")
ends = (refl, refl)
