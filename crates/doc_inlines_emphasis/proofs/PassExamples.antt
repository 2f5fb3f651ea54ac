-- Examples: one pass gives the emphasis (CommonMark 0.31.2, section 6.2).
use Rattle.std.proofs.Common.{◌≡◌, refl, codes, List, [], ℕ, reverse, length}
use Rattle.std.specs.Prelude.{flat_map}
use Rattle.doc_rules.proofs.Computing.{inline_words}
use Rattle.doc_rules.specs.Rules.{built_in_rules}
use Rattle.doc_rules.specs.Inlines.{Inline, as_text}
use Rattle.doc_rules.specs.Emphasis.{emphasis_of}
use Rattle.doc_rules.specs.Reading.{read}
use Rattle.doc_inlines_emphasis.specs.OnePass.{kept, closed, passed, passed_once}
use Rattle.doc_inlines_emphasis.specs.Marks.{stretch}
use Rattle.doc_inlines_emphasis.specs.InPlace.{nearest_placed, paired, close_in_place, in_place, marks_of, runs_of}

-- the inlines of a text before emphasis is sought
abbrev read_of : List ℕ → List Inline
read_of text = reverse (read built_in_rules [] 10 [] 0 text)

-- one pass over the text's inlines gives their emphasis
abbrev Agrees : List ℕ → Type 0
Agrees text = passed_once (read_of text) ≡ emphasis_of (read_of text)

in_one_pass :
    Agrees (codes "*foo**bar*baz") ×
    Agrees (codes "*foo _bar* baz_") ×
    Agrees (codes "foo******bar*********baz") ×
    Agrees (codes "**a*b*c**") ×
    Agrees (codes "*foo __bar *baz bim__ bam*") ×
    Agrees (codes "**foo **bar baz**") ×
    Agrees (codes "***foo** bar*") ×
    Agrees (codes "_(bar_ a *b [ c* ")
unfolding inline_words kept closed passed passed_once
in_one_pass = (refl, refl, refl, refl, refl, refl, refl, refl)

-- emphasis in place on the marks of the text's inlines gives their emphasis
abbrev InPlaceToo : List ℕ → Type 0
InPlaceToo text =
    flat_map as_text (stretch (in_place (marks_of (read_of text)) [] (runs_of 0 (read_of text))) 0 (length (marks_of (read_of text))))
    ≡ emphasis_of (read_of text)

in_marks :
    InPlaceToo (codes "*foo**bar*baz") ×
    InPlaceToo (codes "*foo _bar* baz_") ×
    InPlaceToo (codes "foo******bar*********baz") ×
    InPlaceToo (codes "**a*b*c**") ×
    InPlaceToo (codes "*foo __bar *baz bim__ bam*") ×
    InPlaceToo (codes "***foo** bar*")
unfolding inline_words stretch nearest_placed paired close_in_place in_place marks_of runs_of
in_marks = (refl, refl, refl, refl, refl, refl)
