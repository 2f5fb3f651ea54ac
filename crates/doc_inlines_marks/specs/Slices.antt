-- Where the texts of marks stand, and how texts are cut.
use Rattle.std.specs.Prelude.{◌≡◌, ◌==◌, ◌||◌, Bool, true, not, List, [], ◌∷◌, ◌++◌, flat_map, length, chars, codes, ⊤}
use Rattle.std.specs.List.{list_all}
use Rattle.doc_rules.specs.Characters.{one_of}
use Rattle.doc_rules.specs.Characters as rules
use Rattle.doc_inlines_marks.specs.declared.mark_ref.MarkRef.{MarkRef}
use Rattle.doc_inlines_marks.specs.declared.mark_ref.MarkRef.TheVariants.{Text, Code, Soft, Hard, Raw, Reference, Start, End}

-- the slice of a mark, if it has one: of a reference its source
unfoldable pub slice_in : MarkRef → List rules.Text
slice_in (Text text) = chars text.now ∷ []
slice_in (Code text) = chars text.now ∷ []
slice_in Soft = []
slice_in Hard = []
slice_in (Raw text) = chars text.now ∷ []
slice_in (Reference reference) = chars reference.now.source.now ∷ []
slice_in (Start span) = []
slice_in (End span) = []

-- these texts stand in the text one after another
abbrev pub StandIn : rules.Text → List rules.Text → Type 0
StandIn text [] = ⊤
StandIn text (slice ∷ more) = (gap : rules.Text) × (rest : rules.Text) × ((text ≡ gap ++ (slice ++ rest)) × StandIn rest more)

-- the slices of the marks stand in the text one after another
abbrev pub AreSlices : rules.Text → List MarkRef → Type 0
AreSlices text marks = StandIn text (flat_map slice_in marks)

-- a text that HTML writes otherwise is a character alone
unfoldable pub is_cut : rules.Text → Bool
is_cut text = (length text == 1) || list_all (λ c. not (one_of (codes "&<>\"") c)) text

abbrev pub IsCut : MarkRef → Type 0
IsCut (Text text) = is_cut (chars text.now) ≡ true
IsCut Soft = ⊤
IsCut Hard = ⊤
IsCut (Code text) = ⊤
IsCut (Raw text) = ⊤
IsCut (Reference reference) = ⊤
IsCut (Start span) = ⊤
IsCut (End span) = ⊤

abbrev pub AreCut : List MarkRef → Type 0
AreCut [] = ⊤
AreCut (mark ∷ more) = IsCut mark × AreCut more
