-- Emphasis in place: the runs are gone through from left to right; those that may open and have delimiters left stand on a stack, on which
-- a closer takes the nearest opener, and what stood above it goes.
use Rattle.std.specs.Prelude.{◌≡◌, ℕ, zero, suc, ◌+◌, ◌-◌, ◌≤◌, nat_lt, true, false, ◌==◌, List, [], ◌∷◌, ◌++◌, length, flat_map, replicate}
use Rattle.std.specs.Prelude.{Option, Some, None}
use Rattle.std.proofs.Math.ListN.{set}
use Rattle.doc_rules.specs.Inlines.{Inline, Literal, Start, End, Delimiters, Run, as_text}
use Rattle.doc_rules.specs.Emphasis.{matches, strength, span_of, emphasis_of}
use Rattle.doc_inlines_emphasis.specs.Marks.{Marks, Placed, stretch, seen, ArePlaced, ArePlain, less_opener, less_closer, joined}

-- an opener on the stack, and the runs below it
pub record StackOpener : Type 0 where
  pub lower : List Placed
  pub opener : Placed

-- the nearest opener for a closer; the top of the stack stands last
unfoldable pub nearest_placed : Run → List Placed → Option StackOpener
nearest_placed closer [] = None
nearest_placed closer (placed ∷ more) =
    elim (nearest_placed closer more) [
      | Some found ↦ Some (record { lower = placed ∷ found.lower; opener = found.opener })
      | None ↦ elim (matches placed.run closer) [ true ↦ Some (record { lower = []; opener = placed }) | false ↦ None ]
    ]

-- n delimiters of this character from each of two places become a start and an end
unfoldable pub paired : Marks → ℕ → ℕ → ℕ → ℕ → Marks
paired marks opening closing char n =
    let ends : Marks = set (set marks opening (Start (span_of char n) ∷ [])) closing (End (span_of char n) ∷ []) in
    elim (n == 2) [ true ↦ set (set ends (suc opening) []) (suc closing) [] | false ↦ ends ]

-- the marks, the stack and the present run
pub record Closing : Type 0 where
  pub marks : Marks
  pub stack : List Placed
  pub closer : Placed

-- the present run paired with this opener
abbrev pub pair_in_place : Closing → StackOpener → Closing
pair_in_place s found =
    let n : ℕ = strength found.opener.run s.closer.run in
    record {
      marks = paired s.marks (found.opener.first + (found.opener.run.left - n)) s.closer.first s.closer.run.char n;
      stack = found.lower ++ less_opener n found.opener;
      closer = less_closer n s.closer;
    }

-- the present run closed as often as it can be, n times at most
unfoldable pub close_in_place : ℕ → Closing → Closing
close_in_place zero s = s
close_in_place (suc n) s =
    elim (nat_lt 0 s.closer.run.left) [
      | false ↦ s
      | true ↦ elim (nearest_placed s.closer.run s.stack) [ None ↦ s | Some found ↦ close_in_place n (pair_in_place s found) ]
    ]

-- the marks when these runs are closed, behind those on the stack
unfoldable pub in_place : Marks → List Placed → List Placed → Marks
in_place marks stack [] = marks
in_place marks stack (placed ∷ more) =
    let s : Closing = close_in_place placed.run.left (record { marks = marks; stack = stack; closer = placed }) in
    in_place s.marks (joined s.stack s.closer) more

-- ---- marks of inlines

-- a mark for each inline, and one for each delimiter of a run
unfoldable pub marks_of : List Inline → Marks
marks_of [] = []
marks_of (Delimiters run ∷ more) = replicate run.left (Literal run.char ∷ []) ++ marks_of more
marks_of (inline ∷ more) = (inline ∷ []) ∷ marks_of more

-- the runs among them, from this place on
unfoldable pub runs_of : ℕ → List Inline → List Placed
runs_of place [] = []
runs_of place (Delimiters run ∷ more) = record { first = place; run = run } ∷ runs_of (place + run.left) more
runs_of place (inline ∷ more) = runs_of (suc place) more

-- ---- the law

-- of the marks between two places and their runs, emphasis in place makes the emphasis of what is seen in them
abbrev pub InPlaceSuffices : Type 0
InPlaceSuffices = (marks : Marks) (a b : ℕ) (runs : List Placed) → ArePlain marks → ArePlaced marks a b runs → b ≤ length marks →
    flat_map as_text (stretch (in_place marks [] runs) a (b - a)) ≡ emphasis_of (seen marks a b runs)
