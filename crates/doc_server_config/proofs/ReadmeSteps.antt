-- The moves of READMEs, one after the other.
use Rattle.std.proofs.Common.{◌≡◌, ℕ, List, [], ◌∷◌, ◌++◌, Bool, not, ap, sym, ◌∙◌, append_assoc, Bor}
use Rattle.std.specs.Prelude.{Option, Some, None}
use Rattle.std.specs.Path.{rsplit_once}
use Rattle.std.specs.List.{filter}
use Rattle.std.proofs.lemmas.List.Elements.{filter-append, filter_agree}
use Rattle.doc_server_config.specs.declared.readme.Move.{Move}
use Rattle.doc_store_readers.specs.Maps.{TextMap}
use Rattle.doc_media.proofs.SplitSteps.{texts_of_cut}
use Rattle.doc_server_config.proofs.OverlapSteps.{is_there}
use Rattle.doc_server_config.specs.OverlapSteps.{AreMarks, is_free_in}
use Rattle.doc_server_config.specs.Readmes.{index_alone, index_beside, index_in, index_of, is_free}

-- the moves that no mark forbids are those that no path forbids
pub free_by_marks : (paths : List (List ℕ)) (marks : TextMap Bool) (moves : List Move) → AreMarks paths marks
    → filter (is_free_in marks) moves ≡ filter (is_free paths) moves
free_by_marks paths marks moves are =
    filter_agree (is_free_in marks) (is_free paths) (λ one. ap not (is_there paths marks are one.to)) moves

-- one move more
pub free_more : {X : Type 0} (p : X → Bool) (found more : List X) (x : X) (rest all : List X)
    → found ++ filter p (x ∷ rest) ≡ all → more ≡ found ++ filter p (x ∷ []) → more ++ filter p rest ≡ all
free_more p found more x rest all is next =
    ap (λ xs. xs ++ filter p rest) next
    ∙ (append_assoc found (filter p (x ∷ [])) (filter p rest)
    ∙ (ap (λ xs. found ++ xs) (sym (filter-append p (x ∷ []) rest)) ∙ is))

-- the index beside a path, from the cut at its last slash
pub index_found : (path : List ℕ) (r : Option (Bor (List ℕ) × Bor (List ℕ))) → texts_of_cut r ≡ rsplit_once 47 path
    → (folder name : Bor (List ℕ)) → r ≡ Some (folder, name) → index_in folder.now name.now ≡ index_of path
index_found path r split folder name is =
    ap (λ cut. index_beside path (texts_of_cut cut)) (sym is) ∙ ap (index_beside path) split

pub index_found_alone : (path : List ℕ) (r : Option (Bor (List ℕ) × Bor (List ℕ))) → texts_of_cut r ≡ rsplit_once 47 path
    → r ≡ None → index_alone path ≡ index_of path
index_found_alone path r split is =
    ap (λ cut. index_beside path (texts_of_cut cut)) (sym is) ∙ ap (index_beside path) split
