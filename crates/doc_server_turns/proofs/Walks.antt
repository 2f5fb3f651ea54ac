-- The numbers of clients, as a walk over the table gives them.
use Rattle.std.proofs.Common.{◌≡◌, ◌++◌, ℕ, List, [], sym, ap, ◌∙◌, append-nil, append_assoc}
use Rattle.std.specs.Prelude.{Result, Ok, Err, OnOk}
use Rattle.std.specs.BTreeMap.{BTreeMap, IsOrdered}
use Rattle.std.specs.BTreeMap.Range.{entries_between}
use Rattle.std.specs.FinMap as map
use Rattle.std.specs.Ordering.{nat_cmp}
use Rattle.std.specs.declared.ops.Bound.TheVariants as bounds
use Rattle.std.proofs.lemmas.Cmp.{nat_cmp_total}
use Rattle.std.proofs.lemmas.Map.Lookups.{exact_unsigned}
use Rattle.doc_page_parts.proofs.Maps.{entries_in_order}
use Rattle.doc_server_turns.specs.Parts.{numbers_of, takes_part, turn_of}
use Rattle.doc_server_turns.specs.Wirings.{Peer, Table}

-- the entries of the tree are those of the table
pub entries_are : (tree : BTreeMap ℕ Peer) (table : Table) → map.from_entries tree.entries ≡ table → IsOrdered nat_cmp tree
    → map.entries table ≡ tree.entries
entries_are tree table is ordered =
    ap map.entries (sym is) ∙ entries_in_order nat_cmp_total exact_unsigned tree.entries ordered

-- Behind the walk, where each step has kept this.
pub walked : (numbers : List (ℕ × Peer) → List ℕ) (added before : List ℕ) (rest first all : List (ℕ × Peer)) → numbers [] ≡ []
    → rest ≡ [] → added ++ numbers rest ≡ before ++ numbers first → first ≡ all → added ≡ before ++ numbers all
walked numbers added before rest first all none ends kept is =
    sym (append-nil added) ∙ ap (λ xs. added ++ xs) (sym none) ∙ ap (λ es. added ++ numbers es) (sym ends) ∙ kept
    ∙ ap (λ es. before ++ numbers es) is

abbrev pub from_on : ℕ → List (ℕ × Peer) → List (ℕ × Peer)
from_on first es = entries_between nat_cmp (bounds.Included first) bounds.Unbounded es

abbrev pub below : ℕ → List (ℕ × Peer) → List (ℕ × Peer)
below first es = entries_between nat_cmp bounds.Unbounded (bounds.Excluded first) es

-- behind two walks, over those from a number on and over those below it
pub both_walked : {E : Type 0} (r : Result (Unit {0}) E) (first : ℕ) (es : List (ℕ × Peer)) (table : Table) (before mid after : List ℕ)
    (above under : List (ℕ × Peer)) → map.entries table ≡ es → mid ≡ before ++ numbers_of takes_part above → above ≡ from_on first es
    → OnOk r (after ≡ mid ++ numbers_of takes_part under) → under ≡ below first es → OnOk r (after ≡ before ++ turn_of first table)
both_walked (Err e) first es table before mid after above under are first_walk above_is second_walk under_is = tt
both_walked (Ok u) first es table before mid after above under are first_walk above_is second_walk under_is =
    second_walk ∙ ap (λ xs. xs ++ numbers_of takes_part under) first_walk
    ∙ append_assoc before (numbers_of takes_part above) (numbers_of takes_part under)
    ∙ ap (λ es. before ++ (numbers_of takes_part es ++ numbers_of takes_part under)) (above_is ∙ ap (from_on first) (sym are))
    ∙ ap (λ es. before ++ (numbers_of takes_part (from_on first (map.entries table)) ++ numbers_of takes_part es))
    (under_is ∙ ap (below first) (sym are))
