use Rattle.std.proofs.Common.{◌≡◌, [], map, ℕ, List}
use Rattle.std.specs.Str.Iter.{split_steps}
use Rattle.std.specs.Str.Pattern.{FindsChar}
use Rattle.std.proofs.lemmas.Iterator.{YieldsList}
use Rattle.doc_store_readers.specs.Groups.{parts_of, with_names}
use Rattle.doc_store_readers.proofs.groups.Groups.new.Given as goal

abbrev pub invariant-loop-name : goal.invariant-loop-name
invariant-loop-name l =
    (rest : List (List ℕ)) × YieldsList (split_steps FindsChar (λ a b. b ≡ a)) (λ name. name.now) l.name-iterator rest
    × (with_names [] (parts_of l.text) ≡ with_names (map (λ name. name.now) l.names.items) rest)
