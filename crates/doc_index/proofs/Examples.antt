-- The definitions on an example.
use Rattle.std.proofs.Common.{◌≡◌, ℕ, List, [], ◌∷◌, codes, refl}
use Rattle.std.specs.Prelude.{Option, Some, None}
use Rattle.std.specs.FinMap as map
use Rattle.std.proofs.lemmas.Cmp.{nat_list_cmp_total}
use Rattle.doc_index.specs.declared.held.Held.{Held}
use Rattle.doc_index.specs.Held.{count_in, entries_of, held, known_as, slot_at}
use Rattle.doc_index_tables.proofs.PairSteps.{pairs_total}

abbrev two_kiwis : List (List ℕ × ℕ)
two_kiwis = (codes "kiwi", 2) ∷ (codes "lime", 1) ∷ []

-- a page with two stamps, and an empty slot between them
abbrev slots : List (Option (Held ℕ))
slots =
    Some (record { path = codes "a.md"; stamp = 3; value = 7; counts = map.from_entries two_kiwis })
    ∷ None
    ∷ Some (record { path = codes "a.md"; stamp = 4; value = 8; counts = map.empty })
    ∷ []

held_first : map.get (held slots) (codes "a.md", 3) ≡ Some (known_as 7 (map.from_entries two_kiwis))
held_first = map.get-from_entries pairs_total (entries_of slots) (codes "a.md", 3)

held_second : map.get (held slots) (codes "a.md", 4) ≡ Some (known_as 8 map.empty)
held_second = map.get-from_entries pairs_total (entries_of slots) (codes "a.md", 4)

other_stamp : map.get (held slots) (codes "a.md", 5) ≡ None
other_stamp = map.get-from_entries pairs_total (entries_of slots) (codes "a.md", 5)

other_path : map.get (held slots) (codes "b.md", 3) ≡ None
other_path = map.get-from_entries pairs_total (entries_of slots) (codes "b.md", 3)

two_in_first : count_in (slot_at slots 0) (codes "kiwi") ≡ Some 2
two_in_first = map.get-from_entries nat_list_cmp_total two_kiwis (codes "kiwi")

none_in_first : count_in (slot_at slots 0) (codes "fig") ≡ None
none_in_first = map.get-from_entries nat_list_cmp_total two_kiwis (codes "fig")

no_page : count_in (slot_at slots 1) (codes "kiwi") ≡ None
no_page = refl
