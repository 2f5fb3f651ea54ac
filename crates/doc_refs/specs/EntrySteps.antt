-- The form in which targets are kept. This is this project's choice.
use Rattle.std.specs.Prelude.{ℕ, ◌<◌, ◌≡◌, nat_lt, if◌then◌else◌, List, map, length, is_some, String, string_bytes, chars}
use Rattle.std.specs.BTreeMap.{insert_entry, is_at}
use Rattle.std.specs.FinMap as finite
use Rattle.std.specs.List.{All, filter}
use Rattle.std.specs.Map.{lookup}
use Rattle.std.specs.String.{string_cmp}
use Rattle.doc_refs_parts.specs.Targets.{Targets, target_shown}
use Rattle.doc_refs.specs.declared.ref_map.Entry.{Entry}
use Rattle.doc_refs_parts.specs.declared.target.Target.{Target}

-- the map that entries stand for
abbrev pub targets_shown : {A : Type 0} → List (String A × Entry) → Targets
targets_shown entries = finite.from_entries (map (λ entry. (chars (string_bytes entry.0), target_shown entry.1.target)) entries)

-- each entry came when there were fewer than now
abbrev pub AreEntries : {A : Type 0} → List (String A × Entry) → Type 0
AreEntries entries = All (λ entry. entry.1.before < length entries) entries

-- those that came when there were fewer than n
abbrev pub earlier : {A : Type 0} → ℕ → List (String A × Entry) → List (String A × Entry)
earlier n entries = filter (λ entry. nat_lt entry.1.before n) entries

-- with an entry for a label, where there is none yet
abbrev pub with_entry : {A : Type 0} → List (String A × Entry) → String A → Target → List (String A × Entry)
with_entry entries label target = if is_some (lookup (is_at (string_cmp label)) entries) then entries else insert_entry string_cmp entries
    label (record { before = length entries; target = target })

-- entries came to the old ones, which are those that came when there were fewer
abbrev pub AreGrown : {A : Type 0} → List (String A × Entry) → List (String A × Entry) → Type 0
AreGrown old new = AreEntries old → AreEntries new × (earlier (length old) new ≡ old)
