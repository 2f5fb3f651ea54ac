-- A device in memory: the changes that its file has had, and what a crash may leave of it.
use Rattle.std.proofs.Common.{◌≡◌, ◌⊎◌, ℕ, Bool, Option, Some, ◌<◌, ◌≤◌, List, [], ◌∷◌, ◌++◌, length, take, sym, arith, subst}
use Rattle.std.proofs.Math.Seq.{take-length}
use Rattle.std.specs.List.{slice_get}
use Rattle.doc_server_journal.specs.Devices.{Torn, Grown, IsOutside}
use Rattle.doc_server_journal.specs.declared.memory.Change.{Change}
use Rattle.doc_server_journal.specs.declared.memory.Change.TheVariants.{Write, Grow, Sync, Lost}
use Rattle.doc_server_journal.specs.declared.memory.MemoryDevice.{MemoryDevice}

-- What a crash may leave after a change, by what it might have left before, and the places that were stale: all that the change
-- may do, and nothing else. A sync leaves of it what has the file's bytes as they were then, but for its stale ones.
abbrev pub left_then : (List ℕ → Type 0) → (ℕ → Type 0) → Change → List ℕ → Type 0
left_then before stale (Write at bytes written) c = (d : List ℕ) × before d × Torn at bytes d c
left_then before stale (Grow from count) c = (d : List ℕ) × before d × Grown count d c
left_then before stale (Sync file) c =
    before c × ((i : ℕ) → (stale i × (i < length file) → ⊥) → slice_get c i ≡ slice_get file i)
left_then before stale (Lost file) c = before c

-- The places that are stale then. Those that were written no longer are, nor are zeros that were added behind the end. A sync that
-- failed and lost what was written makes stale all that a crash may leave otherwise than the file had it.
abbrev pub stale_then : (List ℕ → Type 0) → (ℕ → Type 0) → Change → ℕ → Type 0
stale_then before stale (Write at bytes written) i = stale i × IsOutside at written i
stale_then before stale (Grow from count) i = stale i × (i < from)
stale_then before stale (Sync file) i = stale i
stale_then before stale (Lost file) i = stale i ⊎ (((c : List ℕ) → before c → slice_get c i ≡ slice_get file i) → ⊥)

-- the same after changes, the first of them first
abbrev pub left_after : (List ℕ → Type 0) → (ℕ → Type 0) → List Change → List ℕ → Type 0
left_after before stale [] = before
left_after before stale (change ∷ changes) = left_after (left_then before stale change) (stale_then before stale change) changes

abbrev pub stale_after : (List ℕ → Type 0) → (ℕ → Type 0) → List Change → ℕ → Type 0
stale_after before stale [] = stale
stale_after before stale (change ∷ changes) = stale_after (left_then before stale change) (stale_then before stale change) changes

-- what a crash may leave of a file that was this one at first, and its stale places
abbrev pub Leaves : List ℕ → List Change → List ℕ → Type 0
Leaves first changes c = left_after (λ d. d ≡ first) (λ i. ⊥) changes c

abbrev pub Stale : List ℕ → List Change → ℕ → Type 0
Stale first changes i = stale_after (λ d. d ≡ first) (λ i. ⊥) changes i

-- what a crash since the change of that number might have left
abbrev pub LeftSince : List ℕ → List Change → ℕ → List ℕ → Type 0
LeftSince first changes t c = (k : ℕ) × (t ≤ k) × (k ≤ length changes) × Leaves first (take k changes) c

-- a change is noted behind the others, or there was no memory for it
abbrev pub MayNote : Change → List Change → List Change → Type 0
MayNote change before now = (now ≡ before ++ change ∷ []) ⊎ (now ≡ before)

-- what a device in memory holds
abbrev pub memory_bytes : MemoryDevice → List ℕ
memory_bytes m = m.file.bytes.items

abbrev pub memory_seen : MemoryDevice → Option (List ℕ)
memory_seen m = Some (memory_bytes m)

-- what a crash may leave of it
abbrev pub memory_leaves : MemoryDevice → List ℕ → Type 0
memory_leaves m c = Leaves m.first m.file.changes.items c

-- its stale places
abbrev pub memory_stale : MemoryDevice → ℕ → Type 0
memory_stale m i = Stale m.first m.file.changes.items i × (i < length (memory_bytes m))

-- whether a call of it has failed
abbrev pub has_failed : MemoryDevice → Bool
has_failed m = m.failed

pub counts : (first : List ℕ) (changes : List Change) (t : ℕ) (c : List ℕ) → t ≤ length changes → Leaves first changes c
    → LeftSince first changes t c
counts first changes t c le now = (length changes, le, omega arith, subst (λ l. Leaves first l c) (sym (take-length changes)) now)

pub only : (first : List ℕ) (changes : List Change) (c : List ℕ) → LeftSince first changes (length changes) c → Leaves first changes c
only first changes c (k, le, most, left) =
    let same : k ≡ length changes = omega (arith, le, most) in
    subst (λ l. Leaves first l c) (take-length changes) (subst (λ n. Leaves first (take n changes) c) same left)
