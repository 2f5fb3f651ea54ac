-- One more change of a file in memory.
use Rattle.std.proofs.Common.{◌≡◌, ◌⊎◌, inl, inr, ⊎_elim, ℕ, ◌+◌, ◌-◌, ◌<◌, ◌≤◌, List, [], ◌∷◌, ◌++◌, Some, length, take, drop, sym, ap, ◌∙◌, subst, arith, length-append, length-drop, length-take, Bool, true, false, not, Result, Ok, Err, OnErr, OnOk, is_err}
use Rattle.std.specs.List.{slice_get}
use Rattle.std.proofs.lemmas.Bool.{cases_lt, false≢true}
use Rattle.std.proofs.lemmas.List.{take_all, take-append-le}
use Rattle.doc_server_journal.specs.Devices.{Elapses, Follows, Torn, Grown, IsFresh, IsOutside, IsSure}
use Rattle.doc_server_journal.specs.Memories.{left_then, stale_then, left_after, stale_after, Leaves, Stale, LeftSince, MayNote}
use Rattle.doc_server_journal.specs.declared.memory.Change.{Change}
use Rattle.doc_server_journal.specs.declared.memory.Change.TheVariants.{Write, Grow, Sync, Lost}
use Rattle.doc_server_journal.proofs.Places.{same_by_get}
use Rattle.doc_server_journal.proofs.Tearing.{torn_same, grown_same}

-- a call that went well
pub not_well : {P : Type 0} (failed well : Bool) → failed ≡ not well → well ≡ false → failed ≡ false → P
not_well failed well is ill not_failed = absurd (false≢true (sym not_failed ∙ is ∙ ap not ill))

pub both_ways : {P : Type 0} (well : Bool) → well ≡ false → well ≡ true → P
both_ways well ill is_well = absurd (false≢true (sym ill ∙ is_well))

pub when_well : {X E P : Type 0} (r : Result X E) (failed error : Bool) → error ≡ is_err r → failed ≡ error → failed ≡ false → OnOk r P → P
when_well (Ok x) failed error is same not_failed p = p
when_well (Err e) failed error is same not_failed p = absurd (false≢true (sym not_failed ∙ same ∙ is))

pub whole : (written : ℕ) (bytes : List ℕ) → written ≡ length bytes → length (take written bytes) ≡ length bytes
whole written bytes is = omega (arith, is, length-take written bytes)

pushed : (before : List ℕ → Type 0) (stale : ℕ → Type 0) (changes : List Change) (change : Change) (c : List ℕ)
    → left_after before stale (changes ++ change ∷ []) c
    → left_then (left_after before stale changes) (stale_after before stale changes) change c
pushed before stale [] change c left = left
pushed before stale (x ∷ changes) change c left = pushed (left_then before stale x) (stale_then before stale x) changes change c left

pushed_stale : (before : List ℕ → Type 0) (stale : ℕ → Type 0) (changes : List Change) (change : Change) (i : ℕ)
    → stale_after before stale (changes ++ change ∷ []) i
    → stale_then (left_after before stale changes) (stale_after before stale changes) change i
pushed_stale before stale [] change i is = is
pushed_stale before stale (x ∷ changes) change i is =
    pushed_stale (left_then before stale x) (stale_then before stale x) changes change i is

module _ (first : List ℕ) (changes : List Change) where
  -- nothing was noted
  pub same_time : (now : List Change) → now ≡ changes
      → Elapses (length changes) (length now) (LeftSince first changes) (LeftSince first now) (Leaves first now)
  same_time now same =
      subst (λ l. Elapses (length changes) (length l) (LeftSince first changes) (LeftSince first l) (Leaves first l)) (sym same)
      (record { later = omega arith; nothing_else = λ t c le left. inl left; keeps = λ t c le left. left })

  module _ (change : Change) where
    abbrev more : List Change
    more = changes ++ change ∷ []

    size : length more ≡ length changes + 1
    size = length-append changes (change ∷ [])

    front : (k : ℕ) → k ≤ length changes → take k more ≡ take k changes
    front k le = take-append-le k changes (change ∷ []) le

    by_place : (t k : ℕ) (c : List ℕ) → t ≤ k → k ≤ length more → Leaves first (take k more) c → (length changes < k) ⊎ (k ≤ length changes)
        → LeftSince first changes t c ⊎ Leaves first more c
    by_place t k c le most left (inl last) = inr (subst (λ l. Leaves first l c) (take_all k more (omega (arith, last, size))) left)
    by_place t k c le most left (inr before) = inl (k, le, before, subst (λ l. Leaves first l c) (front k before) left)

    on : Elapses (length changes) (length more) (LeftSince first changes) (LeftSince first more) (Leaves first more)
    on = record {
      later = omega (arith, size);
      nothing_else = λ t c le left. by_place t left.0 c left.1 left.2 left.3 (cases_lt (length changes) left.0);
      keeps = λ t c le left. (
        left.0,
        left.1,
        omega (arith, left.2, size),
        subst (λ l. Leaves first l c)
            (sym (front left.0 left.2)) left.3,
      );
    }

    pub more_time : (now : List Change) → now ≡ changes ++ change ∷ []
        → Elapses (length changes) (length now) (LeftSince first changes) (LeftSince first now) (Leaves first now)
    more_time now is =
        subst (λ l. Elapses (length changes) (length l) (LeftSince first changes) (LeftSince first l) (Leaves first l)) (sym is) on

    changed : (now : List Change) → now ≡ changes ++ change ∷ [] → (c : List ℕ) → Leaves first now c
        → left_then (Leaves first changes) (Stale first changes) change c
    changed now is c left = pushed (λ d. d ≡ first) (λ i. ⊥) changes change c (subst (λ l. Leaves first l c) is left)

    stale_now : (now : List Change) → now ≡ changes ++ change ∷ [] → (i : ℕ) → Stale first now i
        → stale_then (Leaves first changes) (Stale first changes) change i
    stale_now now is i here = pushed_stale (λ d. d ≡ first) (λ k. ⊥) changes change i (subst (λ l. Stale first l i) is here)

  same_stale : (now : List Change) → now ≡ changes → (i : ℕ) → Stale first now i → Stale first changes i
  same_stale now same i here = subst (λ l. Stale first l i) same here

  -- a write
  pub torn_follows : (at : ℕ) (bytes : List ℕ) (written : ℕ) (now : List Change) → MayNote (Write at bytes written) changes now
      → Follows (Torn at bytes) (Leaves first changes) (Leaves first now)
  torn_follows at bytes written now (inl is) c left = changed (Write at bytes written) now is c left
  torn_follows at bytes written now (inr same) c left = (c, subst (λ l. Leaves first l c) same left, torn_same at bytes c)

  pub stale_written : {X E : Type 0} (r : Result X E) (at : ℕ) (bytes written old new : List ℕ) (now : List Change) → at ≤ length old
      → MayNote (Write at bytes (length written)) changes now → OnOk r (now ≡ changes ++ Write at bytes (length written) ∷ [])
      → OnOk r (new ≡ take at old ++ written ++ drop (at + length written) old) → OnErr r (length new ≡ length old)
      → (i : ℕ) → Stale first now i × (i < length new) → Stale first changes i × (i < length old)
  stale_written (Ok x) at bytes written old new now fits noted is new_is same i (here, inside) =
      let was = stale_now (Write at bytes (length written)) now is i here in (
        was.0,
        within was.1,
      )
    where
      size : length new ≡ at + length written + (length old - (at + length written))
      size =
          omega (
            arith,
            fits,
            ap length new_is,
            length-append (take at old ++ written) (drop (at + length written) old),
            length-append (take at old) written,
            length-take at old,
            length-drop (at + length written) old,
          )

      within : IsOutside at (length written) i → i < length old
      within (inl lt) = omega (arith, lt, fits)
      within (inr le) = omega (arith, le, inside, size)
  stale_written (Err e) at bytes written old new now fits (inl is) ok new_is same i (here, inside) =
      ((stale_now (Write at bytes (length written)) now is i here).0, omega (arith, inside, same))
  stale_written (Err e) at bytes written old new now fits (inr none) ok new_is same i (here, inside) =
      (same_stale now none i here, omega (arith, inside, same))

  pub fresh_written : (at : ℕ) (bytes : List ℕ) (written : ℕ) (now : List Change) → now ≡ changes ++ Write at bytes written ∷ []
      → (i : ℕ) → Stale first now i → IsOutside at written i
  fresh_written at bytes written now is i here = (stale_now (Write at bytes written) now is i here).1

  -- zeros that were added, maybe fewer than were asked for
  fewer : (from count wanted : ℕ) → wanted ≤ count → (c : List ℕ)
      → left_then (Leaves first changes) (Stale first changes) (Grow from wanted) c
      → left_then (Leaves first changes) (Stale first changes) (Grow from count) c
  fewer from count wanted less c (d, before, (n, within, is)) = (d, before, (n, omega (arith, within, less), is))

  pub grown_follows : (from count wanted : ℕ) → wanted ≤ count → (now : List Change) → MayNote (Grow from wanted) changes now
      → Follows (Grown count) (Leaves first changes) (Leaves first now)
  grown_follows from count wanted less now (inl is) c left = fewer from count wanted less c (changed (Grow from wanted) now is c left)
  grown_follows from count wanted less now (inr same) c left = (c, subst (λ l. Leaves first l c) same left, grown_same count c)

  pub stale_grown : {X E : Type 0} (r : Result X E) (count : ℕ) (old new : List ℕ) (now : List Change)
      → MayNote (Grow (length old) count) changes now → OnOk r (now ≡ changes ++ Grow (length old) count ∷ [])
      → OnErr r (length new ≡ length old)
      → (i : ℕ) → Stale first now i × (i < length new) → Stale first changes i × (i < length old)
  stale_grown (Ok x) count old new now noted is same i (here, inside) = stale_now (Grow (length old) count) now is i here
  stale_grown (Err e) count old new now (inl is) ok same i (here, inside) = stale_now (Grow (length old) count) now is i here
  stale_grown (Err e) count old new now (inr none) ok same i (here, inside) = (same_stale now none i here, omega (arith, inside, same))

  -- a sync that lost what was written
  pub lost_leaves : (file : List ℕ) (now : List Change) → MayNote (Lost file) changes now → (c : List ℕ) → Leaves first now c
      → Leaves first changes c
  lost_leaves file now (inl is) c left = changed (Lost file) now is c left
  lost_leaves file now (inr same) c left = subst (λ l. Leaves first l c) same left

  pub stale_lost : (file new : List ℕ) (now : List Change) → MayNote (Lost file) changes now → new ≡ file → (i : ℕ)
      → Stale first now i × (i < length new)
      → (Stale first changes i × (i < length file)) ⊎ (IsSure (Some file) (Leaves first changes) i → ⊥)
  stale_lost file new now (inl is) same i (here, inside) =
      ⊎_elim (λ was. inl (was, omega (arith, inside, ap length same))) (λ unsure. inr unsure) (stale_now (Lost file) now is i here)
  stale_lost file new now (inr none) same i (here, inside) = inl (same_stale now none i here, omega (arith, inside, ap length same))

  pub noted_time : (change : Change) (now : List Change) → MayNote change changes now
      → Elapses (length changes) (length now) (LeftSince first changes) (LeftSince first now) (Leaves first now)
  noted_time change now (inl is) = more_time change now is
  noted_time change now (inr same) = same_time now same

  pub settled : (file : List ℕ) (now : List Change) → now ≡ changes ++ Sync file ∷ [] → (c : List ℕ) → Leaves first now c
      → Leaves first changes c × ((i : ℕ) → (Stale first changes i × (i < length file) → ⊥) → slice_get c i ≡ slice_get file i)
  settled file now is c left = changed (Sync file) now is c left

  pub durable : (file : List ℕ) (now : List Change) → now ≡ changes ++ Sync file ∷ []
      → IsFresh (λ i. Stale first changes i × (i < length file)) → (c : List ℕ) → Leaves first now c → c ≡ file
  durable file now is fresh c left = same_by_get c file (λ i. (settled file now is c left).1 i (fresh i))

  pub stale_synced : (file new : List ℕ) (now : List Change) → now ≡ changes ++ Sync file ∷ [] → new ≡ file → (i : ℕ)
      → Stale first now i × (i < length new) → Stale first changes i × (i < length file)
  stale_synced file new now is same i (here, inside) = (stale_now (Sync file) now is i here, omega (arith, inside, ap length same))
