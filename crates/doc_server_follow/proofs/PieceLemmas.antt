-- What the front of bytes tells of all of them.
use Rattle.std.proofs.Common.{◌≡◌, inl, inr, ⊎_elim, ℕ, zero, suc, ◌+◌, ◌-◌, ◌≤◌, ◌<◌, List, [], ◌∷◌, ◌++◌, length, take, get_or, refl, sym, ap, subst, ◌∙◌, arith, length-take}
use Rattle.std.proofs.lemmas.Bool.{cases_lt}
use Rattle.std.proofs.lemmas.List.{take_all, take-take}
use Rattle.std.proofs.Math.Seq.{take-append-add}
use Rattle.doc_server_journal_records.specs.Records.{Entry, open_gate, closed_gate, record_bytes, text_limit}
use Rattle.doc_server_journal_records.specs.Readings.{HasNoOpenRecord, IsNotYet, IsOpenRecord, IsRecord, IsShort}
use Rattle.doc_server_journal_records.proofs.FrontLemmas.{head_part}
use Rattle.doc_server_journal_records.proofs.RecordLemmas.{length_record}
use Rattle.doc_server_follow.specs.Follows.{HasGate}

first_byte : (a b : ℕ) (x y : List ℕ) → a ∷ x ≡ b ∷ y → a ≡ b
first_byte a b x y same = ap (λ (l : List ℕ). get_or l 0 0) same

-- ---- gates

pub gate_in_front : (n : ℕ) (bytes : List ℕ) → 0 < n → HasGate bytes → HasGate (take n bytes)
gate_in_front zero bytes some has = absurd (omega (arith, some))
gate_in_front (suc n) [] some has = has
gate_in_front (suc n) (gate ∷ behind) some has = has

pub gate_of_front : (n : ℕ) (bytes : List ℕ) → HasGate (take n bytes) → HasGate bytes
gate_of_front zero bytes has = absurd has
gate_of_front (suc n) [] has = has
gate_of_front (suc n) (gate ∷ behind) has = has

pub closed_front : (n : ℕ) (bytes tail : List ℕ) → take n bytes ≡ closed_gate ∷ tail
    → (behind : List ℕ) × (bytes ≡ closed_gate ∷ behind)
closed_front zero bytes tail is = absurd (omega (arith, ap (λ (l : List ℕ). length l) is))
closed_front (suc n) [] tail is = absurd (omega (arith, ap (λ (l : List ℕ). length l) is))
closed_front (suc n) (gate ∷ behind) tail is =
    (behind, ap (λ (g : ℕ). g ∷ behind) (first_byte gate closed_gate (take n behind) tail is))

pub short_behind : (bytes behind : List ℕ) → bytes ≡ open_gate ∷ behind → IsNotYet bytes → IsShort behind
short_behind bytes behind is not_yet = by (subst IsNotYet is not_yet)
  where
    by : IsNotYet (open_gate ∷ behind) → IsShort behind
    by (inl closed) = absurd (omega (arith, closed))
    by (inr (gate, short)) = short

-- ---- bytes that are too few

module _ (n : ℕ) (whole : List ℕ) where
  no_longer : length (take n whole) ≤ length whole
  no_longer = omega (arith, length-take n whole)

  same_head : 20 ≤ length (take n whole) → take 20 (take n whole) ≡ take 20 whole
  same_head long = take-take 20 n whole (omega (arith, long, length-take n whole))

  -- all are too few, so a part is
  short_in_front : IsShort whole → IsShort (take n whole)
  short_in_front (inl few) = inl (omega (arith, few, no_longer))
  short_in_front (inr (count, time, fits, digits, names, few)) =
      ⊎_elim (λ less. inl less) (λ long. inr (count, time, fits, digits, same_head long ∙ names, omega (arith, few, no_longer)))
      (cases_lt (length (take n whole)) 20)

  -- a record is whole in a part that isn't too short
  module _ (before : List ℕ) (entry : Entry) (rest : List ℕ) (is : IsRecord before entry whole rest)
      (long : IsShort (take n whole) → ⊥) where
    its_room : 85 + length entry.text ≤ length (take n whole)
    its_room = ⊎_elim
        (λ less. absurd (long (⊎_elim (λ few. inl few) (λ headed. inr (
          length entry.text,
          entry.time,
          is.is_entry.within,
          is.is_entry.time,
          same_head headed ∙ head_part before whole entry rest is,
          less,
        )) (cases_lt (length (take n whole)) 20))))
        (λ room. omega (arith, room))
        (cases_lt (length (take n whole)) (length entry.text + 85))

    record_in_front : IsRecord before entry (take n whole) (take (n - length (record_bytes before entry)) rest)
    record_in_front =
        let size = length_record before entry is.is_entry.time.0 in
        let fits : length (record_bytes before entry) + (n - length (record_bytes before entry)) ≡ n =
        omega (arith, size, its_room, length-take n whole) in
        record {
          is_entry = is.is_entry;
          split = ap (λ l. take n l) is.split
              ∙ ap (λ k. take k (record_bytes before entry ++ rest)) (sym fits)
              ∙ take-append-add (record_bytes before entry) rest (n - length (record_bytes before entry));
        }

not_yet_in_front : (n : ℕ) (bytes : List ℕ) → IsNotYet bytes → IsNotYet (take n bytes)
not_yet_in_front zero bytes is = tt
not_yet_in_front (suc n) [] is = tt
not_yet_in_front (suc n) (gate ∷ behind) (inl closed) = inl closed
not_yet_in_front (suc n) (gate ∷ behind) (inr (open_is, short)) = inr (open_is, short_in_front n behind short)

-- an open record of all stands in a part that none is to come in
open_in_front : (n : ℕ) (bytes digest : List ℕ) (entry : Entry) (rest : List ℕ) → (IsNotYet (take n bytes) → ⊥)
    → IsOpenRecord digest entry bytes rest → (left : List ℕ) × IsOpenRecord digest entry (take n bytes) left
open_in_front zero bytes digest entry rest never found = absurd (never tt)
open_in_front (suc n) bytes digest entry rest never (behind, is, found) =
    let front : take (suc n) bytes ≡ open_gate ∷ take n behind = ap (λ l. take (suc n) l) is in
    let long : IsShort (take n behind) → ⊥ = λ short. never (subst IsNotYet (sym front) (inr (refl, short))) in (
      take (n - length (record_bytes digest entry)) rest,
      (take n behind, front, record_in_front n behind digest entry rest found long),
    )

-- a part where no record is to come: none comes in all
pub none_to_come : (n : ℕ) (bytes digest : List ℕ) → HasNoOpenRecord digest (take n bytes) → (IsNotYet (take n bytes) → ⊥)
    → HasNoOpenRecord digest bytes × (IsNotYet bytes → ⊥)
none_to_come n bytes digest none never = (
  λ entry rest found. let left = open_in_front n bytes digest entry rest never found in none entry left.0 left.1,
  λ not_yet. never (not_yet_in_front n bytes not_yet),
)

-- a part as long as the longest record that is too short: it is all
pub all_of_it : (n : ℕ) (bytes behind : List ℕ) → text_limit + 86 ≤ n → take n bytes ≡ open_gate ∷ behind → IsShort behind
    → take n bytes ≡ bytes
all_of_it n bytes behind long is short =
    ⊎_elim (λ less. absurd (by (omega (arith, less, length-take n bytes, ap (λ (l : List ℕ). length l) is)) short))
    (λ within. take_all n bytes within) (cases_lt n (length bytes))
  where
    by : text_limit + 85 ≤ length behind → IsShort behind → ⊥
    by room (inl few) = omega (arith, room, few)
    by room (inr (count, time, fits, digits, names, few)) = omega (arith, room, fits, few)
