-- What a crash leaves in a write, byte for byte.
use Rattle.std.proofs.Common.{◌≡◌, ◌⊎◌, inl, inr, ⊎_elim, ℕ, zero, suc, ◌+◌, ◌-◌, ◌<◌, ◌≤◌, true, List, [], ◌∷◌, ◌++◌, length, take, drop, get_or, replicate, refl, sym, ap, subst, ◌∙◌, arith, length-append, length-take, append_assoc}
use Rattle.std.proofs.lemmas.Bool.{cases_lt}
use Rattle.std.proofs.lemmas.List.{take_at, take-append-drop, get_or-drop, get_or-take, ext_get_or, get_or-append_right}
use Rattle.std.proofs.Math.Seq.{drop-append-add}
use Rattle.std.proofs.Math.ListN.{get_or-append}
use Rattle.doc_server_journal.specs.Devices.{Torn}
use Rattle.doc_server_journal_records.specs.Records.{IsTail, is_shut}
use Rattle.doc_server_journal_records.proofs.Digits.{all_shut, shut_at}
use Rattle.doc_server_journal.proofs.Tearing.{before_all}

-- ---- bytes that are no open gate

pub zeros_shut : (n : ℕ) → IsTail (replicate n 0)
zeros_shut zero = refl
zeros_shut (suc n) = zeros_shut n

pub rest_shut : (n : ℕ) (xs : List ℕ) → IsTail xs → IsTail (drop n xs)
rest_shut n xs all = all_shut (drop n xs) (λ i. subst (λ b. is_shut b ≡ true) (sym (get_or-drop n xs i 0)) (shut_at xs all (n + i)))

-- ---- a byte behind a write that a crash cut short

-- it is the one that was there, or one that was written
abbrev pub Mixed : ℕ → List ℕ → List ℕ → List ℕ → ℕ → Type 0
Mixed at bytes old new i =
    (get_or new i 0 ≡ get_or old i 0) ⊎ ((at ≤ i) × (i < at + length bytes) × (get_or new i 0 ≡ get_or bytes (i - at) 0))

module _ (at : ℕ) (bytes old new : List ℕ) (fits : at ≤ length old) (torn : Torn at bytes old new) where
  before_it : (i : ℕ) → i < at → get_or new i 0 ≡ get_or old i 0
  before_it i lt =
      sym (get_or-take at new i 0 lt) ∙ ap (λ l. get_or l i 0) (before_all at bytes old new fits torn) ∙ get_or-take at old i 0 lt

  behind_it : (i : ℕ) → at + length bytes ≤ i → get_or new i 0 ≡ get_or old i 0
  behind_it i le =
      let n = at + length bytes in
      let back : n + (i - n) ≡ i = omega (arith, le) in
      ap (λ k. get_or new k 0) (sym back) ∙ sym (get_or-drop n new (i - n) 0) ∙ ap (λ l. get_or l (i - n) 0) torn.behind
      ∙ get_or-drop n old (i - n) 0 ∙ ap (λ k. get_or old k 0) back

  pub mixed : (i : ℕ) → Mixed at bytes old new i
  mixed i = by (cases_lt i at)
    where
      within : at ≤ i → (i < at + length bytes) ⊎ (at + length bytes ≤ i) → Mixed at bytes old new i
      within le (inl lt) = ⊎_elim (λ was. inl was) (λ now. inr (le, lt, now)) (torn.each i le lt)
      within le (inr past) = inl (behind_it i past)

      by : (i < at) ⊎ (at ≤ i) → Mixed at bytes old new i
      by (inl lt) = inl (before_it i lt)
      by (inr le) = within le (cases_lt i (at + length bytes))

-- ---- a front, a gate, and no open gate behind it

abbrev pub EndsSo : List ℕ → ℕ → List ℕ → Type 0
EndsSo front gate c = (tail : List ℕ) × IsTail tail × (c ≡ front ++ gate ∷ tail)

-- the bytes of a front and a gate
module _ (front : List ℕ) (gate : ℕ) (end : ℕ) (end_is : end ≡ length front) where
  pub length_both : length (front ++ gate ∷ []) ≡ end + 1
  length_both = omega (arith, end_is, length-append front (gate ∷ []))

  pub as_both : (tail : List ℕ) → front ++ gate ∷ tail ≡ (front ++ gate ∷ []) ++ tail
  as_both tail = sym (append_assoc front (gate ∷ []) tail)

  pub front_at : (tail : List ℕ) (i : ℕ) → i < end + 1 → get_or (front ++ gate ∷ tail) i 0 ≡ get_or (front ++ gate ∷ []) i 0
  front_at tail i lt =
      ap (λ l. get_or l i 0) (as_both tail) ∙ get_or-append (front ++ gate ∷ []) tail 0 i (omega (arith, lt, length_both))

  pub tail_at : (tail : List ℕ) (i : ℕ) → get_or (front ++ gate ∷ tail) (end + 1 + i) 0 ≡ get_or tail i 0
  tail_at tail i =
      ap (λ l. get_or l (end + 1 + i) 0) (as_both tail)
      ∙ get_or-append_right (front ++ gate ∷ []) tail (end + 1) (end + 1 + i) 0 length_both (omega arith)
      ∙ ap (λ k. get_or tail k 0) (less i)
    where
      less : (i : ℕ) → end + 1 + i - (end + 1) ≡ i
      less i = omega arith

  pub ends_so : (c : List ℕ) → end + 1 ≤ length c → ((i : ℕ) → i < end + 1 → get_or c i 0 ≡ get_or (front ++ gate ∷ []) i 0)
      → ((i : ℕ) → is_shut (get_or c (end + 1 + i) 0) ≡ true) → EndsSo front gate c
  ends_so c long same shut =
      let tail = drop (end + 1) c in
      let size : length (take (end + 1) c) ≡ length (front ++ gate ∷ []) = omega (arith, length-take (end + 1) c, long, length_both) in
      let fits : (i : ℕ) → i < length (take (end + 1) c) → i < end + 1 = λ i lt. omega (arith, lt, size, length_both) in
      let first : take (end + 1) c ≡ front ++ gate ∷ [] =
      ext_get_or 0 (take (end + 1) c) (front ++ gate ∷ []) size
      (λ i lt. get_or-take (end + 1) c i 0 (fits i lt) ∙ same i (fits i lt)) in (
        tail,
        all_shut tail (λ i. subst (λ b. is_shut b ≡ true) (sym (get_or-drop (end + 1) c i 0)) (shut i)),
        sym (take-append-drop (end + 1) c) ∙ ap (λ l. l ++ tail) first ∙ sym (as_both tail),
      )

  pub length_all : (tail : List ℕ) → length (front ++ gate ∷ tail) ≡ end + 1 + length tail
  length_all tail = omega (arith, end_is, length-append front (gate ∷ tail))

  pub front_cut : (tail : List ℕ) → take (end + 1) (front ++ gate ∷ tail) ≡ front ++ gate ∷ []
  front_cut tail = ap (λ l. take (end + 1) l) (as_both tail) ∙ take_at (front ++ gate ∷ []) tail (end + 1) length_both

  pub tail_cut : (tail : List ℕ) (n : ℕ) → drop (end + 1 + n) (front ++ gate ∷ tail) ≡ drop n tail
  tail_cut tail n =
      ap (λ l. drop (end + 1 + n) l) (as_both tail)
      ∙ ap (λ k. drop (k + n) ((front ++ gate ∷ []) ++ tail)) (sym length_both)
      ∙ drop-append-add (front ++ gate ∷ []) tail n
