-- The writes of a journal: what a crash leaves in each, and what the file is behind it.
use Rattle.std.proofs.Common.{◌≡◌, ◌⊎◌, inl, inr, ⊎_elim, ℕ, zero, suc, ◌+◌, ◌-◌, ◌<◌, ◌≤◌, true, List, [], ◌∷◌, ◌++◌, length, take, drop, get_or, replicate, refl, sym, ap, ◌∙◌, arith, length-append, length-drop, append_assoc}
use Rattle.std.proofs.lemmas.List.{take_at, drop_at, drop_more, drop-take, take-append-le, take-append-drop, get_or-drop, get_or-append_right}
use Rattle.std.proofs.Math.ListN.{get_or-append}
use Rattle.doc_server_journal.specs.Devices.{Torn}
use Rattle.doc_server_journal_records.specs.Records.{IsTail, is_shut, open_gate, closed_gate}
use Rattle.doc_server_journal_records.proofs.Digits.{shut_at}
use Rattle.doc_server_journal.proofs.Mixtures.{EndsSo, Mixed, mixed, zeros_shut, length_both, length_all, front_at, tail_at, ends_so, front_cut, tail_cut}
use Rattle.doc_server_journal.proofs.Tearing.{before_all}

pub length_zeros : (n : ℕ) → length {A = ℕ} (replicate n 0) ≡ n
length_zeros zero = refl
length_zeros (suc n) = omega (arith, length_zeros n)

module _ (front : List ℕ) (end : ℕ) (end_is : end ≡ length front) where
  abbrev both : List ℕ
  both = front ++ closed_gate ∷ []

  less : (i : ℕ) → end + 1 + i - (end + 1) ≡ i
  less i = omega arith

  -- ---- a record behind the closed gate

  module _ (tail written : List ℕ) where
    abbrev resting : List ℕ
    resting = front ++ closed_gate ∷ tail

    pub first_done : take (end + 1) resting ++ written ++ drop (end + 1 + length written) resting
        ≡ front ++ closed_gate ∷ (written ++ drop (length written) tail)
    first_done =
        ap (λ l. l ++ written ++ drop (end + 1 + length written) (front ++ closed_gate ∷ tail))
        (front_cut front closed_gate end end_is tail)
        ∙ ap (λ l. both ++ written ++ l) (tail_cut front closed_gate end end_is tail (length written))
        ∙ append_assoc both written (drop (length written) tail)
        ∙ append_assoc front (closed_gate ∷ []) (written ++ drop (length written) tail)

    module _ (tail_is : IsTail tail) (written_is : IsTail written) (c : List ℕ)
        (torn : Torn (end + 1) written (front ++ closed_gate ∷ tail) c) where
      each : (i : ℕ) → Mixed (end + 1) written (front ++ closed_gate ∷ tail) c i
      each = mixed (end + 1) written (front ++ closed_gate ∷ tail) c (omega (arith, length_all front closed_gate end end_is tail)) torn

      same : (i : ℕ) → i < end + 1 → get_or c i 0 ≡ get_or both i 0
      same i lt =
          ⊎_elim (λ was. was ∙ front_at front closed_gate end end_is tail i lt) (λ now. absurd (omega (arith, lt, now.0))) (each i)

      shut : (i : ℕ) → is_shut (get_or c (end + 1 + i) 0) ≡ true
      shut i = ⊎_elim
          (λ was. ap is_shut (was ∙ tail_at front closed_gate end end_is tail i) ∙ shut_at tail tail_is i)
          (λ now. ap is_shut (now.2 ∙ ap (λ k. get_or written k 0) (less i)) ∙ shut_at written written_is i) (each (end + 1 + i))

      pub first_torn : EndsSo front closed_gate c
      first_torn = ends_so front closed_gate end end_is c
          (omega (arith, torn.no_shorter, length_all front closed_gate end end_is tail)) same shut

  -- ---- the gate

  module _ (rest : List ℕ) where
    abbrev staged : List ℕ
    staged = front ++ closed_gate ∷ rest

    front_part : take end staged ≡ front
    front_part = take_at front (closed_gate ∷ rest) end (sym end_is)

    gate_part : drop end staged ≡ closed_gate ∷ rest
    gate_part = drop_at front (closed_gate ∷ rest) end (sym end_is)

    behind_part : drop (end + 1) staged ≡ rest
    behind_part =
        let plus : end + 1 ≡ end + 1 + 0 = omega arith in
        ap (λ n. drop n staged) plus ∙ tail_cut front closed_gate end end_is rest 0

    length_staged : length staged ≡ end + 1 + length rest
    length_staged = length_all front closed_gate end end_is rest

    gate_was : get_or staged end 0 ≡ closed_gate
    gate_was =
        let cut = drop_more staged end 0 (omega (arith, length_staged)) in
        ap (λ (l : List ℕ). get_or l 0 0) (sym cut ∙ gate_part)

    pub gate_done : take end staged ++ (open_gate ∷ []) ++ drop (end + 1) staged ≡ front ++ open_gate ∷ rest
    gate_done =
        ap (λ l. l ++ (open_gate ∷ []) ++ drop (end + 1) staged) front_part
        ∙ ap (λ l. front ++ (open_gate ∷ []) ++ l) behind_part
        ∙ append_assoc front (open_gate ∷ []) rest

    pub gate_torn : (c : List ℕ) → Torn end (open_gate ∷ []) staged c → (c ≡ staged) ⊎ (c ≡ front ++ open_gate ∷ rest)
    gate_torn c torn =
        let gate = get_or c end 0 in
        let behind : drop end c ≡ gate ∷ rest =
        drop_more c end 0 (omega (arith, torn.no_shorter, length_staged)) ∙ ap (λ (l : List ℕ). gate ∷ l) (torn.behind ∙ behind_part) in
        let whole : c ≡ front ++ gate ∷ rest =
        sym (take-append-drop end c)
        ∙ ap (λ l. l ++ drop end c) (before_all end (open_gate ∷ []) staged c (omega (arith, length_staged)) torn ∙ front_part)
        ∙ ap (λ l. front ++ l) behind in
        by_gate gate whole (torn.each end (omega arith) (omega arith))
      where
        first_byte : (k : ℕ) → k ≡ 0 → get_or (open_gate ∷ []) k 0 ≡ open_gate
        first_byte k is = ap (λ (n : ℕ). get_or (open_gate ∷ []) n 0) is

        by_gate : (gate : ℕ) → c ≡ front ++ gate ∷ rest
            → (gate ≡ get_or staged end 0) ⊎ (gate ≡ get_or (open_gate ∷ []) (end - end) 0)
            → (c ≡ staged) ⊎ (c ≡ front ++ open_gate ∷ rest)
        by_gate gate whole (inl shut) = inl (whole ∙ ap (λ (g : ℕ). front ++ g ∷ rest) (shut ∙ gate_was))
        by_gate gate whole (inr is_open) =
            inr (whole ∙ ap (λ (g : ℕ). front ++ g ∷ rest) (is_open ∙ first_byte (end - end) (omega arith)))

  -- ---- the end, written again

  module _ (tail again : List ℕ) (from zeros : ℕ) (inside : from ≤ end) (again_is : again ≡ drop from both ++ replicate zeros 0) where
    abbrev file : List ℕ
    file = front ++ closed_gate ∷ tail

    length_both_is : length both ≡ end + 1
    length_both_is = length_both front closed_gate end end_is

    length_part : length (drop from both) ≡ end + 1 - from
    length_part = omega (arith, length-drop from both, length_both_is)

    pub length_again : from + length again ≡ end + 1 + zeros
    length_again =
        omega (arith, ap length again_is, length-append (drop from both) (replicate zeros 0), length_part, length_zeros zeros, inside)

    pub again_done : take from file ++ again ++ drop (from + length again) file
        ≡ front ++ closed_gate ∷ (replicate zeros 0 ++ drop zeros tail)
    again_done =
        let cut : take from file ≡ take from both =
        ap (λ l. take from l) (sym (append_assoc front (closed_gate ∷ []) tail))
        ∙ take-append-le from both tail (omega (arith, inside, length_both_is)) in
        let rest : drop (from + length again) file ≡ drop zeros tail =
        ap (λ n. drop n file) length_again ∙ tail_cut front closed_gate end end_is tail zeros in
        ap (λ l. l ++ again ++ drop (from + length again) file) cut
        ∙ ap (λ l. take from both ++ l ++ drop (from + length again) file) again_is
        ∙ ap (λ l. take from both ++ (drop from both ++ replicate zeros 0) ++ l) rest
        ∙ ap (λ l. l ++ drop zeros tail) (sym (append_assoc (take from both) (drop from both) (replicate zeros 0))
        ∙ ap (λ l. l ++ replicate zeros 0) (take-append-drop from both))
        ∙ append_assoc both (replicate zeros 0) (drop zeros tail)
        ∙ append_assoc front (closed_gate ∷ []) (replicate zeros 0 ++ drop zeros tail)

    module _ (tail_is : IsTail tail) (c : List ℕ) (torn : Torn from again file c) where
      mixes : (i : ℕ) → Mixed from again file c i
      mixes = mixed from again file c (omega (arith, inside, length_all front closed_gate end end_is tail)) torn

      written_at : (i : ℕ) → from ≤ i → i < end + 1 → get_or again (i - from) 0 ≡ get_or both i 0
      written_at i le lt =
          let back : from + (i - from) ≡ i = omega (arith, le) in
          ap (λ l. get_or l (i - from) 0) again_is
          ∙ get_or-append (drop from both) (replicate zeros 0) 0 (i - from) (omega (arith, le, lt, length_part))
          ∙ get_or-drop from both (i - from) 0
          ∙ ap (λ k. get_or both k 0) back

      zeroed : (i : ℕ) → is_shut (get_or again (end + 1 + i - from) 0) ≡ true
      zeroed i =
          ap is_shut (ap (λ l. get_or l (end + 1 + i - from) 0) again_is
          ∙ get_or-append_right (drop from both) (replicate zeros 0) (end + 1 - from) (end + 1 + i - from) 0 length_part
          (omega (arith, inside)))
          ∙ shut_at (replicate zeros 0) (zeros_shut zeros) (end + 1 + i - from - (end + 1 - from))

      kept : (i : ℕ) → i < end + 1 → get_or c i 0 ≡ get_or both i 0
      kept i lt = ⊎_elim (λ was. was ∙ front_at front closed_gate end end_is tail i lt) (λ now. now.2 ∙ written_at i now.0 lt) (mixes i)

      shut_behind : (i : ℕ) → is_shut (get_or c (end + 1 + i) 0) ≡ true
      shut_behind i = ⊎_elim
          (λ was. ap is_shut (was ∙ tail_at front closed_gate end end_is tail i) ∙ shut_at tail tail_is i)
          (λ now. ap is_shut now.2 ∙ zeroed i) (mixes (end + 1 + i))

      pub again_torn : EndsSo front closed_gate c
      again_torn = ends_so front closed_gate end end_is c
          (omega (arith, torn.no_shorter, length_all front closed_gate end end_is tail)) kept shut_behind

  -- what is written again is what was read
  pub part_read : (bytes tail : List ℕ) (from : ℕ) → from ≤ end → bytes ≡ front ++ closed_gate ∷ tail
      → take (end + 1 - from) (drop from bytes) ≡ drop from both
  part_read bytes tail from inside is =
      let back : from + (end + 1 - from) ≡ end + 1 = omega (arith, inside) in
      sym (drop-take from (end + 1 - from) bytes)
      ∙ ap (λ n. drop from (take n bytes)) back
      ∙ ap (λ l. drop from (take (end + 1) l)) is
      ∙ ap (λ l. drop from l) (front_cut front closed_gate end end_is tail)
