-- Places of a file: those that are sure to be on the disk, and those that a sync that failed may lose.
use Rattle.std.proofs.Common.{◌≡◌, ◌⊎◌, inl, inr, ℕ, zero, suc, ◌+◌, ◌<◌, ◌≤◌, List, [], ◌∷◌, ◌++◌, length, take, drop, replicate, Option, Some, None, IfSome, refl, sym, ap, subst, ◌∙◌, arith, length-append, length-take}
use Rattle.std.specs.List.{slice_get}
use Rattle.std.specs.Option.{option_map}
use Rattle.std.proofs.lemmas.Bool.{cases_lt}
use Rattle.std.proofs.lemmas.Option.{none-some, same_Some}
use Rattle.doc_server_journal.specs.Devices.{Writes, Grows, Torn, Grown, Follows, LeavesFile, IsOutside, IsPlaceOf, IsPastEnd, IsSure}
use Rattle.doc_server_journal.proofs.Tearing.{before_all}

pub same_by_get : (xs ys : List ℕ) → ((i : ℕ) → slice_get xs i ≡ slice_get ys i) → xs ≡ ys
same_by_get [] [] same = refl
same_by_get [] (y ∷ ys) same = absurd (none-some y (same zero))
same_by_get (x ∷ xs) [] same = absurd (none-some x (sym (same zero)))
same_by_get (x ∷ xs) (y ∷ ys) same =
    ap (λ z. z ∷ xs) (same_Some x y (same zero)) ∙ ap (λ (l : List ℕ). y ∷ l) (same_by_get xs ys (λ i. same (suc i)))

get_take : (n : ℕ) (xs : List ℕ) (i : ℕ) → i < n → slice_get (take n xs) i ≡ slice_get xs i
get_take zero xs i lt = absurd (omega (arith, lt))
get_take (suc n) [] i lt = refl
get_take (suc n) (x ∷ xs) zero lt = refl
get_take (suc n) (x ∷ xs) (suc i) lt = get_take n xs i (omega (arith, lt))

get_append : (xs ys : List ℕ) (i : ℕ) → i < length xs → slice_get (xs ++ ys) i ≡ slice_get xs i
get_append [] ys i lt = absurd (omega (arith, lt))
get_append (x ∷ xs) ys zero lt = refl
get_append (x ∷ xs) ys (suc i) lt = get_append xs ys i (omega (arith, lt))

-- ---- what a sync may lose of a file that was on the disk

sure_before : (at : ℕ) (bytes file c : List ℕ) → at ≤ length file → Torn at bytes file c → (i : ℕ) → i < at
    → slice_get c i ≡ slice_get (take at file ++ bytes ++ drop (at + length bytes) file) i
sure_before at bytes file c fits torn i lt =
    let front : length (take at file) ≡ at = omega (arith, fits, length-take at file) in
    sym (get_take at c i lt)
    ∙ ap (λ l. slice_get l i) (before_all at bytes file c fits torn)
    ∙ sym (get_append (take at file) bytes i (omega (arith, lt, front)))
    ∙ sym (get_append (take at file ++ bytes) (drop (at + length bytes) file) i
    (omega (arith, lt, front, length-append (take at file) bytes)))

sure_at_front : (count added : ℕ) (file c : List ℕ) → Grown count file c → (i : ℕ) → i < length file
    → slice_get c i ≡ slice_get (file ++ replicate added 0) i
sure_at_front count added file c (n, most, is) i lt =
    ap (λ l. slice_get l i) is ∙ get_append file (replicate n 0) i lt ∙ sym (get_append file (replicate added 0) i lt)

module _ (old mid : Option (List ℕ)) (before after : List ℕ → Type 0) (durable : LeavesFile old before) (i : ℕ)
    (unsure : IsSure mid after i → ⊥) where
  -- it is no place of a file that isn't known
  unknown : {P : Type 0} → mid ≡ None → P
  unknown is = absurd (unsure (subst (λ o. IsSure o after i) (sym is) tt))

  module _ (file now : List ℕ) (was : old ≡ Some file) (is : mid ≡ Some now) where
    not_sure : {P : Type 0} → ((c : List ℕ) → after c → slice_get c i ≡ slice_get now i) → P
    not_sure all = absurd (unsure (subst (λ o. IsSure o after i) (sym is) all))

    left_was : (d : List ℕ) → before d → d ≡ file
    left_was = subst (λ o. LeavesFile o before) was durable

  -- a write
  module _ (at : ℕ) (bytes : List ℕ) (place : IfSome old (λ file. at ≤ length file)) (writes : Writes old at bytes mid)
      (follows : Follows (Torn at bytes) before after) where
    module _ (file : List ℕ) (was : old ≡ Some file) where
      abbrev now : List ℕ
      now = take at file ++ bytes ++ drop (at + length bytes) file

      now_is : mid ≡ Some now
      now_is = writes ∙ ap (λ o. option_map (λ f. take at f ++ bytes ++ drop (at + length bytes) f) o) was

      torn_here : (c : List ℕ) → after c → Torn at bytes file c
      torn_here c left =
          let step = follows c left in
          subst (λ f. Torn at bytes f c) (left_was file now was now_is step.0 step.1) step.2

      behind : (i < at) ⊎ (at ≤ i) → at ≤ i
      behind (inl lt) =
          let fits : at ≤ length file = subst (λ o. IfSome o (λ f. at ≤ length f)) was place in
          not_sure file now was now_is (λ c left. sure_before at bytes file c fits (torn_here c left) i lt)
      behind (inr le) = le

    lost_so : (o : Option (List ℕ)) → old ≡ o → at ≤ i
    lost_so None none =
        unknown (writes ∙ ap (λ o. option_map (λ f. take at f ++ bytes ++ drop (at + length bytes) f) o) none)
    lost_so (Some file) was = behind file was (cases_lt i at)

    pub lost_in_write : at ≤ i
    lost_in_write = lost_so old refl

  -- zeros that were added
  module _ (count added : ℕ) (grows : Grows old added mid) (follows : Follows (Grown count) before after) where
    module _ (file : List ℕ) (was : old ≡ Some file) where
      abbrev longer : List ℕ
      longer = file ++ replicate added 0

      longer_is : mid ≡ Some longer
      longer_is = grows ∙ ap (λ o. option_map (λ f. f ++ replicate added 0) o) was

      grown_here : (c : List ℕ) → after c → Grown count file c
      grown_here c left =
          let step = follows c left in
          subst (λ f. Grown count f c) (left_was file longer was longer_is step.0 step.1) step.2

      past : (i < length file) ⊎ (length file ≤ i) → IsPastEnd old i
      past (inl lt) = not_sure file longer was longer_is (λ c left. sure_at_front count added file c (grown_here c left) i lt)
      past (inr le) = subst (λ o. IsPastEnd o i) (sym was) le

    growth_lost : (o : Option (List ℕ)) → old ≡ o → IsPastEnd old i
    growth_lost None none = unknown (grows ∙ ap (λ o. option_map (λ f. f ++ replicate added 0) o) none)
    growth_lost (Some file) was = past file was (cases_lt i (length file))

    pub lost_in_growth : IsPastEnd old i
    lost_in_growth = growth_lost old refl

-- ---- places that are written again

-- none is outside of what is written up to the end of the file
pub none_outside : (old : Option (List ℕ)) (bytes : List ℕ) (from count i : ℕ) → IfSome old (λ file. file ≡ bytes)
    → length bytes ≤ from + count → from ≤ i → IsPlaceOf old i → IsOutside from count i → ⊥
none_outside None bytes from count i known_is all le never outside = absurd never
none_outside (Some file) bytes from count i known_is all le lt (inl before) = absurd (omega (arith, le, before))
none_outside (Some file) bytes from count i known_is all le lt (inr past) = absurd (omega (arith, lt, past, all, ap length known_is))

-- behind the end of a file of at least that length
pub past_so : (old : Option (List ℕ)) (n m i : ℕ) → IfSome old (λ file. length file ≡ n + 1 + m) → IsPastEnd old i → n ≤ i
past_so None n m i size never = absurd never
past_so (Some file) n m i size le = omega (arith, size, le)
