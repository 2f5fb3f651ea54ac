-- Bytes that are handed over, piece by piece.
use Rattle.std.proofs.Common.{◌≡◌, ◌≤◌, ◌<◌, ◌+◌, ◌-◌, ◌++◌, ℕ, zero, suc, List, [], ◌∷◌, length, take, drop, refl, sym, ap, subst, ◌∙◌, arith}
use Rattle.std.proofs.Common.{append-nil, append_assoc, flat_map}
use Rattle.std.proofs.lemmas.List.{take-append-drop, drop-drop, take_rest}
use Rattle.std.specs.Prelude.{Option, slice_index_or}
use Rattle.std.specs.Io.KnownBytes.{append_known}
use Rattle.doc_server_network.specs.Networks.{Moves}
use Rattle.doc_server_network.proofs.Passing.{append_join, append_none, moved_at}
use Rattle.doc_server_turns.specs.Replies.{left_of, Starts}
use Rattle.doc_server_turns.specs.Wirings.{HandsOver}

pub hands_none : (a b : Option (List ℕ)) (xs : List ℕ) → b ≡ a → HandsOver a b xs xs
hands_none a b xs same = ([], same ∙ sym (append_none a), refl)

pub hands_join : (a b c : Option (List ℕ)) (xs ys zs : List ℕ) → HandsOver a b xs ys → HandsOver b c ys zs → HandsOver a c xs zs
hands_join a b c xs ys zs (g, one, is) (h, two, also) =
    (g ++ h, two ∙ ap (λ o. append_known o h) one ∙ append_join a g h, is ∙ ap (λ l. g ++ l) also ∙ sym (append_assoc g h zs))

-- further bytes behind wait
pub hands_before : (a b : Option (List ℕ)) (xs ys more : List ℕ) → HandsOver a b xs ys → HandsOver a b (xs ++ more) (ys ++ more)
hands_before a b xs ys more (g, one, is) = (g, one, ap (λ l. l ++ more) is ∙ append_assoc g ys more)

-- one write of what is left of a reply
pub one_write : (old new : ℕ → Option (List ℕ)) (id : ℕ) (xs rest : List ℕ) (at n : ℕ) → rest ≡ take (length xs - at) (drop at xs)
    → Moves old new id (take n rest)
    → HandsOver (old id) (new id) (drop at xs) (drop (at + n) xs)
one_write old new id xs rest at n is moves =
    let all : rest ≡ drop at xs = is ∙ take_rest xs at in (
      take n (drop at xs),
      moved_at old new id (take n rest) moves ∙ ap (λ l. append_known (old id) (take n l)) all,
      sym (take-append-drop n (drop at xs)) ∙ ap (λ l. take n (drop at xs) ++ l) (drop-drop n at xs),
    )

-- ---- the first reply of all

drop_all : (n : ℕ) (xs : List ℕ) → length xs ≤ n → drop n xs ≡ []
drop_all n [] fits = drop_nil n
  where
    drop_nil : (m : ℕ) → drop {A = ℕ} m [] ≡ []
    drop_nil zero = refl
    drop_nil (suc m) = refl
drop_all zero (x ∷ xs) fits = absurd (omega (arith, fits))
drop_all (suc n) (x ∷ xs) fits = drop_all n xs (omega (arith, fits))

from_none : (rest : List (List ℕ)) → left_of 0 rest ≡ flat_map (λ r. r) rest
from_none [] = refl
from_none (r ∷ rest) = refl

-- a part of it
pub part_gone : (a b : Option (List ℕ)) (replies : List (List ℕ)) (x : List ℕ) (s t : ℕ) → 0 < length replies
    → x ≡ slice_index_or replies 0 x → HandsOver a b (drop s x) (drop t x) → HandsOver a b (left_of s replies) (left_of t replies)
part_gone a b [] x s t some is gives = absurd (omega (arith, some))
part_gone a b (y ∷ more) x s t some is gives =
    hands_before a b (drop s y) (drop t y) (flat_map (λ r. r) more) (subst (λ l. HandsOver a b (drop s l) (drop t l)) is gives)

-- all of it
pub first_gone : (a b : Option (List ℕ)) (replies rest : List (List ℕ)) (x : List ℕ) (s t : ℕ) → 0 < length replies
    → x ≡ slice_index_or replies 0 x → rest ≡ drop 1 replies → length x ≤ t → HandsOver a b (drop s x) (drop t x)
    → HandsOver a b (left_of s replies) (left_of 0 rest)
first_gone a b [] rest x s t some is front whole gives = absurd (omega (arith, some))
first_gone a b (y ∷ more) rest x s t some is front whole gives =
    let part = part_gone a b (y ∷ more) x s t (omega arith) is gives in
    let gone : drop t y ≡ [] = ap (drop t) (sym is) ∙ drop_all t x whole in
    let same : left_of t (y ∷ more) ≡ left_of 0 rest =
    ap (λ l. l ++ flat_map (λ r. r) more) gone ∙ sym (from_none more) ∙ ap (left_of 0) (sym front) in
    subst (λ l. HandsOver a b (left_of s (y ∷ more)) l) same part

pub starts_none : (xs : List (List ℕ)) → Starts 0 xs
starts_none [] = refl
starts_none (x ∷ xs) = tt

-- ---- a reply behind the others

append_flat : (xs : List (List ℕ)) (b : List ℕ) → flat_map (λ r. r) (xs ++ b ∷ []) ≡ flat_map (λ r. r) xs ++ b
append_flat [] b = append-nil b
append_flat (x ∷ xs) b = ap (λ l. x ++ l) (append_flat xs b) ∙ sym (append_assoc x (flat_map (λ r. r) xs) b)

pub left_behind : (sent : ℕ) (replies : List (List ℕ)) (b : List ℕ) → Starts sent replies
    → left_of sent (replies ++ b ∷ []) ≡ left_of sent replies ++ b
left_behind sent [] b none = ap (λ n. drop n b ++ []) none ∙ append_flat [] b
left_behind sent (x ∷ xs) b starts = ap (λ l. drop sent x ++ l) (append_flat xs b)
    ∙ sym (append_assoc (drop sent x) (flat_map (λ r. r) xs) b)
