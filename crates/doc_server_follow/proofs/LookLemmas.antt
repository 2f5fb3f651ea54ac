-- What a look tells, by what was read.
use Rattle.std.proofs.Common.{◌≡◌, inr, ℕ, ◌+◌, ◌<◌, List, ◌∷◌, ◌++◌, length, take, drop, Option, Some, None, Result, Ok, Err, IfOk, IfSome, refl, sym, ap, subst, ◌∙◌, arith, append_assoc}
use Rattle.doc_server_journal_records.specs.Records.{open_gate, chain}
use Rattle.doc_server_journal_records.specs.Readings.{HasNoOpenRecord, IsNotYet}
use Rattle.doc_server_journal_records.proofs.RecordLemmas.{parts}
use Rattle.doc_server_follow.specs.Follows.{HasGate, IsBroken, IsMarked, LooksAs, mark_of}
use Rattle.doc_server_follow.specs.Sights.{IsSight, Sees, Stands, longest}
use Rattle.doc_server_follow.specs.declared.followed.Followed.{Followed}
use Rattle.doc_server_follow.specs.declared.looked.Looked.TheVariants as looks
use Rattle.doc_server_follow.specs.declared.sight.Sight.{Sight}
use Rattle.doc_server_follow.specs.declared.sight.Sight.TheVariants as sights
use Rattle.doc_server_follow.proofs.MarkLemmas.{all_behind, is_marked, its_front, marked_piece}
use Rattle.doc_server_follow.proofs.PieceLemmas.{all_of_it, closed_front, gate_in_front, gate_of_front, none_to_come}

pub if_ok : {X E : Type 0} (r : Result X E) (P Q : X → Type 0) → ((x : X) → P x → Q x) → IfOk r P → IfOk r Q
if_ok (Ok x) P Q on is = on x is
if_ok (Err e) P Q on is = tt

pub if_some : {X : Type 0} (o : Option X) (P Q : X → Type 0) → ((x : X) → P x → Q x) → IfSome o P → IfSome o Q
if_some (Some x) P Q on is = on x is
if_some None P Q on is = tt

-- ---- a piece

pub is_sight : (followed : Followed) (piece bytes : List ℕ) (sight : Sight) → piece ≡ mark_of followed ++ bytes
    → Stands followed bytes sight → IsSight followed piece sight
is_sight followed piece bytes sights.Back is stands = λ rest also has.
    stands (subst HasGate (parts (mark_of followed) (mark_of followed) rest bytes refl (sym also ∙ is)).1 has)
is_sight followed piece bytes sights.Rests is stands = (bytes, is, stands)
is_sight followed piece bytes sights.Short is stands = (bytes, is, stands)
is_sight followed piece bytes sights.Damaged is stands = (bytes, is, stands)
is_sight followed piece bytes (sights.More texts new) is stands = (bytes, is, stands)

-- a part behind the mark that has a gate and no record to come
broken_on : (n : ℕ) (bytes digest : List ℕ) → IsBroken digest (take n bytes) → IsBroken digest bytes
broken_on n bytes digest is =
    let none = none_to_come n bytes digest is.not_open is.never in
    record { gate = gate_of_front n bytes is.gate; not_open = none.0; never = none.1 }

-- ---- a file

module _ (file : List ℕ) (followed : Followed) (most at : ℕ) (some : 0 < most)
    (place : at + length (mark_of followed) ≡ followed.end) (marked : 0 < length (mark_of followed)) (piece : List ℕ)
    (read : piece ≡ take (length (mark_of followed) + most) (drop at file)) where
  sees : (sight : Sight) → IsSight followed piece sight → Sees file most followed sight
  sees sights.Back is = λ rest stands has.
      is (take most rest) (read ∙ marked_piece file followed most at rest place stands) (gate_in_front most rest some has)
  sees sights.Rests (rest, split, stands) =
      let all = all_behind file followed most at place marked rest (sym read ∙ split) in
      let front = its_front file followed most at place marked rest (sym read ∙ split) in
      (all, is_marked file followed most at place marked rest (sym read ∙ split), closed_front most all stands.0 (front ∙ stands.1))
  sees sights.Short (rest, split, stands) =
      let front = its_front file followed most at place marked rest (sym read ∙ split) in (
        all_behind file followed most at place marked rest (sym read ∙ split),
        is_marked file followed most at place marked rest (sym read ∙ split),
        subst (λ l. Stands followed l sights.Short) (sym front) stands,
      )
  sees sights.Damaged (rest, split, broken) =
      let all = all_behind file followed most at place marked rest (sym read ∙ split) in
      let front = its_front file followed most at place marked rest (sym read ∙ split) in (
        all,
        is_marked file followed most at place marked rest (sym read ∙ split),
        broken_on most all followed.digest (subst (λ l. IsBroken followed.digest l) (sym front) broken),
      )
  sees (sights.More texts new) (rest, split, stands) =
      let tail : List ℕ = drop (length (mark_of followed) + most) (drop at file) in (
        all_behind file followed most at place marked rest (sym read ∙ split),
        is_marked file followed most at place marked rest (sym read ∙ split),
        (
          stands.0,
          stands.1 ++ tail,
          stands.2,
          ap (λ l. l ++ tail) stands.3 ∙ append_assoc (chain followed.digest stands.0) stands.1 tail,
        ),
      )

pub seen_at : {E : Type 0} (known : Option (List ℕ)) (r : Result Sight E) (followed : Followed) (most len at : ℕ) (piece bytes : List ℕ) → 0 < most
    → len ≡ length (mark_of followed) → 0 < len → at + len ≡ followed.end → bytes ≡ piece
    → IfSome known (λ file. piece ≡ take (len + most) (drop at file)) → IfOk r (λ sight. IsSight followed bytes sight)
    → IfOk r (λ sight. IfSome known (λ file. Sees file most followed sight))
seen_at known r followed most len at piece bytes some len_is marked place same reads is =
    if_ok r (λ sight. IsSight followed bytes sight) (λ sight. IfSome known (λ file. Sees file most followed sight))
    (λ sight here. if_some known (λ file. piece ≡ take (len + most) (drop at file)) (λ file. Sees file most followed sight)
    (λ file read. sees file followed most at some (omega (arith, place, len_is)) (omega (arith, marked, len_is)) bytes
    (same ∙ read ∙ ap (λ n. take (n + most) (drop at file)) len_is) sight here) reads) is

-- ---- a look

pub short : (known : Option (List ℕ)) (followed : Followed) → IfSome known (λ file. Sees file longest followed sights.Short)
    → IfSome known (λ file. LooksAs file followed followed looks.Rests)
short None followed is = tt
short (Some file) followed (rest, stands, is) =
    let all = all_of_it longest rest is.0 (omega arith) is.1 is.3 in
    let whole : rest ≡ open_gate ∷ is.0 = sym all ∙ is.1 in (
      (
        rest,
        stands,
        record {
          gate = subst HasGate (sym whole) (inr refl);
          not_open = subst (λ l. HasNoOpenRecord followed.digest l) all is.2;
          not_yet = subst IsNotYet (sym whole) (inr (refl, is.3));
        },
      ),
      refl,
    )

pub more : (known : Option (List ℕ)) (old new : Followed) (texts : List (List ℕ))
    → IfSome known (λ file. Sees file longest old (sights.More texts new))
    → IfSome known (λ file. LooksAs file old new (looks.More texts))
more None old new texts is = tt
more (Some file) old new texts (rest, stands, is) = (is.0, is.1, is.2, subst (λ l. IsMarked file old l) is.3 stands)
