-- The mark, and where it stands in a file.
use Rattle.std.proofs.Common.{◌≡◌, ◌≢◌, ◌==◌, if◌then◌else◌, true≢false, ⊎_elim, false, Bor, Option, Some, None, MatchOption, IfSome, IsNone, ℕ, ◌+◌, ◌≤◌, ◌<◌, List, [], ◌∷◌, ◌++◌, length, take, drop, refl, sym, ap, ◌∙◌, arith, length-append, length-take, append_assoc}
use Rattle.std.proofs.lemmas.Bool.Decides.{eqb_tells}
use Rattle.std.proofs.lemmas.List.{drop-take, drop_at, length-drop, take-append-drop}
use Rattle.std.proofs.Math.Seq.{take-append-add}
use Rattle.hex.specs.Hex.{encode_lower, lower_digits}
use Rattle.hex.proofs.HexLemmas.{length-encode_with}
use Rattle.doc_server_journal_records.specs.Records.{foot_of}
use Rattle.doc_server_follow.specs.Follows.{IsMarked, mark_of}
use Rattle.doc_server_follow.specs.declared.followed.Followed.{Followed}

module _ (file : List ℕ) (followed : Followed) (most at : ℕ) where
  abbrev piece_of : List ℕ
  piece_of = take (length (mark_of followed) + most) (drop at file)

  -- a piece that begins with the mark is read where the mark stands
  module _ (place : at + length (mark_of followed) ≡ followed.end) (marked : 0 < length (mark_of followed)) (rest : List ℕ)
      (is : piece_of ≡ mark_of followed ++ rest) where
    abbrev tail : List ℕ
    tail = drop (length (mark_of followed) + most) (drop at file)

    abbrev pub all_behind : List ℕ
    all_behind = rest ++ tail

    from_there : drop at file ≡ mark_of followed ++ all_behind
    from_there = sym (take-append-drop (length (mark_of followed) + most) (drop at file))
        ∙ ap (λ l. l ++ tail) is ∙ append_assoc (mark_of followed) rest tail

    inside : at ≤ length file
    inside = omega (arith, marked, length-drop at file, ap (λ (l : List ℕ). length l) from_there, length-append (mark_of followed) all_behind)

    pub is_marked : IsMarked file followed all_behind
    is_marked = record {
      before = take at file;
      split = sym (take-append-drop at file) ∙ ap (λ l. take at file ++ l) from_there;
      end = omega (arith, place, inside, length-append (take at file) (mark_of followed), length-take at file);
    }

    pub its_front : take most all_behind ≡ rest
    its_front =
        ap (λ l. take most l) (sym (drop_at (mark_of followed) all_behind (length (mark_of followed)) refl)
        ∙ ap (λ l. drop (length (mark_of followed)) l) (sym from_there))
        ∙ sym (drop-take (length (mark_of followed)) most (drop at file))
        ∙ ap (λ l. drop (length (mark_of followed)) l) is
        ∙ drop_at (mark_of followed) rest (length (mark_of followed)) refl

  -- where it stands, a piece that is read there begins with it
  pub marked_piece : (rest : List ℕ) → at + length (mark_of followed) ≡ followed.end → IsMarked file followed rest
      → piece_of ≡ mark_of followed ++ take most rest
  marked_piece rest place marked =
      let here : length marked.before ≡ at =
      omega (arith, place, marked.end, length-append marked.before (mark_of followed)) in
      ap (λ l. take (length (mark_of followed) + most) l)
      (ap (λ l. drop at l) marked.split ∙ drop_at marked.before (mark_of followed ++ rest) at here)
      ∙ take-append-add (mark_of followed) rest most

-- ---- which mark it is

not_zero : (n : ℕ) → (n ≡ 0 → ⊥) → (n == 0) ≡ false
not_zero n some = ⊎_elim (λ yes. absurd (some yes.1)) (λ no. no.0) (eqb_tells n 0)

pub header_mark : (followed : Followed) → followed.records ≡ 0 → mark_of followed ≡ followed.header
header_mark followed none = ap (λ n. if n == 0 then followed.header else foot_of followed.digest) none

pub foot_mark : (followed : Followed) → (followed.records ≡ 0 → ⊥) → mark_of followed ≡ foot_of followed.digest
foot_mark followed some = ap (λ b. if b then followed.header else foot_of followed.digest) (not_zero followed.records some)

pub foot_length : (digest : List ℕ) → length digest ≡ 32 → length (foot_of digest) ≡ 65
foot_length digest size =
    omega (arith, size, length-append (encode_lower digest) (10 ∷ []), length-encode_with lower_digits digest)

-- bytes that begin with a mark, and bytes that don't
module _ (bytes front mark : List ℕ) (is : front ≡ mark) where
  pub begins : (r : Option (Bor (List ℕ))) → MatchOption r ((rest : List ℕ) → bytes ≢ front ++ rest) (λ x. bytes ≡ front ++ x.now)
      → IfSome r (λ x. bytes ≡ mark ++ x.now)
  begins None cases = tt
  begins (Some x) cases = cases ∙ ap (λ l. l ++ x.now) is

  pub begins_not : (r : Option (Bor (List ℕ))) → MatchOption r ((rest : List ℕ) → bytes ≢ front ++ rest) (λ x. bytes ≡ front ++ x.now)
      → IsNone r → (rest : List ℕ) → bytes ≡ mark ++ rest → ⊥
  begins_not None cases none rest same = cases rest (same ∙ ap (λ l. l ++ rest) (sym is))
  begins_not (Some x) cases none rest same = absurd (true≢false none)
