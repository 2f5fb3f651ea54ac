-- At which time lines were written, and whether a journal has grown.
use Rattle.std.proofs.Common.{◌≡◌, ◌==◌, ℕ, List, [], ◌∷◌, length, Bool, true, false, refl, sym, subst, ◌∙◌, ap}
use Rattle.std.specs.Prelude.{IfSome, Option, Some, None, nat_le}
use Rattle.doc_server_journal.specs.declared.journal.Journal.{Journal}
use Rattle.doc_server_journal_records.specs.Records.{digest_behind, time_of}
use Rattle.doc_server_settling.specs.Reserves.{grown_room}
use Rattle.doc_server_network.proofs.Settling.{none_there}
use Rattle.doc_server_network.specs.Saved.{WereWritten, digest_after, has_grown}

known_as : (known : Option (List ℕ)) → (lines : List ℕ) × IfSome known (λ l. l ≡ lines)
known_as None = ([], tt)
known_as (Some lines) = (lines, refl)

module _ {D : Type 0} (seconds : ℕ) (waiting : Option (List ℕ)) where
  -- the lines that wait, where they are known, are written
  abbrev pub AreWritten : Option (Journal D) → Option (Journal D) → Type 0
  AreWritten old new = (lines : List ℕ) × IfSome waiting (λ known. known ≡ lines) × WereWritten seconds lines old new

  pub nowhere : (o : Option (Journal D)) → o ≡ None → AreWritten o o
  nowhere o none =
      let known = known_as waiting in
      subst (λ p. AreWritten p p) (sym none) (known.0, known.1, tt)

  module _ (o : Option (Journal D)) (journal : Journal D) (lines : List ℕ) (there : o ≡ Some journal) (told : waiting ≡ Some lines) where
    known : IfSome waiting (λ l. l ≡ lines)
    known = subst (λ x. IfSome x (λ l. l ≡ lines)) (sym told) refl

    pub none_written : (length lines == 0) ≡ true → AreWritten o (Some journal)
    none_written none =
        subst (λ p. AreWritten p (Some journal)) (sym there)
        (lines, known, ap (λ l. digest_after seconds l journal.digest) (sym (none_there lines none)))

    pub all_written : (text : List ℕ) (after : Journal D) → (length lines == 0) ≡ false → text ≡ lines
        → after.digest ≡ digest_behind journal.digest (record { time = time_of seconds; text = text }) → AreWritten o (Some after)
    all_written text after some same digest =
        subst (λ p. AreWritten p (Some after)) (sym there) (
          lines,
          known,
          subst (λ l. after.digest ≡ digest_behind journal.digest (record { time = time_of seconds; text = l })) same digest
              ∙ behind lines some,
        )
      where
        not_both : true ≡ false → ⊥
        not_both e = cc

        behind : (l : List ℕ) → (length l == 0) ≡ false
            → digest_behind journal.digest (record { time = time_of seconds; text = l }) ≡ digest_after seconds l journal.digest
        behind [] empty = absurd (not_both empty)
        behind (b ∷ l) empty = refl

pub grown_nowhere : {D : Type 0} (growth : ℕ) (o : Option (Journal D)) → o ≡ None → true ≡ has_grown growth o o
grown_nowhere growth o none = subst (λ p. true ≡ has_grown growth p p) (sym none) refl

pub grown_there : {D : Type 0} (growth : ℕ) (o : Option (Journal D)) (journal after : Journal D) (grown : Bool) → o ≡ Some journal
    → grown ≡ nat_le (grown_room journal.room growth) after.room → grown ≡ has_grown growth o (Some after)
grown_there growth o journal after grown there is = subst (λ p. grown ≡ has_grown growth p (Some after)) (sym there) is
