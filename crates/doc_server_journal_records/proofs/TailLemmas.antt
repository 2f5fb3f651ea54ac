-- No open gate stands in bytes in which a search finds none.
use Rattle.std.proofs.Common.{◌≡◌, ℕ, suc, Bool, true, false, not, ◌&&◌, List, [], ◌∷◌, length, refl, sym, ◌∙◌, ap, subst, T, arith}
use Rattle.std.proofs.lemmas.List.Folds.{list_all_at}
use Rattle.std.specs.List.{list_all}
use Rattle.std.specs.Prelude.{Option, Some, None, is_some}
use Rattle.memchr.specs.Find.{IsFirstByte, Nowhere, Passes, is_byte}
use Rattle.doc_server_journal_records.specs.Records.{is_shut}

not_true : (test : Bool) → (test ≡ true → ⊥) → not test ≡ true
not_true true wrong = absurd (wrong refl)
not_true false wrong = refl

none_shut : (bytes : List ℕ) → Nowhere (Passes (is_byte 255) bytes) 0 (length bytes) → list_all is_shut bytes ≡ true
none_shut [] nowhere = refl
none_shut (byte ∷ bytes) nowhere =
    ap (λ shut. shut && list_all is_shut bytes) (not_true (is_byte 255 byte) (nowhere 0 (omega arith) (omega arith)))
    ∙ none_shut bytes (λ place low high. nowhere (suc place) (omega arith) (omega arith))

-- whether a search for an open gate finds none
pub none_found : (bytes : List ℕ) (found : Option ℕ) (none : Bool) → is_some found ≡ not none → IsFirstByte (is_byte 255) bytes found
    → none ≡ list_all is_shut bytes
none_found bytes None true is nowhere = sym (none_shut bytes nowhere)
none_found bytes None false is nowhere = absurd (subst T (sym is) tt)
none_found bytes (Some place) true is first = absurd (subst T is tt)
none_found bytes (Some place) false is first = sym (list_all_at is_shut bytes place 0 first.0.high (ap not first.1))
