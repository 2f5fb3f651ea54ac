-- A journal whose records are taken, and more of them behind these.
use Rattle.std.proofs.Common.{ℕ, List, [], ◌++◌, refl, ap, sym, ◌∙◌}
use Rattle.std.proofs.lemmas.List.{map-append}
use Rattle.doc_server_journal_records.specs.Records.{Entry, journal_bytes, texts_of}
use Rattle.doc_server_follow.specs.Follows.{AreTaken}
use Rattle.doc_server_follow.specs.declared.followed.Followed.{Followed}
use Rattle.doc_server_follow.proofs.LawLemmas.{at_both}
use Rattle.docs_server.specs.Followed.{AreAllTaken}

-- all are taken then
pub taken_behind : (old new : Followed) (texts more : List (List ℕ)) (entries : List Entry) → AreAllTaken old texts
    → AreTaken old new entries more → AreAllTaken new (texts ++ more)
taken_behind old new texts more entries all taken =
    let begun = all.begun in
    let at = at_both begun.identity begun.entries entries old new more begun.is_at taken in record {
      bytes = journal_bytes begun.identity (begun.entries ++ entries) [];
      begun = record {
        identity = begun.identity;
        entries = begun.entries ++ entries;
        tail = [];
        records = record { is_identity = at.is_identity; are_entries = at.are_entries; split = refl };
        is_tail = refl;
        texts = ap (λ t. t ++ more) begun.texts ∙ ap (λ t. texts_of begun.entries ++ t) taken.texts_are
            ∙ sym (map-append (λ (entry : Entry). entry.text) begun.entries entries);
        is_at = at;
      };
    }
