-- Laws of journals.
use Rattle.std.proofs.Common.{◌≡◌, ℕ, List, [], ◌∷◌, ◌++◌, length, refl, sym, ap, subst, ◌∙◌, arith, append_assoc}
use Rattle.doc_server_journal_records.specs.Records.{Entry, header, seed, chain, closed_gate, texts_of, last_digest}
use Rattle.doc_server_journal_records.specs.Readings.{HasNoOpenRecord, AreRecords, ReadsAs}
use Rattle.sha2.specs.Sha256.{sha256}
use Rattle.doc_server_journal_records.specs.Laws.{WrittenIsRead, ReadsOneWay, ReadIsNotDamaged, IsDamagedOnce}
use Rattle.doc_server_journal_records.proofs.ChainLemmas.{SameChain, chain_unique, end_not_open}
use Rattle.doc_server_journal_records.proofs.HeaderLemmas.{length_header}
use Rattle.doc_server_journal_records.proofs.RecordLemmas.{parts}

pub written_is_read : WrittenIsRead
written_is_read identity entries tail identity_is all tail_is = record {
  identity = identity;
  entries = entries;
  tail = tail;
  records = record { is_identity = identity_is; are_entries = all; split = refl };
  is_tail = tail_is;
  texts_are = refl;
}

seed_same : (i j : List ℕ) → header i ≡ header j → seed i ≡ seed j
unfolding seed
seed_same i j same = ap sha256 same

-- bytes have one header, and one chain of records
pub one_reading : (bytes i j : List ℕ) (es fs : List Entry) (x y : List ℕ) → AreRecords bytes i es x → AreRecords bytes j fs y
    → HasNoOpenRecord (last_digest (seed i) es) x → HasNoOpenRecord (last_digest (seed j) fs) y → SameChain (seed i) es fs x y
one_reading bytes i j es fs x y one two no_x no_y =
    let same = sym (append_assoc (header i) (chain (seed i) es) x) ∙ sym one.split ∙ two.split
    ∙ append_assoc (header j) (chain (seed j) fs) y in
    let heads = parts (header i) (header j) _ _ (length_header i one.is_identity ∙ sym (length_header j two.is_identity)) same in
    let seeds : seed j ≡ seed i = sym (seed_same i j heads.0) in
    chain_unique (seed i) es fs x y one.are_entries two.are_entries (heads.1 ∙ ap (λ s. chain s fs ++ y) seeds) no_x
    (subst (λ s. HasNoOpenRecord (last_digest s fs) y) seeds no_y)

its_end : (bytes : List ℕ) (texts : List (List ℕ)) (reads : ReadsAs bytes texts)
    → HasNoOpenRecord (last_digest (seed reads.identity) reads.entries) (closed_gate ∷ reads.tail)
its_end bytes texts reads = end_not_open _ (closed_gate ∷ reads.tail) (reads.tail, refl, reads.is_tail)

pub reads_one_way : ReadsOneWay
reads_one_way bytes texts others x y =
    x.texts_are
    ∙ (one_reading bytes x.identity y.identity x.entries y.entries _ _ x.records y.records (its_end bytes texts x)
    (its_end bytes others y)).texts
    ∙ sym y.texts_are

pub read_is_not_damaged : ReadIsNotDamaged
read_is_not_damaged bytes texts reads = (
  λ n damage.
      let both = one_reading bytes reads.identity damage.identity reads.entries damage.entries _ _ reads.records damage.records
      (its_end bytes texts reads) damage.not_open in
      damage.no_end (reads.tail, sym both.rest, reads.is_tail),
  λ none. none reads.identity (chain (seed reads.identity) reads.entries ++ closed_gate ∷ reads.tail) reads.records.is_identity
      (reads.records.split ∙ append_assoc (header reads.identity) (chain (seed reads.identity) reads.entries) (closed_gate ∷ reads.tail)),
)

count_same : (es fs : List Entry) → texts_of es ≡ texts_of fs → length es ≡ length fs
count_same es fs same = sym (counted es) ∙ ap length same ∙ counted fs
  where
    counted : (entries : List Entry) → length (texts_of entries) ≡ length entries
    counted [] = refl
    counted (e ∷ entries) = omega (arith, counted entries)

pub is_damaged_once : IsDamagedOnce
is_damaged_once bytes m n x y =
    let both = one_reading bytes x.identity y.identity x.entries y.entries _ _ x.records y.records x.not_open y.not_open in
    omega (arith, x.number, y.number, count_same x.entries y.entries both.texts)
