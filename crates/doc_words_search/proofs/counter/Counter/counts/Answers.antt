use Rattle.std.proofs.Common.{◌≡◌, ◌++◌, ap, string_bytes, subst, sym, ◌∙◌}
use Rattle.std.specs.Prelude.{map as mapped}
use Rattle.std.specs.Cmp.Lexicographic.{slice_cmp}
use Rattle.std.specs.FinMap as map
use Rattle.std.specs.List.Sorted.{IsStrictlySortedBy}
use Rattle.std.specs.Map.{keys_of}
use Rattle.std.specs.Ordering.{nat_cmp}
use Rattle.std.proofs.lemmas.Result.{IfOk-weaker}
use Rattle.doc_index_tables.specs.Maps.{shown}
use Rattle.doc_page_parts.proofs.Maps.{is_sorted_keys}
use Rattle.doc_words_search.specs.Words.{counts_of}
use Rattle.doc_words_search.proofs.CountSteps.{same_counts}
use Rattle.doc_words_search.proofs.TallySteps.{entries_again}
use Rattle.doc_words_search.proofs.counter.Counter.counts.Goals as goal

pub of_entries-requires : goal.of_entries-requires
of_entries-requires c =
    let entries : shown c.deref-3.result.now ≡ map.entries (counts_of c.in_ok-keys.keys.items) =
    ap shown c.deref-3.ensures.value ∙ c.in_ok-entries.ensures ∙ ap (λ ks. map.entries (counts_of ks)) c.deref-2.ensures.value in
    record {
      rising = subst (λ es. IsStrictlySortedBy (slice_cmp nat_cmp) (keys_of es)) (sym entries)
          (is_sorted_keys (slice_cmp nat_cmp) (map.entries (counts_of c.in_ok-keys.keys.items))
          (map.entries_sorted (counts_of c.in_ok-keys.keys.items)));
    }

pub returns : goal.returns
returns c =
    let entries : shown c.deref-3.result.now ≡ map.entries (counts_of c.in_ok-keys.keys.items) =
    ap shown c.deref-3.ensures.value ∙ c.in_ok-entries.ensures ∙ ap (λ ks. map.entries (counts_of ks)) c.deref-2.ensures.value in
    IfOk-weaker c.of_entries.result _ _ (λ counts is.
    is ∙ ap map.from_entries entries ∙ entries_again (counts_of c.in_ok-keys.keys.items)
    ∙ sym (same_counts _ c.in_ok-keys.keys.items c.in_ok-keys.ensures.all)
    ∙ ap (λ os. counts_of (c.self.inside.plain.items ++ mapped string_bytes os)) c.deref.ensures.value
    ∙ c.self.view_is) c.of_entries.ensures
