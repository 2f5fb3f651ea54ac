use Rattle.std.proofs.Common.{arith, ap, false, length, subst, sum_by, sym, ◌∙◌}
use Rattle.std.specs.Prelude.{option_copied}
use Rattle.std.proofs.lemmas.List.{length-replicate, take_all}
use Rattle.doc_index_tables.specs.TableSteps.{number_in}
use Rattle.doc_words_search.specs.SearchSteps.{MarksWords, sum_marked}
use Rattle.doc_words_search.proofs.MarkSteps.{agree_each, at_first, marks_word, words_next}
use Rattle.doc_words_search.proofs.marking.slots_with.Goals as goal

pub loop-word-init : goal.loop-word-init
loop-word-init c = record {
  listed = λ f.
      ap (λ ns. sum_by f ns) c.in_ok-slots.ensures.items ∙ at_first c.in-Some.count f
      ∙ ap (λ marks. sum_marked marks f) (sym (c.in_ok-marks.ensures.items_if_clones_equal (λ y h. h)));
  same = ap length (c.in_ok-marks.ensures.items_if_clones_equal (λ y h. h)) ∙ length-replicate c.in-Some.count false;
  words = tt;
}

pub loop-word-preserved : goal.loop-word-preserved
loop-word-preserved c = record {
  listed = c.in_ok-mark_word.ensures.listed;
  same = c.in_ok-mark_word.ensures.same ∙ c.loop-word.invariant.same;
  words = words_next c.args.pages.now c.loop-word.marks.items c.mark_word.new.marks.items c.args.words.now c.loop-word.word-index
      c.word-item.result c.loop-word-test.true c.word-item.is c.in_ok-mark_word.ensures.stay c.loop-word.invariant.words
      (marks_word c.args.pages.now c.mark_word.new.marks.items c.word-item.result c.text.result.now
      (number_in (option_copied c.of_key.result)) c.last_slot.result (length c.loop-word.marks.items) c.text.ensures
      (c.loop-word.invariant.same ∙ c.in-Some.ensures.1) c.last_slot.ensures c.of_key.ensures c.in_ok-mark_word.ensures.all);
}

pub returns : goal.returns
returns c =
    agree_each c.args.pages.now c.loop-word.marks.items c.loop-word.slots.items c.len.ensures.apart c.loop-word.invariant.listed
    c.args.words.now
    (subst (MarksWords c.args.pages.now c.loop-word.marks.items)
    (take_all c.loop-word.word-index c.args.words.now (omega (arith, c.loop-word-test.false))) c.loop-word.invariant.words)
