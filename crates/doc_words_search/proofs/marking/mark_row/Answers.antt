use Rattle.std.proofs.Common.{length, refl, subst, sym, ◌∙◌}
use Rattle.doc_words_search.proofs.MarkSteps.{MarkedBut, none_left_out}
use Rattle.doc_words_search.proofs.marking.mark_row.Goals as goal

pub loop-slot-init : goal.loop-slot-init
loop-slot-init c =
    let marks = c.args.marks.now.items in
    record {
      listed = c.requires;
      stay = λ i is. is;
      same = refl;
      but = subst (λ left. MarkedBut left marks (length marks) c.args.row.now)
          (sym (c.into_iter-slot-iterator.ensures.into_iter_gives ∙ c.iter-slot-items.ensures))
          (none_left_out c.args.row.now marks (length marks));
    }
