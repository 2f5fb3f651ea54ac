use Rattle.std.proofs.Common.{◌≡◌, ◌+◌, ◌<◌, ◌≤◌, false, length, get_or, ap, sym, ◌∙◌, subst, arith}
use Rattle.doc_inlines_emphasis.specs.declared.delimiter.Delimiter.TheVariants.{Star}
use Rattle.doc_inlines_emphasis.specs.declared.run.Run.{Run}
use Rattle.doc_inlines_emphasis.specs.RunSteps.{placed_shown, all_placed}
use Rattle.doc_rules.specs.Inlines as rules
use Rattle.doc_inlines_emphasis.specs.Marks.{Placed}
use Rattle.doc_inlines_emphasis.specs.NumberSteps.{numbered, paired_runs}
use Rattle.doc_inlines_emphasis.proofs.NumberLaws.{numbered_is, run_is}
use Rattle.doc_inlines_emphasis.proofs.PairLaws.{MayPair, may_pair, place_is, opens_at, opens_is, IsPairMade, pair_goes, pair_stacked}
use Rattle.doc_inlines_emphasis.proofs.PairLaws.{stands_on}
use Rattle.doc_inlines_emphasis.proofs.pair.pair.Goals as goal

abbrev blank : Run
blank = record { first = 0; left = 0; length = 0; delimiter = Star; opens = false; closes = false }

pub overflow_sub-opens : goal.overflow_sub-opens
overflow_sub-opens c =
    (may_pair c.args.marks.now.items c.args.runs.now c.args.openers.now.numbers.items c.args.openers.now.bounds c.args.number c.args.place
    c.index-opener.result.now c.strength-taken.result blank blank
    c.requires.stands c.requires.stacked c.requires.within c.requires.nearest.0 c.requires.left c.index-opener.ensures
    c.strength-taken.ensures).of_opener

pub overflow_add-opens : goal.overflow_add-opens
overflow_add-opens c =
    let p : MayPair (length c.args.marks.now.items) c.strength-taken.result (get_or c.args.runs.now c.index-opener.result.now blank)
    (get_or c.args.runs.now c.args.number blank) =
    may_pair c.args.marks.now.items c.args.runs.now c.args.openers.now.numbers.items c.args.openers.now.bounds c.args.number c.args.place
    c.index-opener.result.now c.strength-taken.result blank blank
    c.requires.stands c.requires.stacked c.requires.within c.requires.nearest.0 c.requires.left c.index-opener.ensures
    c.strength-taken.ensures in
    omega arith

pub write_ends-requires-clause-order : goal.write_ends-requires-clause-order
write_ends-requires-clause-order c =
    let p : MayPair (length c.args.marks.now.items) c.strength-taken.result (get_or c.args.runs.now c.index-opener.result.now blank)
    (get_or c.args.runs.now c.args.number blank) =
    may_pair c.args.marks.now.items c.args.runs.now c.args.openers.now.numbers.items c.args.openers.now.bounds c.args.number c.args.place
    c.index-opener.result.now c.strength-taken.result blank blank
    c.requires.stands c.requires.stacked c.requires.within c.requires.nearest.0 c.requires.left c.index-opener.ensures
    c.strength-taken.ensures in
    omega arith

pub write_ends-requires-clause-within : goal.write_ends-requires-clause-within
write_ends-requires-clause-within c =
    let p : MayPair (length c.args.marks.now.items) c.strength-taken.result (get_or c.args.runs.now c.index-opener.result.now blank)
    (get_or c.args.runs.now c.args.number blank) =
    may_pair c.args.marks.now.items c.args.runs.now c.args.openers.now.numbers.items c.args.openers.now.bounds c.args.number c.args.place
    c.index-opener.result.now c.strength-taken.result blank blank
    c.requires.stands c.requires.stacked c.requires.within c.requires.nearest.0 c.requires.left c.index-opener.ensures
    c.strength-taken.ensures in
    omega arith

pub take_delimiters-requires-clause-of_opener : goal.take_delimiters-requires-clause-of_opener
take_delimiters-requires-clause-of_opener c =
    let p : MayPair (length c.args.marks.now.items) c.strength-taken.result (get_or c.args.runs.now c.index-opener.result.now blank)
    (get_or c.args.runs.now c.args.number blank) =
    may_pair c.args.marks.now.items c.args.runs.now c.args.openers.now.numbers.items c.args.openers.now.bounds c.args.number c.args.place
    c.index-opener.result.now c.strength-taken.result blank blank
    c.requires.stands c.requires.stacked c.requires.within c.requires.nearest.0 c.requires.left c.index-opener.ensures
    c.strength-taken.ensures in
    let ahead : c.index-opener.result.now < c.args.number = opens_at c.args.runs.now c.args.openers.now.numbers.items
    c.args.openers.now.bounds c.args.number c.args.place c.index-opener.result.now c.requires.stacked c.requires.nearest.0
    c.index-opener.ensures in
    subst (λ (r : rules.Run). c.strength-taken.result ≤ r.left)
    (sym (run_is c.args.runs.now c.index-opener.result.now blank (omega arith))) p.of_opener

pub take_delimiters-requires-clause-fits : goal.take_delimiters-requires-clause-fits
take_delimiters-requires-clause-fits c =
    let p : MayPair (length c.args.marks.now.items) c.strength-taken.result (get_or c.args.runs.now c.index-opener.result.now blank)
    (get_or c.args.runs.now c.args.number blank) =
    may_pair c.args.marks.now.items c.args.runs.now c.args.openers.now.numbers.items c.args.openers.now.bounds c.args.number c.args.place
    c.index-opener.result.now c.strength-taken.result blank blank
    c.requires.stands c.requires.stacked c.requires.within c.requires.nearest.0 c.requires.left c.index-opener.ensures
    c.strength-taken.ensures in
    subst (λ (q : Placed). q.first + c.strength-taken.result < 18446744073709551616)
    (sym (numbered_is c.args.runs.now c.args.number blank c.requires.within)) (omega arith)

pub returns-clause-goes : goal.returns-clause-goes
returns-clause-goes c =
    let o : numbered (all_placed c.args.runs.now) (get_or c.args.openers.now.numbers.items c.args.place 0)
    ≡ placed_shown (get_or c.args.runs.now c.index-opener.result.now blank) =
    opens_is c.args.runs.now c.args.openers.now.numbers.items c.args.openers.now.bounds c.args.number c.args.place
    c.index-opener.result.now blank c.requires.stacked c.requires.within c.requires.nearest.0 c.index-opener.ensures in
    let m : IsPairMade c.args.marks.now.items c.write_ends.new.marks.items c.args.runs.now c.take_delimiters.new.runs
    c.args.openers.now.numbers.items
    c.keep.new.self.numbers.items c.args.openers.now.bounds
    c.args.number c.args.place c.strength-taken.result (get_or c.args.runs.now c.index-opener.result.now blank)
    (get_or c.args.runs.now c.args.number blank) =
    record {
      stands = c.requires.stands;
      stacked = c.requires.stacked;
      within = c.requires.within;
      some = c.requires.left;
      nearest = c.requires.nearest;
      opens = o;
      closes = numbered_is c.args.runs.now c.args.number blank c.requires.within;
      taken = c.strength-taken.ensures;
      marks_are = c.write_ends.ensures.shown;
      keeps = c.write_ends.ensures.keeps;
      runs_are = c.take_delimiters.ensures ∙ ap (λ k. paired_runs (all_placed c.args.runs.now) k c.args.number c.strength-taken.result)
          (place_is c.args.openers.now.numbers.items c.args.place c.index-opener.result.now c.index-opener.ensures c.requires.nearest.0);
      kept_are = c.keep.ensures.numbers;
    } in
    pair_goes c.args.marks.now.items c.write_ends.new.marks.items c.args.runs.now c.take_delimiters.new.runs
    c.args.openers.now.numbers.items
    c.keep.new.self.numbers.items c.args.openers.now.bounds c.args.number c.args.place c.strength-taken.result
    (get_or c.args.runs.now c.index-opener.result.now blank) (get_or c.args.runs.now c.args.number blank) m

pub returns-clause-stands : goal.returns-clause-stands
returns-clause-stands c =
    let o : numbered (all_placed c.args.runs.now) (get_or c.args.openers.now.numbers.items c.args.place 0)
    ≡ placed_shown (get_or c.args.runs.now c.index-opener.result.now blank) =
    opens_is c.args.runs.now c.args.openers.now.numbers.items c.args.openers.now.bounds c.args.number c.args.place
    c.index-opener.result.now blank c.requires.stacked c.requires.within c.requires.nearest.0 c.index-opener.ensures in
    let m : IsPairMade c.args.marks.now.items c.write_ends.new.marks.items c.args.runs.now c.take_delimiters.new.runs
    c.args.openers.now.numbers.items
    c.keep.new.self.numbers.items c.args.openers.now.bounds
    c.args.number c.args.place c.strength-taken.result (get_or c.args.runs.now c.index-opener.result.now blank)
    (get_or c.args.runs.now c.args.number blank) =
    record {
      stands = c.requires.stands;
      stacked = c.requires.stacked;
      within = c.requires.within;
      some = c.requires.left;
      nearest = c.requires.nearest;
      opens = o;
      closes = numbered_is c.args.runs.now c.args.number blank c.requires.within;
      taken = c.strength-taken.ensures;
      marks_are = c.write_ends.ensures.shown;
      keeps = c.write_ends.ensures.keeps;
      runs_are = c.take_delimiters.ensures ∙ ap (λ k. paired_runs (all_placed c.args.runs.now) k c.args.number c.strength-taken.result)
          (place_is c.args.openers.now.numbers.items c.args.place c.index-opener.result.now c.index-opener.ensures c.requires.nearest.0);
      kept_are = c.keep.ensures.numbers;
    } in
    stands_on c.args.marks.now.items c.write_ends.new.marks.items c.args.runs.now c.take_delimiters.new.runs
    c.args.openers.now.numbers.items
    c.keep.new.self.numbers.items c.args.number c.requires.stands
    (pair_goes c.args.marks.now.items c.write_ends.new.marks.items c.args.runs.now c.take_delimiters.new.runs
    c.args.openers.now.numbers.items
    c.keep.new.self.numbers.items c.args.openers.now.bounds c.args.number c.args.place c.strength-taken.result
    (get_or c.args.runs.now c.index-opener.result.now blank) (get_or c.args.runs.now c.args.number blank) m)

pub returns-clause-stacked : goal.returns-clause-stacked
returns-clause-stacked c =
    let o : numbered (all_placed c.args.runs.now) (get_or c.args.openers.now.numbers.items c.args.place 0)
    ≡ placed_shown (get_or c.args.runs.now c.index-opener.result.now blank) =
    opens_is c.args.runs.now c.args.openers.now.numbers.items c.args.openers.now.bounds c.args.number c.args.place
    c.index-opener.result.now blank c.requires.stacked c.requires.within c.requires.nearest.0 c.index-opener.ensures in
    let m : IsPairMade c.args.marks.now.items c.write_ends.new.marks.items c.args.runs.now c.take_delimiters.new.runs
    c.args.openers.now.numbers.items
    c.keep.new.self.numbers.items c.args.openers.now.bounds
    c.args.number c.args.place c.strength-taken.result (get_or c.args.runs.now c.index-opener.result.now blank)
    (get_or c.args.runs.now c.args.number blank) =
    record {
      stands = c.requires.stands;
      stacked = c.requires.stacked;
      within = c.requires.within;
      some = c.requires.left;
      nearest = c.requires.nearest;
      opens = o;
      closes = numbered_is c.args.runs.now c.args.number blank c.requires.within;
      taken = c.strength-taken.ensures;
      marks_are = c.write_ends.ensures.shown;
      keeps = c.write_ends.ensures.keeps;
      runs_are = c.take_delimiters.ensures ∙ ap (λ k. paired_runs (all_placed c.args.runs.now) k c.args.number c.strength-taken.result)
          (place_is c.args.openers.now.numbers.items c.args.place c.index-opener.result.now c.index-opener.ensures c.requires.nearest.0);
      kept_are = c.keep.ensures.numbers;
    } in
    rw c.keep.ensures.bounds (pair_stacked c.args.marks.now.items c.write_ends.new.marks.items c.args.runs.now c.take_delimiters.new.runs
    c.args.openers.now.numbers.items c.keep.new.self.numbers.items c.args.openers.now.bounds c.args.number c.args.place
    c.strength-taken.result (get_or c.args.runs.now c.index-opener.result.now blank) (get_or c.args.runs.now c.args.number blank) m)
