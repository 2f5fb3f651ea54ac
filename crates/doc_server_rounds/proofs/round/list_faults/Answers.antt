use Rattle.std.proofs.Common.{◌∙◌, arith, rules}
use Rattle.doc_server_rounds.proofs.Counts.{all_looked_at, risen, not_risen}
use Rattle.doc_server_rounds.proofs.round.list_faults.Goals as goal
use Rattle.doc_server_rounds.proofs.round.list_faults.Goals.{then-before-place, else-before-place}

pub places-preserved : goal.places-preserved
places-preserved g c = elim c.if-before-place.branch [
  | then-before-place w ↦
      let pushed = rw w.unwrap.ensures at w.push.ensures in
      rw w.faults-is (record {
        listed = risen c.args.links.now c.places.place c.index-links-place.result c.places-test.true c.index-links-place.is
            c.args.before.now c.requires.counts c.places.faults.items w.push.new.self.items _ c.failures.result
            (c.failures.ensures ∙ c.stream.ensures.failed) w.if-before-place.true pushed.items c.places.invariant.listed;
        few = omega (arith, pushed.len, c.places.invariant.few);
        room = search rules;
      })
  | else-before-place w ↦ rw w.faults-is (record {
    listed = not_risen c.args.links.now c.places.place c.index-links-place.result c.places-test.true c.index-links-place.is
        c.args.before.now c.requires.counts c.places.faults.items _ c.failures.result
        (c.failures.ensures ∙ c.stream.ensures.failed) w.if-before-place.false c.places.invariant.listed;
    few = omega (arith, c.places.invariant.few);
    room = c.places.invariant.room;
  })
]

pub returns : goal.returns
returns g c = all_looked_at c.args.before.now c.args.links.now c.places.place c.places.faults.items _ c.requires.counts c.places-test.false
    c.places.invariant.listed
