use Rattle.std.proofs.Common.{◌∙◌, arith, rules}
use Rattle.doc_server_rounds.proofs.Counts.{as_many, as_many_counts}
use Rattle.doc_server_rounds.proofs.round.serve_round.Goals as goal

pub list_faults-requires : goal.list_faults-requires
list_faults-requires g c =
    let served = c.make_passes-passes.ensures.serves.ids in
    record {
      empty = search rules;
      room = omega (arith, as_many c.args.links.now c.make_passes-passes.new.links served, c.in_ok-faults.ensures.capacity);
      counts = as_many_counts c.args.links.now c.make_passes-passes.new.links c.deref.result.now
          (c.deref.ensures.value ∙ c.count_failures.ensures) served;
    }
