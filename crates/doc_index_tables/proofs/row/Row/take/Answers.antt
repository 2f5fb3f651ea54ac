use Rattle.std.proofs.Common.{subst, sym}
use Rattle.doc_index_tables.specs.Rows.{IsKept}
use Rattle.doc_index_tables.proofs.CutSteps.{smaller}
use Rattle.doc_index_tables.proofs.row.Row.take.Goals as goal
use Rattle.doc_index_tables.proofs.row.Row.take.Goals.{in-Single, in-One, in-Many}

pub invariant_of-self : goal.invariant_of-self
invariant_of-self c = elim c.match-self.branch [
  | in-Single w ↦ subst (λ s. IsKept s.kept) (sym w.self-inside-is) tt
  | in-One w ↦ subst (λ s. IsKept s.kept) (sym w.self-inside-is)
      (smaller c.args.number w.in-One.block w.take-in-One.new.self w.take-in-One.ensures (subst IsKept w.in-One.is c.self.invariant))
  | in-Many w ↦ subst (λ s. IsKept s.kept) (sym w.self-inside-is) tt
]
