use Rattle.std.specs.Io.KnownBytes.{Keeps}
use Rattle.doc_server_streams.proofs.read_from.read_whenever.Given as goal

abbrev pub invariant-tries : goal.invariant-tries
invariant-tries g l = Keeps (g.R.Read.remaining l.fn.reader) (g.R.Read.remaining l.reader)
