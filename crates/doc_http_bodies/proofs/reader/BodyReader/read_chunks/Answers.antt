use Rattle.std.proofs.Common.{◌∙◌, refl, sym, subst, length, nat_le}
use Rattle.doc_http_bodies.specs.declared.framing.Framing.TheVariants.{Chunked}
use Rattle.doc_http_bodies.specs.KnowledgeSteps.{Knows, KnowsOf}
use Rattle.doc_http_bodies.specs.Readings.{encoded_limit, reading_of, IsWhole}
use Rattle.doc_http_bodies.proofs.ReaderLemmas.{chunked_is, on_err}
use Rattle.doc_http_bodies.proofs.reader.BodyReader.read_chunks.Goals as goal

pub advance-stage-requires : goal.advance-stage-requires
unfolding KnowsOf encoded_limit
advance-stage-requires c = subst (λ z. Knows c.args.self.now.stage z) (sym c.front-window.ensures) c.requires

pub returns-in_err-reading-clause-memory : goal.returns-in_err-reading-clause-memory
unfolding encoded_limit
returns-in_err-reading-clause-memory c =
    let is = chunked_is c.args.bytes.now c.front-window.result.now (nat_le encoded_limit (length c.args.bytes.now))
    c.advance-stage.result.1 c.front-window.ensures refl c.advance-stage.ensures.1 in
    on_err c.from_residual.result (IsWhole (reading_of Chunked c.args.bytes.now)) (subst IsWhole is c.in_err-reading.ensures.memory)

pub returns-clause-found : goal.returns-clause-found
unfolding encoded_limit
returns-clause-found c =
    c.in_ok-reading.ensures.found ∙ chunked_is c.args.bytes.now c.front-window.result.now (nat_le encoded_limit (length c.args.bytes.now))
    c.advance-stage.result.1 c.front-window.ensures refl c.advance-stage.ensures.1

pub returns-clause-knows : goal.returns-clause-knows
unfolding KnowsOf encoded_limit
returns-clause-knows c = subst (λ z. Knows c.advance-stage.result.0 z) c.front-window.ensures c.advance-stage.ensures.0
