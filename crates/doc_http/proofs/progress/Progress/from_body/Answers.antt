use Rattle.std.proofs.Common.{Ok, refl, sym, ap, ◌∙◌, arith}
use Rattle.doc_http_bodies.specs.KnowledgeSteps.{framing_of as framing_for}
use Rattle.doc_http_bodies.proofs.ReaderLemmas.{on_err}
use Rattle.doc_http.specs.Requests.{BeginsWithRequest}
use Rattle.doc_http.specs.declared.request.Next.TheVariants as next
use Rattle.doc_http.proofs.ProgressLemmas.{whole_begins, reading_found, knows_body, at_rest, whole_rest, knows_rest}
use Rattle.doc_http.proofs.SpanLemmas.{places}
use Rattle.doc_http.proofs.progress.Progress.from_body.Goals as goal

pub slice_bounds-read-count : goal.slice_bounds-read-count
slice_bounds-read-count c = omega (arith, places c.args.bytes.now c.args.start c.args.end (sym c.requires.at.1))

pub slice_bounds-read-start : goal.slice_bounds-read-start
slice_bounds-read-start c = omega (arith, places c.args.bytes.now c.args.start c.args.end (sym c.requires.at.1))

pub returns-in_err-reading-clause-memory : goal.returns-in_err-reading-clause-memory
returns-in_err-reading-clause-memory c =
    let at = c.requires.at in
    on_err c.from_residual.result (BeginsWithRequest c.args.bytes.now)
    (whole_begins c.args.bytes.now c.args.start c.args.end at.1 at.0 at.2 at.3 (framing_for c.args.reader) at.4
    (whole_rest c.args.bytes.now c.args.end _ (framing_for c.args.reader) refl c.in_err-reading.ensures.memory))

pub finish-requires : goal.finish-requires
finish-requires c =
    let at = c.requires.at in (
      at.0,
      at.1,
      at.2,
      at.3,
      (
        framing_for c.args.reader,
        at.4,
        at_rest c.args.bytes.now c.args.end _ (framing_for c.args.reader) _ refl
            c.in_ok-reading.ensures.found,
      ),
    )

pub returns-in-More-clause-found : goal.returns-in-More-clause-found
returns-in-More-clause-found c =
    let at = c.requires.at in
    let is = at_rest c.args.bytes.now c.args.end _ (framing_for c.args.reader) _ refl c.in_ok-reading.ensures.found in
    reading_found c.args.bytes.now c.args.start c.args.end at.1 at.0 at.2 at.3 (framing_for c.args.reader) at.4 _ (sym c.in-More.is
    ∙ is) next.More refl

pub returns-in-More-clause-knows : goal.returns-in-More-clause-knows
returns-in-More-clause-knows c =
    let at = c.requires.at in
    knows_body c.args.start c.args.end c.read.new.self c.args.bytes.now (
      at.0,
      at.1,
      at.2,
      at.3,
      at.4 ∙ ap Ok (sym c.read.ensures.framing),
      knows_rest c.args.bytes.now c.args.end c.read.new.self
          c.read.ensures.knows,
    )

pub returns-in_default : goal.returns-in_default
returns-in_default c =
    let at = c.requires.at in
    record {
      found = c.finish.ensures.found;
      memory = c.finish.ensures.memory;
      knows = knows_body c.args.start c.args.end c.read.new.self c.args.bytes.now (
        at.0,
        at.1,
        at.2,
        at.3,
        at.4 ∙ ap Ok (sym c.read.ensures.framing),
        knows_rest c.args.bytes.now c.args.end c.read.new.self
            c.read.ensures.knows,
      );
    }
