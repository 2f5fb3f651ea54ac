-- Serving a link, run after run.
use Rattle.std.proofs.Common.{◌≡◌, ◌+◌, ℕ, List, [], ◌++◌, Bool, true, false, T, length, take, drop, refl, sym, ap, ◌∙◌, subst}
use Rattle.std.proofs.Common.{inl, inr, append-nil, append_assoc, take-append-drop}
use Rattle.std.specs.Prelude.{Option, Some, None}
use Rattle.std.specs.Io.KnownBytes.{Appends}
use Rattle.std.proofs.KnownBytes.{Appends-nil, Appends-trans, Consumes-nil, Consumes-trans}
use Rattle.std.proofs.Math.Seq.{take-append-add, take-append_seam}
use Rattle.std.proofs.lemmas.List.Elements.{All-append}
use Rattle.doc_hub.specs.Replies.{Renders}
use Rattle.doc_hub.specs.Runs.{Happened, Runs, sent_on}
use Rattle.doc_hub.specs.StepLaws.{connection}
use Rattle.doc_hub.specs.Worlds.{World}
use Rattle.doc_server_streams.specs.Streams.{AppendsPrefix}
use Rattle.doc_server_rounds.specs.Peers.{Peer}
use Rattle.doc_server_rounds.specs.Served.{IsLast, IsMore, IsShut, IsShutAs, TakesIn, GivesOut, Closes}
use Rattle.doc_server_rounds.specs.Served.{Served, Serves}
use Rattle.doc_hub.specs.RunParts.{served_by, AreOf, pushed_on}
use Rattle.doc_hub.proofs.Elsewhere.{AreElsewhere, kept_elsewhere}
use Rattle.doc_hub.proofs.RunParts.{gave_before, gave_after, pushed_of, sent_of, pushed_join, sent_join, none_on, runs_join}

-- ---- bytes

cut_after : (a b c : Option (List ℕ)) (xs ys : List ℕ) → Appends a b xs → AppendsPrefix b c ys → AppendsPrefix a c (xs ++ ys)
cut_after a b c xs ys p (n, q) =
    (length xs + n, subst (Appends a c) (sym (take-append-add xs ys n)) (Appends-trans a b c xs (take n ys) p q))

cut_before : (a b : Option (List ℕ)) (xs ys : List ℕ) → AppendsPrefix a b xs → AppendsPrefix a b (xs ++ ys)
cut_before a b xs ys (n, q) =
    let whole : xs ++ ys ≡ take n xs ++ (drop n xs ++ ys) =
    ap (λ l. l ++ ys) (sym (take-append-drop n xs)) ∙ append_assoc (take n xs) (drop n xs) ys in (
      length (take n xs),
      subst (Appends a b) (sym (ap (take (length (take n xs))) whole ∙ take-append_seam (take n xs) (drop n xs ++ ys))) q,
    )

-- ---- why a link is closed

-- why a link was closed, where more happens behind it
pub why_before : (c : ℕ) (w : World) (q : Peer) (xs ys : List Happened) → Closes c w xs q → Closes c w (xs ++ ys) q
why_before c w q xs ys (inl last) = inl (gave_before IsLast c xs ys last)
why_before c w q xs ys (inr (inl fault)) = inr (inl fault)
why_before c w q xs ys (inr (inr (inl (dry, more)))) = inr (inr (inl (dry, gave_before IsMore c xs ys more)))
why_before c w q xs ys (inr (inr (inr shut))) = inr (inr (inr shut))

-- ---- runs that serve a link

not_both : (t : Bool) → t ≡ true → t ≡ false → ⊥
not_both t on off = subst T (sym on ∙ off) tt

-- a run elsewhere
pub idle : (render : Renders) (c : ℕ) (w v : World) (p : Peer) (run : List Happened) → Runs render w run v → AreElsewhere c run
    → Served c w p run v p
idle render c w v p run runs off =
    let kept = kept_elsewhere render c w v run runs off in
    let none = none_on c run off in
    record {
      id = refl;
      stalls = refl;
      closed = λ shut. (refl, kept);
      input = ([], Consumes-nil p.unread, append-nil p.pending ∙ ap (λ l. pushed_of l ++ p.pending) (sym none));
      output = inl (subst (Appends p.written p.written) (ap sent_of (sym none)) (Appends-nil p.written));
      stays = λ opened shut. subst IsShutAs kept shut;
      ends = λ opened shut. absurd (not_both p.is_open opened shut);
    }

-- a run after which the link is opened
pub goes_on : (c : ℕ) (w v : World) (p q : Peer) (run : List Happened) → p.is_open ≡ true → q.is_open ≡ true → q.id ≡ p.id
    → q.stalls ≡ p.stalls → TakesIn p q (pushed_on c run) → Appends p.written q.written (sent_on c run) → (IsShut v c → IsShut w c)
    → Served c w p run v q
goes_on c w v p q run opened stays id stalls takes gives shut = record {
  id = id;
  stalls = stalls;
  closed = λ no. absurd (not_both p.is_open opened no);
  input = takes;
  output = inl gives;
  stays = λ on. shut;
  ends = λ on off. absurd (not_both q.is_open stays off);
}

-- a run after which the link is closed
pub comes_to_end : (c : ℕ) (w v : World) (p q : Peer) (run : List Happened) → p.is_open ≡ true → q.is_open ≡ false → q.id ≡ p.id
    → q.stalls ≡ p.stalls → TakesIn p q (pushed_on c run) → GivesOut p q (sent_on c run) → Closes c w run q → connection c v ≡ None
    → Served c w p run v q
comes_to_end c w v p q run opened ended id stalls takes gives why none = record {
  id = id;
  stalls = stalls;
  closed = λ no. absurd (not_both p.is_open opened no);
  input = takes;
  output = gives;
  stays = λ on. absurd (not_both q.is_open on ended);
  ends = λ on off. (why, none);
}

-- ---- two runs

module _ (c : ℕ) (w v u : World) (p q s : Peer) (xs ys : List Happened) (a : Served c w p xs v q) (b : Served c v q ys u s) where
  input_join : TakesIn p s (pushed_on c (xs ++ ys))
  input_join =
      let (g, e, one) = a.input in
      let (k, f, two) = b.input in (
        g ++ k,
        Consumes-trans p.unread q.unread s.unread g k e f,
        sym (append_assoc p.pending g k)
            ∙ ap (λ l. l ++ k) one
            ∙ append_assoc (pushed_on c xs) q.pending k
            ∙ ap (λ l. pushed_on c xs ++ l) two
            ∙ sym (append_assoc (pushed_on c xs) (pushed_on c ys) s.pending)
            ∙ ap (λ l. l ++ s.pending) (sym (pushed_join c xs ys)),
      )

  output_by : GivesOut p q (sent_on c xs) → GivesOut q s (sent_on c ys) → GivesOut p s (sent_on c xs ++ sent_on c ys)
  output_by (inl one) (inl two) = inl (Appends-trans p.written q.written s.written (sent_on c xs) (sent_on c ys) one two)
  output_by (inl one) (inr (shut, why, two)) =
      inr (shut, why, cut_after p.written q.written s.written (sent_on c xs) (sent_on c ys) one two)
  output_by (inr (shut, why, one)) two =
      subst (λ l. GivesOut p l (sent_on c xs ++ sent_on c ys)) (sym (b.closed shut).0)
      (inr (shut, why, cut_before p.written q.written (sent_on c xs) (sent_on c ys) one))

  later : Closes c v ys s → q.is_open ≡ true → Closes c w (xs ++ ys) s
  later (inl last) opened = inl (gave_after IsLast c xs ys last)
  later (inr (inl fault)) opened = inr (inl fault)
  later (inr (inr (inl (dry, more)))) opened = inr (inr (inl (dry, gave_after IsMore c xs ys more)))
  later (inr (inr (inr shut))) opened = inr (inr (inr (a.stays opened shut)))

  ends_by : (t : Bool) → q.is_open ≡ t → p.is_open ≡ true → s.is_open ≡ false → Closes c w (xs ++ ys) s × (connection c u ≡ None)
  ends_by true is opened shut = let e = b.ends is shut in (later e.0 is, e.1)
  ends_by false is opened shut =
      let e = a.ends opened is in
      let f = b.closed is in (subst (Closes c w (xs ++ ys)) (sym f.0) (why_before c w q xs ys e.0), f.1 ∙ e.1)

  stays_by : (t : Bool) → q.is_open ≡ t → s.is_open ≡ true → IsShut u c → IsShut w c
  stays_by true is opened shut = a.stays is (b.stays opened shut)
  stays_by false is opened shut = absurd (not_both s.is_open opened (ap (λ l. l.is_open) (b.closed is).0 ∙ is))

  pub joined : Served c w p (xs ++ ys) u s
  joined = record {
    id = b.id ∙ a.id;
    stalls = b.stalls ∙ a.stalls;
    closed = λ shut.
        let e = a.closed shut in
        let f = b.closed (ap (λ l. l.is_open) e.0 ∙ shut) in (f.0 ∙ e.0, f.1 ∙ e.1);
    input = input_join;
    output = subst (GivesOut p s) (sym (sent_join c xs ys)) (output_by a.output b.output);
    stays = stays_by q.is_open refl;
    ends = ends_by q.is_open refl;
  }

-- a link that is served twice
pub serves_join : (render page : Renders) (w v u : World) (p q s : Peer) → page ≡ render → Serves render w p v q → Serves page v q u s
    → Serves render w p u s
serves_join render page w v u p q s same a b =
    let runs : Runs render v b.run u = subst (λ r. Runs r v b.run u) same b.runs in
    record {
      run = a.run ++ b.run;
      runs = runs_join render w v u a.run b.run a.runs runs;
      own = All-append (λ h. served_by h.event ≡ Some p.id) a.run b.run a.own (subst (λ n. AreOf n b.run) a.served.id b.own);
      served = joined p.id w v u p q s a.run b.run a.served (subst (λ n. Served n v q b.run u s) a.served.id b.served);
    }
