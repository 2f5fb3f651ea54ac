-- Serving clients, run after run.
use Rattle.std.proofs.Common.{◌≡◌, ℕ, List, [], ◌++◌, Bool, true, false, refl, sym, ap, ◌∙◌, subst, inl, inr, append-nil}
use Rattle.std.specs.Prelude.{◌⊎◌, Option, Some, None}
use Rattle.std.specs.Io.KnownBytes.{append_known}
use Rattle.std.proofs.lemmas.List.Elements.{All-append, All-nil, filter-append}
use Rattle.doc_hub.specs.Replies.{Renders}
use Rattle.doc_hub.specs.Runs.{Happened, Runs, nothing, events_on, is_on, sent_on}
use Rattle.doc_hub.specs.StepLaws.{connection}
use Rattle.doc_hub.specs.Worlds.{World}
use Rattle.doc_hub.specs.RunParts.{served_by, Gave, pushed_on}
use Rattle.doc_hub.proofs.RunParts.{gave_after, gave_before, pushed_join, runs_join, sent_join}
use Rattle.doc_server_network.proofs.Passing.{append_none}
use Rattle.doc_server_turns.specs.Servings.{Answers, IsEnding, Served, Serves}
use Rattle.doc_server_turns.specs.Wirings.{Peer, TakesIn}
use Rattle.doc_server_turns.proofs.AnswerSteps.{bound_join}
use Rattle.doc_server_turns.proofs.Wiring.{not_both, takes_join}
use Rattle.std.proofs.Common.{arith, length}

-- ---- two runs, whatever else they do

module _ (id : ℕ) (w v u : World) (c d e : Option (List ℕ)) (ended later : Type 0) (p q r : Peer) (xs ys : List Happened)
    (stays : ended → later) (a : Served id w v c d ended xs p q) (b : Served id v u d e later ys q r) where
  none_join : events_on id xs ≡ [] → events_on id ys ≡ [] → events_on id (xs ++ ys) ≡ []
  none_join one two = filter-append (is_on id) xs ys ∙ ap (λ l. l ++ events_on id ys) one ∙ two

  closed_too : p.is_open ≡ false → q.is_open ≡ false
  closed_too shut = at q.is_open refl
    where
      at : (o : Bool) → q.is_open ≡ o → q.is_open ≡ false
      at true is = absurd (not_both p.is_open (a.takes.opens is) shut)
      at false is = is

  why_before : Gave IsEnding id xs ⊎ ended → Gave IsEnding id (xs ++ ys) ⊎ later
  why_before (inl gave) = inl (gave_before IsEnding id xs ys gave)
  why_before (inr by) = inr (stays by)

  why_after : Gave IsEnding id ys ⊎ later → Gave IsEnding id (xs ++ ys) ⊎ later
  why_after (inl gave) = inl (gave_after IsEnding id xs ys gave)
  why_after (inr by) = inr by

  ends_by : (o : Bool) → q.is_open ≡ o → p.is_open ≡ true → r.is_open ≡ false
      → (Gave IsEnding id (xs ++ ys) ⊎ later) × (connection id u ≡ None)
  ends_by true is opened shut = let why = b.ends is shut in (why_after why.0, why.1)
  ends_by false is opened shut = let why = a.ends opened is in (why_before why.0, (b.closed is).1 ∙ why.1)

  pub served_join : Served id w u c e later (xs ++ ys) p r
  served_join = record {
    takes = subst (λ l. TakesIn c e l (sent_on id (xs ++ ys)) p r) (sym (pushed_join id xs ys))
        (subst (λ l. TakesIn c e (pushed_on id xs ++ pushed_on id ys) l p r) (sym (sent_join id xs ys))
        (takes_join c d e (pushed_on id xs) (pushed_on id ys) (sent_on id xs) (sent_on id ys) p q r a.takes b.takes));
    bound = bound_join id xs ys p q r a.bound b.bound;
    closed = λ shut.
        let one = a.closed shut in
        let two = b.closed (closed_too shut) in (none_join one.0 two.0, two.1 ∙ one.1);
    ends = ends_by q.is_open refl;
  }

-- ---- one client alone

-- steps of an open client, while nothing is read
abbrev pub answers_serve : (render : Renders) (w v : World) (id : ℕ) (c : Option (List ℕ)) (ended : Type 0) (p q : Peer) → p.is_open ≡ true
    → Answers render w v id p q → Serves render w v id c c ended p q
answers_serve render w v id c ended p q opened a = record {
  run = a.run;
  runs = a.runs;
  own = a.own;
  served = record {
    takes = record {
      pending = a.pending;
      input = ([], sym (append_none c) ∙ ap (append_known c) (sym (append-nil (pushed_on id a.run) ∙ a.pushes)), inl refl);
      opens = λ o. opened;
      closed = λ shut. absurd (not_both p.is_open opened shut);
    };
    bound = a.bound;
    closed = λ shut. absurd (not_both p.is_open opened shut);
    ends = λ o shut. (inl (a.ends shut).0, (a.ends shut).1);
  };
}

abbrev pub serves_join : (render page : Renders) (w v u : World) (id : ℕ) (c d e : Option (List ℕ)) (ended later : Type 0) (p q r : Peer)
    → page ≡ render → (ended → later) → Serves render w v id c d ended p q → Serves page v u id d e later q r
    → Serves render w u id c e later p r
serves_join render page w v u id c d e ended later p q r same stays a b =
    let runs : Runs render v b.run u = subst (λ x. Runs x v b.run u) same b.runs in record {
      run = a.run ++ b.run;
      runs = runs_join render w v u a.run b.run a.runs runs;
      own = All-append (λ h. served_by h.event ≡ Some id) a.run b.run a.own b.own;
      served = served_join id w v u c d e ended later p q r a.run b.run stays a.served b.served;
    }

-- nothing is done
abbrev pub serves_nothing : (render : Renders) (w : World) (id : ℕ) (c d : Option (List ℕ)) (ended : Type 0) (p q : Peer) → d ≡ c
    → q.pending ≡ p.pending → q.is_open ≡ p.is_open → Serves render w w id c d ended p q
serves_nothing render w id c d ended p q same waits opened = record {
  run = [];
  runs = nothing w;
  own = All-nil (λ h. served_by h.event ≡ Some id);
  served = record {
    takes = record {
      pending = waits ∙ sym (append-nil p.pending);
      input = ([], same ∙ sym (append_none c), inl refl);
      opens = λ o. sym opened ∙ o;
      closed = λ shut. refl;
    };
    bound = inl (omega (arith, ap length waits));
    closed = λ shut. (refl, refl);
    ends = λ o shut. absurd (not_both q.is_open (opened ∙ o) shut);
  };
}
