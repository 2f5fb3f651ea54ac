-- Replies so far, as steps of one connection.
use Rattle.std.proofs.Common.{◌≡◌, ℕ, ◌+◌, length, take, List, [], ◌∷◌, ◌++◌, Bool, true, false, refl, sym, ap, ◌∙◌, subst, ◌==◌}
use Rattle.std.proofs.Common.{append-nil, arith}
use Rattle.std.specs.Prelude.{Option, Ok}
use Rattle.std.specs.Io.KnownBytes.{Appends, Keeps}
use Rattle.std.proofs.KnownBytes.{Appends-nil, Appends-trans, Appends-kept, Keeps-refl}
use Rattle.std.proofs.Math.Seq.{take-append-add, take-length}
use Rattle.std.proofs.lemmas.List.Elements.{All-nil, All-push}
use Rattle.doc_hub.specs.Replies.{Renders}
use Rattle.doc_hub.specs.Worlds.{World}
use Rattle.doc_hub.specs.Runs.{Happens, Leaves, Happened, nothing, bytes_of, sent_by, sent_on}
use Rattle.doc_hub_events.specs.Events.{step_on}
use Rattle.doc_hub_events.specs.declared.outcome.Outcome.{Outcome}
use Rattle.doc_hub_events.specs.declared.outcome.Outcome.TheVariants as outcomes
use Rattle.doc_hub_events.specs.declared.event.Step.{Step}
use Rattle.doc_hub_events.specs.declared.event.Step.TheVariants as steps
use Rattle.doc_server.specs.Demo.{Sends, Ends, IsStep, AreReplies}
use Rattle.doc_server.specs.DemoSteps.{SendsNext, StopsNext, StepsSend, SendsToEnd, StopsReplies}
use Rattle.doc_server_streams.specs.Streams.{AppendsPrefix}
use Rattle.doc_server_streams.specs.declared.fault.Fault.{Fault}
use Rattle.doc_server_streams.specs.declared.fault.Fault.TheVariants as faults
use Rattle.doc_server.proofs.RunSteps.{one_more, sent_more}
use Rattle.doc_server.proofs.Unread.{unread_len, Left, reply_takes}

-- ---- one step

reply_of : (render : Renders) (w v : World) (id : ℕ) (old new : Option (List ℕ)) (said : Step) (given : List ℕ)
    → Sends (outcomes.Stepped said) → bytes_of said ≡ given
    → Happens render w (step_on (record { 0 = id })) v (Ok said) → Appends old new given → SendsNext render w id v old new true
reply_of render w v id old new said given sends same happens
    appends = (outcomes.Stepped said, (Ok said, happens, refl), sends, subst (Appends old new) (sym same) appends)

pub reply_sent : (render : Renders) (w v : World) (id : ℕ) (old new : Option (List ℕ)) (said : Step) (reply given : List ℕ)
    → said ≡ steps.Sent reply
    → Happens render w (step_on (record { 0 = id })) v (Ok said) → given ≡ reply → Appends old new given
    → SendsNext render w id v old new true
reply_sent render w v id old new said reply given is happens same appends =
    reply_of render w v id old new said given (subst (λ s. Sends (outcomes.Stepped s)) (sym is) tt) (ap bytes_of is
    ∙ sym same) happens appends

pub last_sent : (render : Renders) (w v : World) (id : ℕ) (old new : Option (List ℕ)) (said : Step) (reply given : List ℕ)
    → said ≡ steps.Last reply
    → Happens render w (step_on (record { 0 = id })) v (Ok said) → given ≡ reply → Appends old new given
    → SendsNext render w id v old new true
last_sent render w v id old new said reply given is happens same appends =
    reply_of render w v id old new said given (subst (λ s. Sends (outcomes.Stepped s)) (sym is) tt) (ap bytes_of is
    ∙ sym same) happens appends

end_of : (render : Renders) (w v : World) (id : ℕ) (old : Option (List ℕ)) (said : Step) → Ends (outcomes.Stepped said) → bytes_of said ≡ []
    → Happens render w (step_on (record { 0 = id })) v (Ok said) → SendsNext render w id v old old false
end_of render w v id old said ends none happens = (
  outcomes.Stepped said,
  (Ok said, happens, refl),
  ends,
  subst (Appends old old)
      (sym none) (Appends-nil old),
)

pub none_left : (render : Renders) (w v : World) (id : ℕ) (old : Option (List ℕ)) (said : Step) → said ≡ steps.More
    → Happens render w (step_on (record { 0 = id })) v (Ok said) → SendsNext render w id v old old false
none_left render w v id old said is happens = end_of render w v id old said (subst (λ s. Ends (outcomes.Stepped s)) (sym is) tt)
    (ap bytes_of is) happens

pub closed_before : (render : Renders) (w v : World) (id : ℕ) (old : Option (List ℕ)) (said : Step) → said ≡ steps.Closed
    → Happens render w (step_on (record { 0 = id })) v (Ok said) → SendsNext render w id v old old false
closed_before render w v id old said is happens = end_of render w v id old said (subst (λ s. Ends (outcomes.Stepped s)) (sym is) tt)
    (ap bytes_of is) happens

-- ---- the steps so far

-- the output grew by the replies of some steps
abbrev pub Replied : Renders → World → ℕ → World → Option (List ℕ) → Option (List ℕ) → Type 0
Replied render w id v old new = StepsSend render w id v (AreReplies id) (Appends old new)

pub none_yet : (render : Renders) (w : World) (id : ℕ) (old : Option (List ℕ)) → Replied render w id w old old
none_yet render w id old = ([], nothing w, All-nil (IsStep id Sends), Appends-nil old)

itself : (id : ℕ) → (id == id) ≡ true
itself id = grind (arith)

-- the output after one step more
grown : (id : ℕ) (run : List Happened) (v : World) (outcome : Outcome) (old mid new : Option (List ℕ)) → Appends old mid (sent_on id run)
    → Appends mid new (sent_by outcome)
    → Appends old new (sent_on id (run ++ record { world = v; event = step_on (record { 0 = id }); outcome = outcome } ∷ []))
grown id run v outcome old mid new p q =
    subst (Appends old new) (sym (sent_more id run (record { world = v; event = step_on (record { 0 = id }); outcome = outcome })
    (itself id)))
    (Appends-trans old mid new (sent_on id run) (sent_by outcome) p q)

one_reply : (render page : Renders) (w v u : World) (id : ℕ) (old mid new : Option (List ℕ)) → page ≡ render
    → Replied render w id v old mid → SendsNext page v id u mid new true → Replied render w id u old new
one_reply render page w v u id old mid new same (replies, runs, all, p) (outcome, happens, sends, q) =
    let h : Happened = record { world = v; event = step_on (record { 0 = id }); outcome = outcome } in (
      replies ++ h ∷ [],
      one_more render w v u replies (step_on (record { 0 = id })) outcome runs
          (subst (λ r. Leaves r v (step_on (record { 0 = id })) u outcome) same happens),
      All-push (IsStep id Sends) replies h all (refl, sends),
      grown id replies v outcome old mid new p q,
    )

pub reply_more : (render page : Renders) (w v u : World) (id : ℕ) (old mid new : Option (List ℕ)) (more : Bool) → more ≡ true
    → page ≡ render → Replied render w id v old mid → SendsNext page v id u mid new more
    → Replied render w id u old new
reply_more render page w v u id old mid new more is same sent next = one_reply render page w v u id old mid new same sent
    (subst (SendsNext page v id u mid new) is next)

-- what a reply leaves unread
pub reply_leaves : (page : Renders) (v u : World) (id : ℕ) (mid new : Option (List ℕ)) (more : Bool) → more ≡ true
    → SendsNext page v id u mid new more → Left (unread_len v id) u id
reply_leaves page v u id mid new more is next = leaves (subst (SendsNext page v id u mid new) is next)
  where
    leaves : SendsNext page v id u mid new true → Left (unread_len v id) u id
    leaves (outcome, happens, sends, q) = reply_takes page v u id outcome happens sends

the_end : (render page : Renders) (w v u : World) (id : ℕ) (old mid new kept : Option (List ℕ)) → page ≡ render
    → Replied render w id v old mid → SendsNext page v id u mid new false → Keeps new kept
    → SendsToEnd render w id u old kept
the_end render page w v u id old mid new kept same (replies, runs, all, p) (outcome, happens, ends, q) keeps =
    let h : Happened = record { world = v; event = step_on (record { 0 = id }); outcome = outcome } in (
      replies ++ h ∷ [],
      one_more render w v u replies (step_on (record { 0 = id })) outcome runs
          (subst (λ r. Leaves r v (step_on (record { 0 = id })) u outcome) same happens),
      (replies, h, refl, all, (refl, ends)),
      Appends-kept old new kept _ (grown id replies v outcome old mid new p q) keeps,
    )

pub reply_none : (render page : Renders) (w v u : World) (id : ℕ) (old mid new kept : Option (List ℕ)) (more : Bool) → more ≡ false
    → page ≡ render → Replied render w id v old mid → SendsNext page v id u mid new more
    → Keeps new kept → SendsToEnd render w id u old kept
reply_none render page w v u id old mid new kept more is same sent next keeps = the_end render page w v u id old mid new kept same sent
    (subst (SendsNext page v id u mid new) is next) keeps

-- ---- what stops the replies

sent_nothing : (outcome : Outcome) → Ends outcome → sent_by outcome ≡ []
sent_nothing (outcomes.Conn id) ends = absurd ends
sent_nothing outcomes.Pushed ends = absurd ends
sent_nothing (outcomes.Disconnected x) ends = absurd ends
sent_nothing (outcomes.Edited x) ends = absurd ends
sent_nothing (outcomes.Removed x) ends = absurd ends
sent_nothing (outcomes.ReaderSet x) ends = absurd ends
sent_nothing (outcomes.ReaderRemoved x) ends = absurd ends
sent_nothing (outcomes.Refused x) ends = absurd ends
sent_nothing outcomes.Moved ends = absurd ends
sent_nothing outcomes.ReadersSet ends = absurd ends
sent_nothing outcomes.PutsSet ends = absurd ends
sent_nothing outcomes.MediaSet ends = absurd ends
sent_nothing (outcomes.Stepped (steps.Sent bytes)) ends = absurd ends
sent_nothing (outcomes.Stepped (steps.Last bytes)) ends = absurd ends
sent_nothing (outcomes.Stepped steps.More) ends = refl
sent_nothing (outcomes.Stepped steps.Closed) ends = refl

-- a step that memory stopped
pub step_stopped : (render : Renders) (w v : World) (id : ℕ) (old : Option (List ℕ)) (fault : Fault) → fault ≡ faults.Memory → v ≡ w
    → StopsNext render w id v old old fault
step_stopped render w v id old fault is same = subst (StopsNext render w id v old old) (sym is) (same, Keeps-refl old)

cut_of : (render : Renders) (w v : World) (id : ℕ) (old new : Option (List ℕ)) (said : Step) (given : List ℕ) (fault : Fault)
    → Sends (outcomes.Stepped said) → bytes_of said ≡ given
    → Happens render w (step_on (record { 0 = id })) v (Ok said) → AppendsPrefix old new given → fault ≡ faults.CannotWrite
    → StopsNext render w id v old new fault
cut_of render w v id old new said given fault sends same happens grows is =
    subst (StopsNext render w id v old new) (sym is) (
      outcomes.Stepped said,
      (Ok said, happens, refl),
      sends,
      subst (AppendsPrefix old new)
          (sym same) grows,
    )

pub reply_cut : (render : Renders) (w v : World) (id : ℕ) (old new : Option (List ℕ)) (said : Step) (reply given : List ℕ) (fault : Fault)
    → said ≡ steps.Sent reply
    → Happens render w (step_on (record { 0 = id })) v (Ok said) → given ≡ reply → AppendsPrefix old new given
    → fault ≡ faults.CannotWrite → StopsNext render w id v old new fault
reply_cut render w v id old new said reply given fault is happens same grows =
    cut_of render w v id old new said given fault (subst (λ s. Sends (outcomes.Stepped s)) (sym is) tt) (ap bytes_of is
    ∙ sym same) happens grows

pub last_cut : (render : Renders) (w v : World) (id : ℕ) (old new : Option (List ℕ)) (said : Step) (reply given : List ℕ) (fault : Fault)
    → said ≡ steps.Last reply
    → Happens render w (step_on (record { 0 = id })) v (Ok said) → given ≡ reply → AppendsPrefix old new given
    → fault ≡ faults.CannotWrite → StopsNext render w id v old new fault
last_cut render w v id old new said reply given fault is happens same grows =
    cut_of render w v id old new said given fault (subst (λ s. Sends (outcomes.Stepped s)) (sym is) tt) (ap bytes_of is
    ∙ sym same) happens grows

-- whole replies, and then a prefix of one more
cut_off : (id : ℕ) (run : List Happened) (v : World) (outcome : Outcome) (old mid new : Option (List ℕ)) → Appends old mid (sent_on id run)
    → AppendsPrefix mid new (sent_by outcome)
    → AppendsPrefix old new (sent_on id (run ++ record { world = v; event = step_on (record { 0 = id }); outcome = outcome } ∷ []))
cut_off id run v outcome old mid new p (n, q) = (
  length (sent_on id run) + n,
  subst (Appends old new) (
      sym (take-append-add (sent_on id run) (sent_by outcome) n)
      ∙ ap (take (length (sent_on id run) + n))
      (sym (sent_more id run (record { world = v; event = step_on (record { 0 = id }); outcome = outcome }) (itself id)))
      ) (Appends-trans old mid new (sent_on id run) (take n (sent_by outcome)) p q),
)

pub replies_stopped : (render page : Renders) (w v u : World) (id : ℕ) (old mid new : Option (List ℕ)) (fault : Fault) → page ≡ render
    → Replied render w id v old mid → StopsNext page v id u mid new fault
    → StopsReplies render w id old new fault
replies_stopped render page w v u id old mid new faults.Usage same sent stops = stops
replies_stopped render page w v u id old mid new faults.Config same sent stops = stops
replies_stopped render page w v u id old mid new faults.BadTable same sent stops = stops
replies_stopped render page w v u id old mid new faults.UnknownToken same sent stops = stops
replies_stopped render page w v u id old mid new faults.Socket same sent stops = stops
replies_stopped render page w v u id old mid new (faults.BadScriptLine line) same sent stops = stops
replies_stopped render page w v u id old mid new (faults.CannotRead name) same sent stops = absurd stops
replies_stopped render page w v u id old mid new faults.Refused same sent stops = absurd stops
replies_stopped render page w v u id old mid new faults.Memory same (replies, runs, all, p)
    (still, keeps) = (v, (replies, runs, all, Appends-kept old mid new (sent_on id replies) p keeps))
replies_stopped render page w v u id old mid new faults.CannotWrite same (replies, runs, all, p) (outcome, happens, sends, grows) =
    let h : Happened = record { world = v; event = step_on (record { 0 = id }); outcome = outcome } in (
      u,
      (
        replies ++ h ∷ [],
        one_more render w v u replies (step_on (record { 0 = id })) outcome runs
            (subst (λ r. Leaves r v (step_on (record { 0 = id })) u outcome) same happens),
        All-push (IsStep id Sends) replies h all (refl, sends),
        cut_off id replies v outcome old mid new p grows,
      ),
    )

-- all replies were written, and could not be flushed
unflushed : (render page : Renders) (w v u : World) (id : ℕ) (old mid last new : Option (List ℕ)) → Replied render w id v old mid
    → SendsNext page v id u mid last false → Keeps last new
    → StopsReplies render w id old new faults.CannotWrite
unflushed render page w v u id old mid last new (replies, runs, all, p) (outcome, happens, ends, q) keeps = (
  v,
  (
    replies,
    runs,
    all,
    (
      length (sent_on id replies),
      Appends-kept old last new (take (length (sent_on id replies)) (sent_on id replies)) (
          subst (Appends old last) (append-nil (sent_on id replies) ∙ sym (take-length (sent_on id replies)))
          (Appends-trans old mid last (sent_on id replies) [] p (subst (Appends mid last) (sent_nothing outcome ends) q))
          ) keeps,
    ),
  ),
)

pub flush_stopped : (render page : Renders) (w v u : World) (id : ℕ) (old mid last new : Option (List ℕ)) (more : Bool) (fault : Fault)
    → more ≡ false → fault ≡ faults.CannotWrite → Replied render w id v old mid
    → SendsNext page v id u mid last more → Keeps last new → StopsReplies render w id old new fault
flush_stopped render page w v u id old mid last new more fault none is sent next keeps =
    subst (StopsReplies render w id old new) (sym is) (unflushed render page w v u id old mid last new sent
    (subst (SendsNext page v id u mid last) none next) keeps)
