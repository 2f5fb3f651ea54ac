use Rattle.std.proofs.Common.{◌++◌, ◌∙◌, ℕ, List, ap, refl, subst, sym}
use Rattle.std.specs.Prelude.{Contains}
use Rattle.std.specs.FinMap as map
use Rattle.std.specs.List.{list_any}
use Rattle.doc_server_turns.specs.Parts.{takes_part_at, times_among, turn_of}
use Rattle.doc_server_serving.specs.declared.next_turn.NextTurn.{NextTurn}
use Rattle.doc_server_serving.proofs.Accepting.{goes_silently, quiet_none}
use Rattle.doc_server_serving.proofs.Crashing.{nothing_written, room_behind}
use Rattle.doc_server_serving.proofs.Fewer.{fewer_turned}
use Rattle.doc_server_serving.proofs.Going.{goes_join, goes_turns}
use Rattle.doc_server_turns.proofs.Hearing.{all_heard, heard_longer}
use Rattle.doc_server_serving.proofs.Listed.{among_them, listed}
use Rattle.doc_server_turns.proofs.Minding.{waits_nobody}
use Rattle.doc_server_turns.proofs.Parting.{minded_served}
use Rattle.doc_server_network.proofs.Leading.{same_is_unedited}
use Rattle.doc_server_turns.proofs.Unedited.{no_yes}
use Rattle.doc_server_serving.proofs.server.Server.serve_ready.Goals as goal

pub turn-requires-clause-all : goal.turn-requires-clause-all
turn-requires-clause-all g c = c.requires.all

pub turn-requires-clause-ready : goal.turn-requires-clause-ready
turn-requires-clause-ready g c = c.requires.ready

pub keep_room-requires-clause-ready : goal.keep_room-requires-clause-ready
keep_room-requires-clause-ready g c = c.in_ok-turn.ensures.ready

pub keep_room-requires-clause-all : goal.keep_room-requires-clause-all
keep_room-requires-clause-all g c = c.in_ok-turn.ensures.all

pub returns-in_err-collect-clause-goes : goal.returns-in_err-collect-clause-goes
returns-in_err-collect-clause-goes g c =
    goes_silently g.R.Renderer.page g.N.Network.came g.N.Network.gone g.N.Network.wakes g.N.Network.is_free c.args.saved.now.hub
    c.args.saved.now.hub c.args.net.now c.args.self.now.peers refl
    (quiet_none (g.R.Renderer.page c.args.saved.now.hub.0) c.args.saved.now.hub.1 c.args.saved.now.hub.1 refl)

pub returns-in_err-turn-clause-goes : goal.returns-in_err-turn-clause-goes
returns-in_err-turn-clause-goes g c =
    goes_turns g.R.Renderer.page g.N.Network.came g.N.Network.gone g.N.Network.wakes g.N.Network.is_free c.args.saved.now.hub
    c.turn.new.saved.hub c.args.net.now c.turn.new.net c.args.self.now.peers c.turn.new.peers c.turn.ensures.same c.turn.ensures.woken
    c.turn.ensures.free _ c.turn.ensures.turns.0

pub returns-then-keeps_room-clause-goes : goal.returns-then-keeps_room-clause-goes
returns-then-keeps_room-clause-goes g c =
    goes_turns g.R.Renderer.page g.N.Network.came g.N.Network.gone g.N.Network.wakes g.N.Network.is_free c.args.saved.now.hub
    c.turn.new.saved.hub c.args.net.now c.turn.new.net c.args.self.now.peers c.turn.new.peers c.turn.ensures.same c.turn.ensures.woken
    c.turn.ensures.free _ c.turn.ensures.turns.0

pub returns-in_err-keep_room-clause-goes : goal.returns-in_err-keep_room-clause-goes
returns-in_err-keep_room-clause-goes g c =
    let P = g.R.Renderer.page in let C = g.N.Network.came in let G = g.N.Network.gone in
    let W = g.N.Network.wakes in let F = g.N.Network.is_free in
    goes_join P C G W F c.args.saved.now.hub c.turn.new.saved.hub c.keep_room.new.saved.hub c.args.net.now c.turn.new.net c.turn.new.net
    c.args.self.now.peers c.turn.new.peers c.turn.new.peers
    (goes_turns P C G W F c.args.saved.now.hub c.turn.new.saved.hub c.args.net.now c.turn.new.net c.args.self.now.peers c.turn.new.peers
    c.turn.ensures.same c.turn.ensures.woken c.turn.ensures.free _ c.turn.ensures.turns.0)
    (goes_silently P C G W F c.turn.new.saved.hub c.keep_room.new.saved.hub c.turn.new.net c.turn.new.peers c.keep_room.ensures.same
    c.keep_room.ensures.quiet)

pub returns-clause-goes : goal.returns-clause-goes
returns-clause-goes g c =
    let P = g.R.Renderer.page in let C = g.N.Network.came in let G = g.N.Network.gone in
    let W = g.N.Network.wakes in let F = g.N.Network.is_free in
    goes_join P C G W F c.args.saved.now.hub c.turn.new.saved.hub c.keep_room.new.saved.hub c.args.net.now c.turn.new.net c.turn.new.net
    c.args.self.now.peers c.turn.new.peers c.turn.new.peers
    (goes_turns P C G W F c.args.saved.now.hub c.turn.new.saved.hub c.args.net.now c.turn.new.net c.args.self.now.peers c.turn.new.peers
    c.turn.ensures.same c.turn.ensures.woken c.turn.ensures.free _ c.turn.ensures.turns.0)
    (goes_silently P C G W F c.turn.new.saved.hub c.keep_room.new.saved.hub c.turn.new.net c.turn.new.peers c.keep_room.ensures.same
    c.keep_room.ensures.quiet)

pub returns-in_err-turn-clause-fewer : goal.returns-in_err-turn-clause-fewer
returns-in_err-turn-clause-fewer g c =
    fewer_turned (g.R.Renderer.page c.args.saved.now.hub.0) c.args.saved.now.hub.1 c.turn.new.saved.hub.1 _
    (g.N.Network.came c.args.net.now) (g.N.Network.came c.turn.new.net) (g.N.Network.gone c.args.net.now)
    (g.N.Network.gone c.turn.new.net) c.args.self.now.peers c.turn.new.peers c.turn.ensures.turns.0

pub returns-then-keeps_room-clause-fewer : goal.returns-then-keeps_room-clause-fewer
returns-then-keeps_room-clause-fewer g c =
    fewer_turned (g.R.Renderer.page c.args.saved.now.hub.0) c.args.saved.now.hub.1 c.turn.new.saved.hub.1 _
    (g.N.Network.came c.args.net.now) (g.N.Network.came c.turn.new.net) (g.N.Network.gone c.args.net.now)
    (g.N.Network.gone c.turn.new.net) c.args.self.now.peers c.turn.new.peers c.turn.ensures.turns.0

pub returns-in_err-keep_room-clause-fewer : goal.returns-in_err-keep_room-clause-fewer
returns-in_err-keep_room-clause-fewer g c =
    fewer_turned (g.R.Renderer.page c.args.saved.now.hub.0) c.args.saved.now.hub.1 c.turn.new.saved.hub.1 _
    (g.N.Network.came c.args.net.now) (g.N.Network.came c.turn.new.net) (g.N.Network.gone c.args.net.now)
    (g.N.Network.gone c.turn.new.net) c.args.self.now.peers c.turn.new.peers c.turn.ensures.turns.0

pub returns-clause-fewer : goal.returns-clause-fewer
returns-clause-fewer g c =
    fewer_turned (g.R.Renderer.page c.args.saved.now.hub.0) c.args.saved.now.hub.1 c.turn.new.saved.hub.1 _
    (g.N.Network.came c.args.net.now) (g.N.Network.came c.turn.new.net) (g.N.Network.gone c.args.net.now)
    (g.N.Network.gone c.turn.new.net) c.args.self.now.peers c.turn.new.peers c.turn.ensures.turns.0

pub returns-then-keeps_room-clause-list : goal.returns-then-keeps_room-clause-list
returns-then-keeps_room-clause-list g c =
    c.in_ok-collect.ensures ∙ ap (λ (xs : List ℕ). xs ++ turn_of c.first.result c.args.self.now.peers) c.clear.ensures.items
    ∙ ap (λ n. turn_of n c.args.self.now.peers) c.first.ensures

pub returns-then-keeps_room-clause-each : goal.returns-then-keeps_room-clause-each
returns-then-keeps_room-clause-each g c =
    let list = c.in_ok-collect.ensures ∙ ap (λ (xs : List ℕ). xs ++ turn_of c.first.result c.args.self.now.peers) c.clear.ensures.items
    ∙ ap (λ n. turn_of n c.args.self.now.peers) c.first.ensures in
    λ k. ap (λ (xs : List ℕ). times_among xs k) list ∙ listed c.args.next.now.first c.args.self.now.peers k

pub returns-clause-list : goal.returns-clause-list
returns-clause-list g c =
    c.in_ok-collect.ensures ∙ ap (λ (xs : List ℕ). xs ++ turn_of c.first.result c.args.self.now.peers) c.clear.ensures.items
    ∙ ap (λ n. turn_of n c.args.self.now.peers) c.first.ensures

pub returns-clause-each : goal.returns-clause-each
returns-clause-each g c =
    let list = c.in_ok-collect.ensures ∙ ap (λ (xs : List ℕ). xs ++ turn_of c.first.result c.args.self.now.peers) c.clear.ensures.items
    ∙ ap (λ n. turn_of n c.args.self.now.peers) c.first.ensures in
    λ k. ap (λ (xs : List ℕ). times_among xs k) list ∙ listed c.args.next.now.first c.args.self.now.peers k

pub returns-in_err-collect-clause-any_moment : goal.returns-in_err-collect-clause-any_moment
returns-in_err-collect-clause-any_moment g c =
    λ config all is.
    nothing_written g.D.Device.seen g.D.Device.moment g.D.Device.left_since g.D.Device.may_leave g.D.Device.failed g.D.Device.stale g.met.D.Device.only_now
    config c.args.saved.now.hub.1 c.args.saved.now.journal c.args.saved.now.unsaved is.0

pub returns-in_err-turn-clause-any_moment : goal.returns-in_err-turn-clause-any_moment
returns-in_err-turn-clause-any_moment g c = λ config all is. c.turn.ensures.any_moment config c.args.saved.now.hub.1 is.0

pub returns-then-keeps_room-clause-any_moment : goal.returns-then-keeps_room-clause-any_moment
returns-then-keeps_room-clause-any_moment g c = λ config all is. c.turn.ensures.any_moment config c.args.saved.now.hub.1 is.0

pub returns-in_err-keep_room-clause-any_moment : goal.returns-in_err-keep_room-clause-any_moment
returns-in_err-keep_room-clause-any_moment g c =
    λ config all is.
    room_behind g.D.Device.seen g.D.Device.moment g.D.Device.left_since config c.args.saved.now.hub.1 c.turn.new.saved.hub.1
    c.keep_room.new.saved.hub.1 c.args.saved.now.journal c.turn.new.saved.journal c.keep_room.new.saved.journal all
    c.keep_room.ensures.site (c.turn.ensures.any_moment config c.args.saved.now.hub.1 is.0)
    (c.keep_room.ensures.any_moment config c.turn.new.saved.hub.1 (c.in_ok-turn.ensures.settled config c.args.saved.now.hub.1 is.0).0)

pub returns-clause-any_moment : goal.returns-clause-any_moment
returns-clause-any_moment g c =
    λ config all is.
    room_behind g.D.Device.seen g.D.Device.moment g.D.Device.left_since config c.args.saved.now.hub.1 c.turn.new.saved.hub.1
    c.keep_room.new.saved.hub.1 c.args.saved.now.journal c.turn.new.saved.journal c.keep_room.new.saved.journal all
    c.keep_room.ensures.site (c.turn.ensures.any_moment config c.args.saved.now.hub.1 is.0)
    (c.keep_room.ensures.any_moment config c.turn.new.saved.hub.1 (c.in_ok-turn.ensures.settled config c.args.saved.now.hub.1 is.0).0)

pub returns-then-keeps_room-clause-heard : goal.returns-then-keeps_room-clause-heard
returns-then-keeps_room-clause-heard g c =
    let P = g.R.Renderer.page in let C = g.N.Network.came in let G = g.N.Network.gone in
    let W = g.N.Network.wakes in let F = g.N.Network.is_free in
    let list = c.in_ok-collect.ensures ∙ ap (λ (xs : List ℕ). xs ++ turn_of c.first.result c.args.self.now.peers) c.clear.ensures.items
    ∙ ap (λ n. turn_of n c.args.self.now.peers) c.first.ensures in (
      goes_turns P C G W F c.args.saved.now.hub c.turn.new.saved.hub c.args.net.now c.turn.new.net c.args.self.now.peers c.turn.new.peers
          c.turn.ensures.same c.turn.ensures.woken c.turn.ensures.free _ c.turn.ensures.turns.0,
      all_heard c.as_slice.result.now c.turn.ensures.turns.0.run c.args.self.now.peers c.turn.new.peers
          (λ k part.
          subst (λ (xs : List ℕ). Contains xs k) (sym (c.as_slice.ensures.value ∙ list))
          (among_them c.args.next.now.first c.args.self.now.peers k part))
          c.turn.ensures.turns.3,
    )

pub returns-clause-heard : goal.returns-clause-heard
returns-clause-heard g c =
    let P = g.R.Renderer.page in let C = g.N.Network.came in let G = g.N.Network.gone in
    let W = g.N.Network.wakes in let F = g.N.Network.is_free in
    let list = c.in_ok-collect.ensures ∙ ap (λ (xs : List ℕ). xs ++ turn_of c.first.result c.args.self.now.peers) c.clear.ensures.items
    ∙ ap (λ n. turn_of n c.args.self.now.peers) c.first.ensures in (
      goes_join P C G W F c.args.saved.now.hub c.turn.new.saved.hub c.keep_room.new.saved.hub c.args.net.now c.turn.new.net c.turn.new.net
          c.args.self.now.peers c.turn.new.peers c.turn.new.peers
          (goes_turns P C G W F c.args.saved.now.hub c.turn.new.saved.hub c.args.net.now c.turn.new.net c.args.self.now.peers c.turn.new.peers
          c.turn.ensures.same c.turn.ensures.woken c.turn.ensures.free _ c.turn.ensures.turns.0)
          (goes_silently P C G W F c.turn.new.saved.hub c.keep_room.new.saved.hub c.turn.new.net c.turn.new.peers c.keep_room.ensures.same
          c.keep_room.ensures.quiet),
      λ k.
          heard_longer k c.turn.ensures.turns.0.run c.keep_room.ensures.quiet.leads.run (map.get c.args.self.now.peers k)
          (map.get c.turn.new.peers k)
          (all_heard c.as_slice.result.now c.turn.ensures.turns.0.run c.args.self.now.peers c.turn.new.peers
          (λ k part.
          subst (λ (xs : List ℕ). Contains xs k) (sym (c.as_slice.ensures.value ∙ list))
          (among_them c.args.next.now.first c.args.self.now.peers k part))
          c.turn.ensures.turns.3 k),
    )

pub returns-in_err-collect-clause-waits : goal.returns-in_err-collect-clause-waits
returns-in_err-collect-clause-waits g c = waits_nobody c.args.self.now.peers

pub returns-then-keeps_room-clause-minds : goal.returns-then-keeps_room-clause-minds
returns-then-keeps_room-clause-minds g c =
    let list = c.in_ok-collect.ensures ∙ ap (λ (xs : List ℕ). xs ++ turn_of c.first.result c.args.self.now.peers) c.clear.ensures.items
    ∙ ap (λ n. turn_of n c.args.self.now.peers) c.first.ensures in
    minded_served c.as_slice.result.now c.args.self.now.peers c.turn.new.peers c.serve.new.self.goes_on
    (λ k. ap (λ (xs : List ℕ). times_among xs k) (c.as_slice.ensures.value ∙ list) ∙ listed c.args.next.now.first c.args.self.now.peers k)
    (λ k part.
    subst (λ (xs : List ℕ). Contains xs k) (sym (c.as_slice.ensures.value ∙ list))
    (among_them c.args.next.now.first c.args.self.now.peers k part))
    c.turn.ensures.others
    (ap (λ (n : NextTurn). n.goes_on) c.serve.ensures ∙ c.goes_on.ensures
    ∙ ap (λ (xs : List ℕ). list_any (λ k. takes_part_at (map.get c.turn.new.peers k)) xs) (c.as_slice-3.ensures.value ∙ sym c.as_slice.ensures.value))

pub returns-clause-minds : goal.returns-clause-minds
returns-clause-minds g c =
    let list = c.in_ok-collect.ensures ∙ ap (λ (xs : List ℕ). xs ++ turn_of c.first.result c.args.self.now.peers) c.clear.ensures.items
    ∙ ap (λ n. turn_of n c.args.self.now.peers) c.first.ensures in
    minded_served c.as_slice.result.now c.args.self.now.peers c.turn.new.peers c.serve.new.self.goes_on
    (λ k. ap (λ (xs : List ℕ). times_among xs k) (c.as_slice.ensures.value ∙ list) ∙ listed c.args.next.now.first c.args.self.now.peers k)
    (λ k part.
    subst (λ (xs : List ℕ). Contains xs k) (sym (c.as_slice.ensures.value ∙ list))
    (among_them c.args.next.now.first c.args.self.now.peers k part))
    c.turn.ensures.others
    (ap (λ (n : NextTurn). n.goes_on) c.serve.ensures ∙ c.goes_on.ensures
    ∙ ap (λ (xs : List ℕ). list_any (λ k. takes_part_at (map.get c.turn.new.peers k)) xs) (c.as_slice-3.ensures.value ∙ sym c.as_slice.ensures.value))

-- where edits wait, nothing is edited

pub returns-in_err-collect-clause-unedited : goal.returns-in_err-collect-clause-unedited
returns-in_err-collect-clause-unedited g c = λ is. same_is_unedited c.args.saved.now c.args.saved.now refl

pub returns-in_err-turn-clause-unedited : goal.returns-in_err-turn-clause-unedited
returns-in_err-turn-clause-unedited g c = λ is. c.turn.ensures.unedited is

pub returns-then-keeps_room-clause-unedited : goal.returns-then-keeps_room-clause-unedited
returns-then-keeps_room-clause-unedited g c = λ is. c.turn.ensures.unedited is

pub returns-in_err-keep_room-clause-unedited : goal.returns-in_err-keep_room-clause-unedited
returns-in_err-keep_room-clause-unedited g c = λ is. absurd (no_yes _ c.if-keeps_room.false (c.keeps_room.ensures is))

pub returns-clause-unedited : goal.returns-clause-unedited
returns-clause-unedited g c = λ is. absurd (no_yes _ c.if-keeps_room.false (c.keeps_room.ensures is))
