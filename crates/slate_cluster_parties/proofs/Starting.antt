-- A start of a party is what the protocol says of it.
use Rattle.std.proofs.Common.{◌≡◌, ℕ, Bool, true, false, not, ◌&&◌, ◌||◌, true≢false, if◌then◌else◌, List, Option, Some, None, refl, sym, ap, ◌∙◌}
use Rattle.slate_script_events.specs.declared.call.Call.{Call}
use Rattle.slate_script_events.specs.declared.entry.Entry.{Entry}
use Rattle.slate_script_events.specs.declared.entry.Entry.TheVariants.{Started, Idle}
use Rattle.slate_script_events.specs.declared.reply.Reply.{Reply}
use Rattle.slate_cluster_protocol.specs.Calls.{has_call}
use Rattle.slate_cluster_protocol.specs.Ids.{is_stale, with_call}
use Rattle.slate_cluster_protocol.specs.Rows.{Standing, begin}
use Rattle.slate_cluster_protocol.specs.World.{World, Transition, party_of, with_party, reply_of, settled, carrying, start_state, start_at, refuses_start}
use Rattle.slate_cluster_protocol.specs.declared.party.Facts.{Facts}
use Rattle.slate_cluster_protocol.specs.declared.party.Party.{Party}
use Rattle.slate_cluster_protocol.specs.declared.party.State.{State}
use Rattle.slate_cluster_protocol.specs.declared.party.State.TheVariants.{Resting, Busy, Halted}
use Rattle.slate_cluster_steps.specs.Onward.{is_end}
use Rattle.slate_cluster_parties.proofs.Same.{same_party}
use Rattle.slate_cluster_parties.specs.Moved.{begins_at, ends_at, ends_in, start_entry, after_start}
use Rattle.slate_cluster_parties.specs.declared.parties.Begun.{Begun}

-- a state in which a start's ids were carried, with these parties
abbrev at : World → ℕ → Call → Entry → List (ℕ × Party) → Transition
at w n call entry parties = record { entry = entry; world = record { tallies = w.tallies; deleted = w.deleted; store = w.store; parties = parties; carried = with_call n call w.carried } }

by_state : (w : World) (n : ℕ) (call : Call) (facts : Facts) (state : State) (begun : Option Begun)
    → party_of n w.parties ≡ Some (record { facts = facts; state = state }) → begins_at facts state call begun
    → start_state (carrying n call w) n facts state call ≡ at w n call (start_entry n begun) (with_party n (after_start (record { facts = facts; state = state }) begun) w.parties)
by_state w n call facts Resting None here h = absurd h
by_state w n call facts Resting (Some b) here h =
    ap (λ (r : Option Reply). at w n call (Started n r) (with_party n (settled call (begin facts call)) w.parties)) (sym h.0.1)
    ∙ (ap (λ (s : State). at w n call (Started n b.reply) (with_party n (record { facts = (begin facts call).facts; state = s }) w.parties)) (sym h.0.0)
    ∙ ap (λ (f : Facts). at w n call (Started n b.reply) (with_party n (record { facts = f; state = b.state }) w.parties)) h.1)
by_state w n call facts (Busy task) None here h = ap (at w n call (Idle n)) (sym (same_party n w.parties _ here))
by_state w n call facts (Busy task) (Some b) here h = absurd cc
by_state w n call facts Halted None here h = ap (at w n call (Idle n)) (sym (same_party n w.parties _ here))
by_state w n call facts Halted (Some b) here h = absurd cc

may_of : (has stale : Bool) → (not has || stale) ≡ false → (has && not stale) ≡ true
may_of true true h = absurd (true≢false h)
may_of true false h = refl
may_of false stale h = absurd (true≢false h)

-- what the code's start says is what happens
pub start_happens : (w : World) (n : ℕ) (call : Call) (p : Party) (begun : Option Begun)
    → party_of n w.parties ≡ Some p → refuses_start w call (Some p) ≡ false → begins_at p.facts p.state call begun
    → start_at w n call (party_of n w.parties) ≡ Some (at w n call (start_entry n begun) (with_party n (after_start p begun) w.parties))
start_happens w n call p begun here fits h =
    ap (start_at w n call) here
    ∙ (ap (λ (b : Bool). if b then Some (start_state (carrying n call w) n p.facts p.state call) else None) (may_of (has_call p.facts.kind call) (is_stale w.carried call) fits)
    ∙ ap (λ (t : Transition). Some t) (by_state w n call p.facts p.state begun here h))

-- a state with these parties
abbrev with_parties : World → Entry → List (ℕ × Party) → Transition
with_parties w entry parties = record { entry = entry; world = record w { parties = parties } }

end_state : (w : World) (n : ℕ) (call : Call) (facts : Facts) (state : State) (entry : Entry) (new : Party)
    → party_of n w.parties ≡ Some (record { facts = facts; state = state }) → ends_in n facts state call entry new
    → start_state w n facts state call ≡ with_parties w entry (with_party n new w.parties)
end_state w n call facts Resting entry new here h =
    ap (λ (s : Standing). with_parties w (Started n (reply_of s.next)) (with_party n (settled call s) w.parties)) h.1
    ∙ (ap (λ (e : Entry). with_parties w e (with_party n (record { facts = new.facts; state = Resting }) w.parties)) (sym h.2)
    ∙ ap (λ (s : State). with_parties w entry (with_party n (record { facts = new.facts; state = s }) w.parties)) (sym h.3))
end_state w n call facts (Busy task) entry new here h =
    ap (with_parties w (Idle n)) (sym (same_party n w.parties _ here))
    ∙ (ap (λ (e : Entry). with_parties w e (with_party n (record { facts = facts; state = Busy task }) w.parties)) (sym h.0)
    ∙ ap (λ (p : Party). with_parties w entry (with_party n p w.parties)) (sym h.1))
end_state w n call facts Halted entry new here h =
    ap (with_parties w (Idle n)) (sym (same_party n w.parties _ here))
    ∙ (ap (λ (e : Entry). with_parties w e (with_party n (record { facts = facts; state = Halted }) w.parties)) (sym h.0)
    ∙ ap (λ (p : Party). with_parties w entry (with_party n p w.parties)) (sym h.1))

-- what the code's end of a compaction says is what happens
pub end_happens : (w : World) (n : ℕ) (call : Call) (p : Party) (entry : Entry) (new : Party)
    → party_of n w.parties ≡ Some p → refuses_start w call (Some p) ≡ false → is_end call ≡ true → ends_at n p call entry new
    → start_at w n call (party_of n w.parties) ≡ Some (record { entry = entry; world = record w { parties = with_party n new w.parties; carried = with_call n call w.carried } })
end_happens w n call p entry new here fits ends h =
    ap (start_at w n call) here
    ∙ (ap (λ (b : Bool). if b then Some (start_state (carrying n call w) n p.facts p.state call) else None) (may_of (has_call p.facts.kind call) (is_stale w.carried call) fits)
    ∙ ap (λ (t : Transition). Some t) (end_state (carrying n call w) n call p.facts p.state entry new here h))
