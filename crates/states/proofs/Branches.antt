-- One more atom decided: the two branches of a state, and how many atoms are left undecided.
use Rattle.states.proofs.Prelude.{◌≡◌, refl, sym, ◌∙◌, Bool, true, false, not, ◌⊎◌, inl, inr, ℕ, ◌≤◌, ◌<◌, lt_of_lt_of_le, arith, ones, ATOMS}
use Rattle.states.proofs.Prelude.{EVERY_ATOM, Has, ◌∪◌, atom, below, has_dec, has_none, has_below, has_atom, has_left, has_right, subset_refl, ext}
use Rattle.states.proofs.Prelude.{Completes, undecided, Narrows, branch_of, State}
use Rattle.atoms.proofs.Counts.{count-le, count_lt, count_proper}
use Rattle.states.proofs.HalfDecided.{undecided_shrinks, undecided_up, undecided_dropped, undecided_lt}
use Rattle.states.proofs.Narrows.{with_up_lem, with_dropped_lem, without_up, without_dropped}

-- ---- every atom decided

every_atom : (i : ℕ) → i < ATOMS → Has EVERY_ATOM i
unfolding below
every_atom i l = has_below ATOMS i l

-- with every atom up none is undecided
pub all_decided : undecided EVERY_ATOM EVERY_ATOM ≡ 0
all_decided =
    ext (undecided EVERY_ATOM EVERY_ATOM) 0
    (λ i h. absurd (undecided_up EVERY_ATOM EVERY_ATOM h (every_atom i (undecided_lt EVERY_ATOM EVERY_ATOM h)))) (λ i h. absurd (has_none h))

-- where nothing is undecided, fewer are than where something is
pub none_falls : {w v : ℕ} → ¬ (w ≡ 0) → v ≡ 0 → ones v < ones w
none_falls {w} n e = rw e (count_proper 0 w (record { each = λ i h. absurd (has_none h) }) (λ z. n (sym z)))

-- ---- the two branches

-- who completes a branch completes the state
pub without_branch : (s : State) (i : ℕ) (b : Bool) {N : ℕ} → Completes (branch_of s i b) N → Completes s N
without_branch s i true c = without_up s i c
without_branch s i false c = without_dropped s i c

-- and who completes the state completes one of its branches, in whichever order they are
pub some_branch : (s : State) (i : ℕ) (b : Bool) {N : ℕ} → Completes s N → Completes (branch_of s i b) N ⊎ Completes (branch_of s i (not b)) N
some_branch s i b {N} c = go b (has_dec N i)
  where
    go : (b : Bool) → Dec (Has N i) → Completes (branch_of s i b) N ⊎ Completes (branch_of s i (not b)) N
    go true (yes h) = inl (with_up_lem s i c h)
    go true (no h) = inr (with_dropped_lem s i c h)
    go false (yes h) = inr (with_up_lem s i c h)
    go false (no h) = inl (with_dropped_lem s i c h)

-- ---- how many atoms are undecided

-- a pass that decided some
pub pass_falls : {K : ℕ → Type 0} {s t : State} {n before after : ℕ} → Narrows K s t → after ≡ undecided t.up t.dropped
    → before ≡ undecided s.up s.dropped → ¬ (after ≡ before) → ones (undecided s.up s.dropped) ≡ n
    → ones (undecided t.up t.dropped) < n
pass_falls {s = s} {t = t} n e f h m =
    rw m at
    (count_proper (undecided t.up t.dropped) (undecided s.up s.dropped)
    (undecided_shrinks s.up s.dropped t.up t.dropped n.up_grows n.dropped_grows) (λ g. h (e ∙ g ∙ sym f)))

-- an undecided atom goes up, or is dropped
module _ (up dropped : ℕ) {i x n : ℕ} (a : x ≡ atom i) (h : Has (undecided up dropped) i) (m : ones (undecided up dropped) ≤ n) where
  pub raise_falls : {w : ℕ} → w ≡ up ∪ x → ones (undecided w dropped) < n
  raise_falls u =
      rw (u, a)
      (lt_of_lt_of_le
      (count_lt i (undecided (up ∪ atom i) dropped) (undecided up dropped)
      (undecided_shrinks up dropped (up ∪ atom i) dropped (record { each = λ j p. has_left up (atom i) p }) subset_refl) h
      (λ p. undecided_up (up ∪ atom i) dropped p (has_right up (atom i) (has_atom i)))) m)

  pub lower_falls : {w : ℕ} → w ≡ dropped ∪ x → ones (undecided up w) < n
  lower_falls u =
      rw (u, a)
      (lt_of_lt_of_le
      (count_lt i (undecided up (dropped ∪ atom i)) (undecided up dropped)
      (undecided_shrinks up dropped up (dropped ∪ atom i) subset_refl (record { each = λ j p. has_left dropped (atom i) p })) h
      (λ p. undecided_dropped up (dropped ∪ atom i) p (has_right dropped (atom i) (has_atom i)))) m)

-- a branch has fewer undecided atoms
pub branch_falls : (s : State) {r : State} {i n : ℕ} (b : Bool) → Has (undecided s.up s.dropped) i → r ≡ branch_of s i b
    → ones (undecided s.up s.dropped) ≤ n → ones (undecided r.up r.dropped) < n
branch_falls s true h e l = rw e (raise_falls s.up s.dropped refl h l refl)
branch_falls s false h e l = rw e (lower_falls s.up s.dropped refl h l refl)

-- propagation leaves no more undecided
pub narrowed_le : {K : ℕ → Type 0} {s t : State} → Narrows K s t → ones (undecided t.up t.dropped) ≤ ones (undecided s.up s.dropped)
narrowed_le {s = s} {t = t} n =
    count-le (undecided t.up t.dropped) _ (undecided_shrinks s.up s.dropped t.up t.dropped n.up_grows n.dropped_grows)

-- an undecided atom is decided, and steps are taken: fewer are undecided
pub decided_falls : {K : ℕ → Type 0} (s : State) {r t : State} {i : ℕ} (b : Bool) → Has (undecided s.up s.dropped) i
    → r ≡ branch_of s i b → Narrows K r t
    → ones (undecided t.up t.dropped) < ones (undecided s.up s.dropped)
decided_falls s {r} b h e n = omega (arith, narrowed_le n, less)
  where
    less : ones (undecided r.up r.dropped) < ones (undecided s.up s.dropped)
    less = branch_falls s b h e (omega arith)
