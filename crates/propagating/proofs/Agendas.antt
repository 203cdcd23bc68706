-- The agenda: each step taken makes it lighter, and it grows only where an atom was decided.
use Rattle.propagating.proofs.Prelude.{◌≡◌, refl, sym, subst, ◌∙◌, ℕ, ◌+◌, ◌*◌, ◌^◌, ◌≤◌, ◌<◌, arith, ℕ_discrete, ones, ATOMS, Has, ◌∖◌, some_atom}
use Rattle.propagating.proofs.Prelude.{without_left, without_right, count_proper, counts_small, undecided, Narrows, State, weight, Woken}
use Rattle.states.proofs.HalfDecided.{undecided_shrinks}
use Rattle.propagating.specs.declared.agenda.Agenda.{Agenda}

-- ---- the agenda is empty, or an atom was decided

pub woken_none : (before after : State) (a : Agenda) → Woken before after a (record { rules = 0; supports = 0; others = 0 })
unfolding ones
woken_none before after a = record { no_more = λ e. omega (arith, none) }
  where
    none : ones 0 ≡ 0
    none = refl

-- new atoms are what the state before leaves undecided and the one after does not
pub woken_new : (before after : State) (a r : Agenda) (b c new : ℕ) → b ≡ undecided before.up before.dropped
    → c ≡ undecided after.up after.dropped → new ≡ b ∖ c → ¬ (new ≡ 0) → Woken before after a r
woken_new before after a r b c new e f g n = record {
  no_more = λ same. let k = some_atom new n in absurd (both same k.0 (subst (λ (w : ℕ). Has w k.0) g k.1));
}
  where
    both : undecided after.up after.dropped ≡ undecided before.up before.dropped → (i : ℕ) → Has (b ∖ c) i → ⊥
    both same i h = without_right b c h (subst (λ (w : ℕ). Has w i) (e ∙ sym same ∙ sym f) (without_left b c h))

-- ---- the falling number

-- an agenda has at most three words of steps
weight_small : (a : Agenda) → a.rules < 2 ^ ATOMS → a.supports < 2 ^ ATOMS → a.others < 2 ^ ATOMS → weight a ≤ 192
weight_small a l m n =
    omega (arith, (counts_small a.rules l).0, (counts_small a.supports m).0, (counts_small a.others n).0)

pub propagation_falls : {K : ℕ → Type 0} (s t : State) (a b c : Agenda) → Narrows K s t → weight b < weight a → Woken s t b c
    → c.rules < 2 ^ ATOMS → c.supports < 2 ^ ATOMS → c.others < 2 ^ ATOMS
    → 193 * ones (undecided t.up t.dropped) + weight c < 193 * ones (undecided s.up s.dropped) + weight a
propagation_falls s t a b c n less w l m k =
    go (ℕ_discrete (undecided t.up t.dropped) (undecided s.up s.dropped))
  where
    go : Dec (undecided t.up t.dropped ≡ undecided s.up s.dropped)
        → 193 * ones (undecided t.up t.dropped) + weight c < 193 * ones (undecided s.up s.dropped) + weight a
    go (yes e) = rw e (omega (arith, w.no_more e, less))
    go (no d) =
        let fewer = count_proper (undecided t.up t.dropped) (undecided s.up s.dropped)
        (undecided_shrinks s.up s.dropped t.up t.dropped n.up_grows n.dropped_grows) d in
        omega (arith, fewer, weight_small c l m k)
