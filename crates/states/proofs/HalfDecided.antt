-- The undecided atoms of a half-decided position.
use Rattle.states.proofs.Prelude.{◌⊎◌, inl, inr, ℕ, ◌<◌, ATOMS, Has, ◌⊆◌, outside, without_left, without_right, has_without, has_outside, outside_lt}
use Rattle.states.proofs.Prelude.{outside_lacks, has_dec, undecided}

-- an atom that is not undecided is up or dropped
pub decided_cases : (up dropped i : ℕ) → i < ATOMS → ¬ Has (undecided up dropped) i → Has up i ⊎ Has dropped i
unfolding undecided
decided_cases up dropped i l h = go (has_dec up i) (has_dec dropped i)
  where
    go : Dec (Has up i) → Dec (Has dropped i) → Has up i ⊎ Has dropped i
    go (yes p) d = inl p
    go (no n) (yes q) = inr q
    go (no n) (no m) = absurd (h (has_without (outside up) dropped (has_outside up l n) m))

pub undecided_up : (up dropped : ℕ) {i : ℕ} → Has (undecided up dropped) i → ¬ Has up i
unfolding undecided
undecided_up up dropped h = outside_lacks up (without_left (outside up) dropped h)

pub undecided_dropped : (up dropped : ℕ) {i : ℕ} → Has (undecided up dropped) i → ¬ Has dropped i
unfolding undecided
undecided_dropped up dropped h = without_right (outside up) dropped h

pub undecided_lt : (up dropped : ℕ) {i : ℕ} → Has (undecided up dropped) i → i < ATOMS
unfolding undecided
undecided_lt up dropped h = outside_lt up (without_left (outside up) dropped h)

pub undecided_intro : (up dropped i : ℕ) → i < ATOMS → ¬ Has up i → ¬ Has dropped i → Has (undecided up dropped) i
unfolding undecided
undecided_intro up dropped i l n m = has_without (outside up) dropped (has_outside up l n) m

-- a larger state leaves no more undecided
pub undecided_shrinks : (up dropped up' dropped' : ℕ) → up ⊆ up' → dropped ⊆ dropped'
    → undecided up' dropped' ⊆ undecided up dropped
undecided_shrinks up dropped up' dropped' f g = record {
  each = λ i h.
      undecided_intro up dropped i (undecided_lt up' dropped' h) (λ p. undecided_up up' dropped' h (f.each i p))
      (λ p. undecided_dropped up' dropped' h (g.each i p));
}
