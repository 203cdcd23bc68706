-- Words from two to the power of n on: those of UNITs that name a rule that is not there, and of TABLEs with a bit behind the last row.
use Rattle.reading.proofs.Prelude.{◌≡◌, ap, ◌∙◌, subst, ℕ, suc, ◌^◌, ◌≤◌, ◌<◌, arith, dec_lt, ltb, leb, suc_ones, Has, ◌∖◌, below, has_without}
use Rattle.reading.proofs.Prelude.{has_below, has_none, without_left, without_right, below_lt, lt_of_has, some_atom}

-- a word above all those with atoms below n is one from 2 ^ n on
pub absent_above_below : (n m word : ℕ) → m ≡ below n → ltb m word ≡ leb (2 ^ n) word
unfolding below
absent_above_below n m word e = ap (λ (x : ℕ). leb (suc x) word) e ∙ ap (λ (x : ℕ). leb x word) (suc_ones n)

-- a word from 2 ^ n on has an atom from n on
pub atom_from : (n w : ℕ) → 2 ^ n ≤ w → (i : ℕ) × Has w i × (n ≤ i)
atom_from n w h =
    let above = some_atom (w ∖ below n) (λ e. omega (arith, lt_of_has w n (λ i p. within e i p (dec_lt i n)))) in (
      above.0,
      without_left w (below n) above.1,
      not-below above.0 (without_right w (below n) above.1) (dec_lt above.0 n),
    )
  where
    within : w ∖ below n ≡ 0 → (i : ℕ) → Has w i → Dec (i < n) → i < n
    within e i p (yes l) = l
    within e i p (no l) = absurd (has_none (subst (λ (x : ℕ). Has x i) e (has_without w (below n) p (λ b. l (below_lt n b)))))

    not-below : (i : ℕ) → ¬ Has (below n) i → Dec (i < n) → n ≤ i
    not-below i p (yes l) = absurd (p (has_below n i l))
    not-below i p (no l) = omega arith
