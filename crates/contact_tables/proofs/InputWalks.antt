-- The inputs of a table gone through from the lowest on, at most as many as a row has bits.
use Rattle.contact_tables.proofs.Prelude.{◌≡◌, refl, sym, ap, ◌∙◌, subst, ◌⊎◌, inl, inr, ℕ, suc, ◌+◌, ◌<◌, ◌≤◌, ℕ_discrete, dec_lt, arith, Has, ◌∖◌}
use Rattle.contact_tables.proofs.Prelude.{atom, below, Lowest, ext, has_below, below_lt, has_none, has_without, without_left, without_right, has_atom}
use Rattle.contact_tables.proofs.Prelude.{atom_only, MAX_INPUTS, place}
use Rattle.contact_tables.proofs.Places.{place_input, place_le, place_lt, place_gap}

-- the inputs below `top` are done, k of them
pub record Walking (inputs rest k top : ℕ) : Type 0 where
  pub left : rest ≡ inputs ∖ below top
  pub done : place inputs top ≡ k
  pub few : k ≤ MAX_INPUTS

pub walking_start : {inputs : ℕ} → Walking inputs inputs 0 0
unfolding place
walking_start {inputs} = record {
  left = ext inputs (inputs ∖ below 0) (λ i h. has_without inputs (below 0) h (λ b. let l : i < 0 = below_lt 0 b in omega arith))
      (λ i h. without_left inputs (below 0) h);
  done = refl;
  few = omega arith;
}

module _ {inputs rest k top a : ℕ} (w : Walking inputs rest k top) (low : Lowest rest a) where
  -- the lowest input that is left
  at_left : Has (inputs ∖ below top) a
  at_left = rw w.left at low.here

  pub next_input : Has inputs a
  next_input = without_left inputs (below top) at_left

  pub next_above : top ≤ a
  next_above = go (dec_lt a top)
    where
      go : Dec (a < top) → top ≤ a
      go (yes l) = absurd (without_right inputs (below top) at_left (has_below top a l))
      go (no n) = omega arith

  pub next_gap : (i : ℕ) → top ≤ i → i < a → ¬ Has inputs i
  next_gap i l m h =
      low.least i m (rw w.left (has_without inputs (below top) h (λ b. let n : i < top = below_lt top b in omega arith)))

  pub next_placed : place inputs a ≡ k
  next_placed = place_gap inputs top a next_above next_gap ∙ w.done

  -- one input more
  pub walking_next : {rest' : ℕ} → k < MAX_INPUTS → rest' ≡ rest ∖ atom a → Walking inputs rest' (k + 1) (suc a)
  walking_next l e = record {
    left = e ∙ ext (rest ∖ atom a) (inputs ∖ below (suc a)) fewer back;
    done = place_input inputs a next_input ∙ ap (λ (n : ℕ). n + 1) next_placed;
    few = omega arith;
  }
    where
      fewer : (i : ℕ) → Has (rest ∖ atom a) i → Has (inputs ∖ below (suc a)) i
      fewer i h =
          let here = rw w.left at (without_left rest (atom a) h) in
          has_without inputs (below (suc a)) (without_left inputs (below top) here)
          (λ b. let n : i < suc a = below_lt (suc a) b in go n (ℕ_discrete a i) (dec_lt i a))
        where
          go : i < suc a → Dec (a ≡ i) → Dec (i < a) → ⊥
          go n (yes q) d = without_right rest (atom a) h (subst (λ (x : ℕ). Has (atom a) x) q (has_atom a))
          go n (no q) (yes m) = low.least i m (without_left rest (atom a) h)
          go n (no q) (no m) = omega arith

      back : (i : ℕ) → Has (inputs ∖ below (suc a)) i → Has (rest ∖ atom a) i
      back i h =
          let far : ¬ (i < suc a) = λ m. without_right inputs (below (suc a)) h (has_below (suc a) i m) in
          let up_there = next_above in
          has_without rest (atom a)
          (rw w.left
          (has_without inputs (below top) (without_left inputs (below (suc a)) h) (λ b. let m : i < top = below_lt top b in far (omega arith))))
          (λ b. let q : a ≡ i = atom_only a b in far (omega arith))

  -- an input below the next top is one that was done, or this one
  pub next_cases : (i : ℕ) → i < suc a → Has inputs i → (i < top) ⊎ (a ≡ i)
  next_cases i m p = go (dec_lt i top) (ℕ_discrete a i)
    where
      go : Dec (i < top) → Dec (a ≡ i) → (i < top) ⊎ (a ≡ i)
      go (yes q) d = inl q
      go (no n) (yes q) = inr q
      go (no n) (no q) = absurd (next_gap i (omega arith) (omega arith) p)

-- where the walk stops no input is left, or a row has no bit more; n bits were left
pub walk_stops : {rest rest' k n : ℕ} → (0 < n → (rest ≡ 0) × (rest' ≡ 0)) → k + n ≡ MAX_INPUTS → (rest ≡ 0) ⊎ (MAX_INPUTS ≤ k)
walk_stops {rest} {k = k} {n} f e = go (dec_lt 0 n)
  where
    go : Dec (0 < n) → (rest ≡ 0) ⊎ (MAX_INPUTS ≤ k)
    go (yes l) = inl (f l).0
    go (no m) = inr (omega arith)

-- at the end an input is done, or its place is none of a row
module _ {inputs rest k top : ℕ} (w : Walking inputs rest k top) (end : (rest ≡ 0) ⊎ (MAX_INPUTS ≤ k)) where
  pub input_done : (a : ℕ) → Has inputs a → (a < top) ⊎ (MAX_INPUTS ≤ place inputs a)
  input_done a h = go (dec_lt a top) end
    where
      go : Dec (a < top) → (rest ≡ 0) ⊎ (MAX_INPUTS ≤ k) → (a < top) ⊎ (MAX_INPUTS ≤ place inputs a)
      go (yes l) d = inl l
      go (no n) (inl z) =
          absurd (has_none (rw (sym w.left ∙ z) at (has_without inputs (below top) h (λ b. n (below_lt top b)))))
      go (no n) (inr m) = let l = place_le inputs top a (omega arith) in let e = w.done in inr (omega arith)

-- a place below that of the end is one of a row's
pub done_lt : {inputs rest k top : ℕ} → Walking inputs rest k top → (a : ℕ) → a < top → Has inputs a → place inputs a < k
done_lt {inputs} {top = top} w a l h = let m = place_lt inputs a top h l in let e = w.done in omega arith
