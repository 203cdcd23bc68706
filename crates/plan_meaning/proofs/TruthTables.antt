-- The computed answer of a contact table is what its words say: bit k of the row is the k-th lowest input, counted by the list of lower ones.
use Rattle.plan_meaning.proofs.Prelude.{◌≡◌, refl, sym, ap, ◌∙◌, subst, Bool, true, false, ◌↔◌, List, [], ◌∷◌, ◌++◌, ℕ, zero, suc, ◌+◌, ◌^◌, ◌≤◌, ◌<◌}
use Rattle.plan_meaning.proofs.Prelude.{arith, ones, length, length-append, ATOMS, Has, has, ◌⊆◌, ◌∩◌, below, decided_true, decided_false, has_dec}
use Rattle.plan_meaning.proofs.Prelude.{decides_has, has_cut, cut_left, cut_right, has_below, below_lt, has_lt, ext, MAX_INPUTS, place, row}
use Rattle.plan_meaning.proofs.Prelude.{table_answer, KthInput, RowAt, TrueAt}
use Rattle.atoms.specs.Rising.{members}
use Rattle.atoms.proofs.Counts.{count-le, count_lt}
use Rattle.contact_tables.proofs.Places.{place_input, place_other, place_one}
use Rattle.contact_tables.proofs.RowBits.{row_bit}

-- ---- places

-- the place of an atom is how many inputs are lower
place_lower : (w a : ℕ) → length (members (has w) a) ≡ place w a
unfolding place members
place_lower w zero = refl
place_lower w (suc a) = go (has_dec w a) (place_lower w a)
  where
    here : Bool → List ℕ
    here b = elim b [ true ↦ a ∷ [] | false ↦ [] ]

    some : (b : Bool) → has w a ≡ b → length (members (has w) a ++ here (has w a)) ≡ length (members (has w) a) + length (here b)
    some b e = length-append (members (has w) a) (here (has w a)) ∙ ap (λ (x : Bool). length (members (has w) a) + length (here x)) e

    go : Dec (Has w a) → length (members (has w) a) ≡ place w a → length (members (has w) (suc a)) ≡ place w (suc a)
    go (yes h) e = omega (arith, some true (decided_true (decides_has w a) h), place_input w a h)
    go (no h) e = omega (arith, some false (decided_false (decides_has w a) h), place_other w a h)

place_counted : (w a : ℕ) → place w a ≤ ones (w ∩ below a)
unfolding place
place_counted w zero = omega arith
place_counted w (suc a) = go (has_dec w a) (place_counted w a)
  where
    within : w ∩ below a ⊆ w ∩ below (suc a)
    within = record {
      each = λ i h.
          let l : i < a = below_lt a (cut_right w (below a) h) in
          has_cut w (below (suc a)) (cut_left w (below a) h) (has_below (suc a) i (omega arith));
    }

    go : Dec (Has w a) → place w a ≤ ones (w ∩ below a) → place w (suc a) ≤ ones (w ∩ below (suc a))
    go (yes h) l =
        let more = count_lt a (w ∩ below a) (w ∩ below (suc a)) within (has_cut w (below (suc a)) h (has_below (suc a) a (omega arith)))
        (λ k. let q : a < a = below_lt a (cut_right w (below a) k) in absurd (omega arith)) in
        omega (arith, place_input w a h)
    go (no h) l = omega (arith, place_other w a h, count-le (w ∩ below a) (w ∩ below (suc a)) within)

-- an input has one of the first places
place_few : (w a : ℕ) → ones w ≤ MAX_INPUTS → Has w a → place w a < MAX_INPUTS
place_few w a few h =
    let less = count_lt a (w ∩ below a) w (record { each = λ i k. cut_left w (below a) k }) h
    (λ k. let q : a < a = below_lt a (cut_right w (below a) k) in absurd (omega arith)) in
    omega (arith, place_counted w a)

-- ---- rows

module _ (w : ℕ) (fits : w < 2 ^ ATOMS) (few : ones w ≤ MAX_INPUTS) where
  pub row_is_row : (M : ℕ) → RowAt w M (row w M)
  row_is_row M = record { tells = tells; no_others = others }
    where
      tells : (k a : ℕ) → KthInput w k a → Has (row w M) k ↔ Has M a
      tells k a i = (into, back)
        where
          placed : place w a ≡ k
          placed = sym (place_lower w a) ∙ i.lower

          into : Has (row w M) k → Has M a
          into h =
              let u = ((row_bit w M k).0 h).1 in
              subst (Has M) (place_one w u.at a u.input i.input (u.placed ∙ sym placed)) u.is_up

          back : Has M a → Has (row w M) k
          back m =
              (row_bit w M k).1 (
                subst (λ (j : ℕ). j < MAX_INPUTS) placed (place_few w a few i.input),
                record {
                  at = a;
                  at_lt = has_lt w ATOMS fits i.input;
                  input = i.input;
                  is_up = m;
                  placed = placed;
                },
              )

      others : (k : ℕ) → Has (row w M) k → (a : ℕ) × KthInput w k a
      others k h =
          let u = ((row_bit w M k).0 h).1 in
          (u.at, record { input = u.input; lower = place_lower w u.at ∙ u.placed })

  row_only : (M j : ℕ) → RowAt w M j → j ≡ row w M
  row_only M j r =
      let s = row_is_row M in
      ext j (row w M)
      (λ k h. let i = r.no_others k h in (s.tells k i.0 i.1).1 ((r.tells k i.0 i.1).0 h))
      (λ k h. let i = s.no_others k h in (r.tells k i.0 i.1).1 ((s.tells k i.0 i.1).0 h))

  -- the computed answer
  pub answer_true : (truth M : ℕ) → (table_answer w truth M ≡ true) ↔ TrueAt (record { inputs = w; truth = truth }) M
  unfolding table_answer
  answer_true truth M = (
    λ e. record { row = row w M; at = row_is_row M; bit = (decides_has truth (row w M)).yes e },
    λ t. decided_true (decides_has truth (row w M)) (subst (Has truth) (row_only M t.row t.at) t.bit),
  )
