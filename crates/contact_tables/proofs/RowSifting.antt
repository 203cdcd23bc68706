-- The rows that completions have: input by input, those that say of it what is known.
use Rattle.contact_tables.proofs.Prelude.{◌≡◌, refl, sym, subst, Bool, ◌&&◌, ◌⊎◌, inl, inr, ℕ, suc, ◌+◌, ◌^◌, ◌<◌, ◌≤◌, arith, ATOMS, Has, has, ◌∩◌}
use Rattle.contact_tables.proofs.Prelude.{◌∪◌, ◌∖◌, atom, below, Lowest, word_below, Collects, and-true, decided_true, word_has, word_at, ext, has_dec}
use Rattle.contact_tables.proofs.Prelude.{decides_has, has_lt, has_below, below_lt, has_cut, cut_left, cut_right, lt_of_has, has_without, without_left}
use Rattle.contact_tables.proofs.Prelude.{without_right, has_left, has_right, union_cases, MAX_INPUTS, Completes, half_decided, place, row, RowReached}
use Rattle.contact_tables.proofs.Prelude.{ROWS, BitAgrees}
use Rattle.contact_tables.proofs.Places.{place_one, place_found}
use Rattle.contact_tables.proofs.RowBits.{UpAt, row_bit, row_lt}
use Rattle.contact_tables.proofs.InputWalks.{Walking, walking_start, walking_next, next_input, next_above, next_placed, next_cases, input_done}
use Rattle.contact_tables.proofs.InputWalks.{done_lt}

-- row j says of each input below `top` what is known of it
pub record AgreesBelow (inputs up dropped top j : ℕ) : Type 0 where
  pub small : j < ROWS
  pub each : (a : ℕ) → a < top → Has inputs a → BitAgrees up dropped a (place inputs a) j

-- the inputs below `top` are done, k of them
pub record Sifting (inputs up dropped rows rest k : ℕ) : Type 0 where
  pub top : ℕ
  pub walking : Walking inputs rest k top
  pub kept : Collects (AgreesBelow inputs up dropped top) rows

module _ {inputs up dropped : ℕ} where
  pub sifting_start : {rows : ℕ} → rows ≡ below ATOMS → Sifting inputs up dropped rows inputs 0
  sifting_start e = record {
    top = 0;
    walking = walking_start;
    kept = record {
      each = λ j h. record { small = let l : j < ATOMS = below_lt ATOMS (rw e at h) in omega arith; each = λ a l i. absurd (omega arith) };
      all = λ j k. rw e (has_below ATOMS j (let l : j < ROWS = k.small in omega arith));
    };
  }

  -- one input more
  pub sifting_next : {rows rest k a rows' rest' : ℕ} → Sifting inputs up dropped rows rest k → Lowest rest a → k < MAX_INPUTS
      → Collects (λ j. Has rows j × BitAgrees up dropped a k j) rows' → rest' ≡ rest ∖ atom a → Sifting inputs up dropped rows' rest' (k + 1)
  sifting_next {rows} {k = k} {a} {rows'} s low l c e = record {
    top = suc a;
    walking = walking_next s.walking low l e;
    kept = record { each = keep; all = again };
  }
    where
      placed : place inputs a ≡ k
      placed = next_placed s.walking low

      keep : (j : ℕ) → Has rows' j → AgreesBelow inputs up dropped (suc a) j
      keep j h =
          let both = c.each j h in
          let before = s.kept.each j both.0 in
          record { small = before.small; each = λ i m p. go before both.1 i p (next_cases s.walking low i m p) }
        where
          go : AgreesBelow inputs up dropped s.top j → BitAgrees up dropped a k j → (i : ℕ) → Has inputs i → (i < s.top) ⊎ (a ≡ i)
              → BitAgrees up dropped i (place inputs i) j
          go before new i p (inl q) = before.each i q p
          go before new i p (inr q) =
              subst (λ (x : ℕ). BitAgrees up dropped x (place inputs x) j) q
              (subst (λ (x : ℕ). BitAgrees up dropped a x j) (sym placed) new)

      again : (j : ℕ) → AgreesBelow inputs up dropped (suc a) j → Has rows' j
      again j b =
          let up_there = next_above s.walking low in
          c.all j (
            s.kept.all j (record { small = b.small; each = λ i m p. b.each i (omega arith) p }),
            subst (λ (x : ℕ). BitAgrees up dropped a x j) placed (b.each a (omega arith) (next_input s.walking low)),
          )

  -- ---- when all is done

  module _ {rows rest k : ℕ} (fits : inputs < 2 ^ ATOMS) (s : Sifting inputs up dropped rows rest k)
      (end : (rest ≡ 0) ⊎ (MAX_INPUTS ≤ k)) where
    -- ---- each row that is left is that of a completion

    module _ (j : ℕ) (b : AgreesBelow inputs up dropped s.top j) (small : j < 2 ^ k) where
      -- the inputs that row j has up
      abbrev named : ℕ → Bool
      named a = has inputs a && has j (place inputs a)

      abbrev whole : ℕ
      whole = up ∪ (word_below ATOMS named ∖ dropped)

      whole_completes : Completes (half_decided up dropped) whole
      whole_completes = record {
        has_up = record { each = λ i h. has_left up (word_below ATOMS named ∖ dropped) h };
        no_dropped = record {
          none = λ i d h.
              go i (without_left dropped up d) (without_right dropped up d) (union_cases up (word_below ATOMS named ∖ dropped) h);
        };
      }
        where
          go : (i : ℕ) → Has dropped i → ¬ Has up i → Has up i ⊎ Has (word_below ATOMS named ∖ dropped) i → ⊥
          go i d n (inl u) = n u
          go i d n (inr w) = without_right (word_below ATOMS named) dropped w d

      -- an input is up in it exactly if the row says so
      up_then_bit : (a : ℕ) → a < s.top → Has inputs a → Has whole a → Has j (place inputs a)
      up_then_bit a l h w = go (union_cases up (word_below ATOMS named ∖ dropped) w)
        where
          go : Has up a ⊎ Has (word_below ATOMS named ∖ dropped) a → Has j (place inputs a)
          go (inl u) = (b.each a l h).when_up u
          go (inr n) =
              (decides_has j (place inputs a)).yes
              ((and-true (has inputs a) (has j (place inputs a))).0
              (word_at ATOMS named a (without_left (word_below ATOMS named) dropped n)).1).1

      bit_then_up : (a : ℕ) → a < s.top → Has inputs a → Has j (place inputs a) → Has whole a
      bit_then_up a l h q = go (has_dec up a) (has_dec dropped a)
        where
          go : Dec (Has up a) → Dec (Has dropped a) → Has whole a
          go (yes u) d = has_left up (word_below ATOMS named ∖ dropped) u
          go (no n) (yes d) = absurd ((b.each a l h).when_dropped n d q)
          go (no n) (no m) =
              has_right up (word_below ATOMS named ∖ dropped)
              (has_without (word_below ATOMS named) dropped
              (word_has ATOMS named a (has_lt inputs ATOMS fits h)
              ((and-true (has inputs a) (has j (place inputs a))).1 (
                decided_true (decides_has inputs a) h,
                decided_true (decides_has j (place inputs a)) q,
              )))
              m)

      whole_row : row inputs whole ≡ j
      whole_row = ext (row inputs whole) j there back
        where
          there : (i : ℕ) → Has (row inputs whole) i → Has j i
          there i h = let r = (row_bit inputs whole i).0 h in go r.0 r.1 (input_done s.walking end r.1.at r.1.input)
            where
              go : i < MAX_INPUTS → (u : UpAt inputs whole i) → (u.at < s.top) ⊎ (MAX_INPUTS ≤ place inputs u.at) → Has j i
              go l u (inl m) = subst (λ (x : ℕ). Has j x) u.placed (up_then_bit u.at m u.input u.is_up)
              go l u (inr m) = let e = u.placed in absurd (omega arith)

          back : (i : ℕ) → Has j i → Has (row inputs whole) i
          back i h =
              let l : i < k = has_lt j k small h in
              let few = s.walking.few in
              let f = place_found inputs s.top i (let e = s.walking.done in omega arith) in
              (row_bit inputs whole i).1 (
                omega arith,
                record {
                  at = f.0;
                  at_lt = has_lt inputs ATOMS fits f.2;
                  input = f.2;
                  is_up = bit_then_up f.0 f.1 f.2 (subst (λ (x : ℕ). Has j x) (sym f.3) h);
                  placed = f.3;
                },
              )

      pub row_reached : RowReached inputs up dropped j
      row_reached = record { position = whole; completes = whole_completes; is = whole_row }

    -- ---- and each completion's row is left

    module _ (N : ℕ) (c : Completes (half_decided up dropped) N) where
      row_small : row inputs N < 2 ^ k
      row_small =
          lt_of_has (row inputs N) k
          (λ i h. let r = (row_bit inputs N i).0 h in go i r.0 r.1 (input_done s.walking end r.1.at r.1.input))
        where
          go : (i : ℕ) → i < MAX_INPUTS → (u : UpAt inputs N i) → (u.at < s.top) ⊎ (MAX_INPUTS ≤ place inputs u.at) → i < k
          go i l u (inl m) = let e = u.placed in let n = done_lt s.walking u.at m u.input in omega arith
          go i l u (inr m) = let e = u.placed in absurd (omega arith)

      row_agrees : AgreesBelow inputs up dropped s.top (row inputs N)
      row_agrees = record {
        small = row_lt inputs N;
        each = λ a l h. record {
          when_up = λ u.
              let m = done_lt s.walking a l h in
              let few = s.walking.few in
              (row_bit inputs N (place inputs a)).1 (
                omega arith,
                record {
                  at = a;
                  at_lt = has_lt inputs ATOMS fits h;
                  input = h;
                  is_up = c.has_up.each a u;
                  placed = refl;
                },
              );
          when_dropped = λ n d q.
              let r = ((row_bit inputs N (place inputs a)).0 q).1 in
              c.no_dropped.none a (has_without dropped up d n)
              (subst (λ (x : ℕ). Has N x) (place_one inputs r.at a r.input h r.placed) r.is_up);
        };
      }

    -- so the rows that are left, cut to those the inputs have, are those of the completions
    pub sifting_end : {final : ℕ} → final ≡ rows ∩ below (2 ^ k) → Collects (RowReached inputs up dropped) final
    sifting_end {final} e = record {
      each = λ j h.
          let q = rw e at h in
          row_reached j (s.kept.each j (cut_left rows (below (2 ^ k)) q)) (below_lt (2 ^ k) (cut_right rows (below (2 ^ k)) q));
      all = λ j r.
          subst (λ (x : ℕ). Has final x) r.is
          (rw e
          (has_cut rows (below (2 ^ k)) (s.kept.all (row inputs r.position) (row_agrees r.position r.completes))
          (has_below (2 ^ k) (row inputs r.position) (row_small r.position r.completes))));
    }
