-- What rows tell of the inputs of a table: input by input, those that each of the rows has up and those that none has.
use Rattle.contact_tables.proofs.Prelude.{◌≡◌, refl, sym, subst, Bool, ◌⊎◌, inl, inr, ℕ, suc, ◌+◌, ◌^◌, ◌≤◌, ◌<◌, arith, ATOMS, Has}
use Rattle.contact_tables.proofs.Prelude.{subset, apart, ◌∪◌, ◌∖◌, atom, Lowest, Decides, single_if, Collects, decided_true, decides_iff, has_lt}
use Rattle.contact_tables.proofs.Prelude.{has_none, decides_apart, decides_subset, single_if_has, single_if_at, collects_iff, collects_has}
use Rattle.contact_tables.proofs.Prelude.{collects_union, MAX_INPUTS, Completes, place, row, InColumn, EachRow, NoRow}
use Rattle.states.specs.declared.state.State.{State}
use Rattle.contact_tables.proofs.Places.{place_one}
use Rattle.contact_tables.proofs.RowBits.{row_bit}
use Rattle.contact_tables.proofs.InputWalks.{Walking, walking_start, walking_next, next_input, next_above, next_placed, next_cases, input_done}

-- a is below `top`, and K holds of it
pub record Below (K : ℕ → Type 0) (top a : ℕ) : Type 0 where
  pub lower : a < top
  pub holds : K a

-- the inputs below `top` are done, k of them: those that each of the rows has are up, those that none has are dropped
pub record Telling (inputs rows rest k up dropped : ℕ) : Type 0 where
  pub top : ℕ
  pub walking : Walking inputs rest k top
  pub is_up : Collects (Below (EachRow inputs rows) top) up
  pub is_dropped : Collects (Below (NoRow inputs rows) top) dropped

nothing_below : {K : ℕ → Type 0} → Collects (Below K 0) 0
nothing_below = record { each = λ a h. absurd (has_none h); all = λ a b. absurd (let l = b.lower in omega arith) }

pub telling_start : (inputs rows : ℕ) → Telling inputs rows inputs 0 0 0
telling_start inputs rows = record { top = 0; walking = walking_start; is_up = nothing_below; is_dropped = nothing_below }

-- ---- one input more

-- a word that gathers the inputs of which K holds
gathers_next : {K : ℕ → Type 0} {inputs rest k top a word also r : ℕ} {b : Bool} → Walking inputs rest k top → Lowest rest a
    → ((i : ℕ) → K i → Has inputs i) → Collects (Below K top) word → Decides (K a) b → also ≡ single_if b a → r ≡ word ∪ also
    → Collects (Below K (suc a)) r
gathers_next {K} {top = top} {a} {also = also} {b = b} w low input c d e f = rw f (collects_iff into from (collects_union c (collects_has also)))
  where
    into : (i : ℕ) → Below K top i ⊎ Has also i → Below K (suc a) i
    into i (inl k) = record { lower = let l = k.lower in let m = next_above w low in omega arith; holds = k.holds }
    into i (inr h) =
        let k = single_if_at b a (rw e at h) in
        subst (Below K (suc a)) k.1 (record { lower = omega arith; holds = d.yes k.0 })

    from : (i : ℕ) → Below K (suc a) i → Below K top i ⊎ Has also i
    from i k = go (next_cases w low i k.lower (input i k.holds))
      where
        go : (i < top) ⊎ (a ≡ i) → Below K top i ⊎ Has also i
        go (inl l) = inl (record { lower = l; holds = k.holds })
        go (inr q) = inr (rw e (subst (Has (single_if b a)) q (single_if_has b a (decided_true d (subst K (sym q) k.holds)))))

module _ {inputs rows rest k up dropped a column : ℕ} (fits : rows < 2 ^ ATOMS) (t : Telling inputs rows rest k up dropped) (low : Lowest rest a)
    (few : k < MAX_INPUTS) (c : Collects (InColumn k) column) where
  -- the column has the rows in which the input is up
  bit_here : (j : ℕ) → Has column j → Has j (place inputs a)
  bit_here j h = rw (next_placed t.walking low) (c.each j h).bit

  here_bit : (j : ℕ) → Has rows j → Has j (place inputs a) → Has column j
  here_bit j h b =
      c.all j (record { row_lt = let l : j < ATOMS = has_lt rows ATOMS fits h in omega arith; bit = rw (next_placed t.walking low) at b })

  place_small : place inputs a < MAX_INPUTS
  place_small = rw (next_placed t.walking low) few

  each_decided : Decides (EachRow inputs rows a) (subset rows column)
  each_decided =
      decides_iff
      (λ s. record { input = next_input t.walking low; place_lt = place_small; each = λ j h. bit_here j (s.each j h) })
      (λ r. record { each = λ j h. here_bit j h (r.each j h) })
      (decides_subset rows column)

  none_decided : Decides (NoRow inputs rows a) (apart rows column)
  none_decided =
      decides_iff
      (λ s. record { input = next_input t.walking low; place_lt = place_small; none = λ j h b. s.none j h (here_bit j h b) })
      (λ r. record { none = λ j h q. r.none j h (bit_here j q) })
      (decides_apart rows column)

  pub telling_next : {also beside up' dropped' rest' : ℕ} {b d : Bool} → b ≡ subset rows column → also ≡ single_if b a → up' ≡ up ∪ also
      → d ≡ apart rows column → beside ≡ single_if d a → dropped' ≡ dropped ∪ beside → rest' ≡ rest ∖ atom a
      → Telling inputs rows rest' (k + 1) up' dropped'
  telling_next e f g e' f' g' h = record {
    top = suc a;
    walking = walking_next t.walking low few h;
    is_up = gathers_next t.walking low (λ i r. r.input) t.is_up each_decided (rw e at f) g;
    is_dropped = gathers_next t.walking low (λ i r. r.input) t.is_dropped none_decided (rw e' at f') g';
  }

-- ---- when all is done

gathers_end : {K : ℕ → Type 0} {inputs rest k top word : ℕ} → Walking inputs rest k top → (rest ≡ 0) ⊎ (MAX_INPUTS ≤ k)
    → ((i : ℕ) → K i → Has inputs i) → ((i : ℕ) → K i → place inputs i < MAX_INPUTS) → Collects (Below K top) word → Collects K word
gathers_end {K} {inputs} {top = top} w end input small c =
    collects_iff (λ i b. b.holds) (λ i k. go i k (input_done w end i (input i k))) c
  where
    go : (i : ℕ) → K i → (i < top) ⊎ (MAX_INPUTS ≤ place inputs i) → Below K top i
    go i k (inl l) = record { lower = l; holds = k }
    go i k (inr m) = absurd (let l = small i k in omega arith)

module _ {inputs rows rest k up dropped : ℕ} (t : Telling inputs rows rest k up dropped) (end : (rest ≡ 0) ⊎ (MAX_INPUTS ≤ k)) where
  pub told_up : Collects (EachRow inputs rows) up
  told_up = gathers_end t.walking end (λ i r. r.input) (λ i r. r.place_lt) t.is_up

  pub told_dropped : Collects (NoRow inputs rows) dropped
  told_dropped = gathers_end t.walking end (λ i r. r.input) (λ i r. r.place_lt) t.is_dropped

-- ---- who has one of the rows completes what they tell

pub told_completes : {inputs rows M : ℕ} {t : State} → inputs < 2 ^ ATOMS → Collects (EachRow inputs rows) t.up
    → Collects (NoRow inputs rows) t.dropped → Has rows (row inputs M) → Completes t M
told_completes {inputs} {rows} {M} fits u d h = record {
  has_up = record { each = λ a k. up_there a (u.each a k) };
  no_dropped = record { none = λ a k m. not_there a (d.each a k) m };
}
  where
    up_there : (a : ℕ) → EachRow inputs rows a → Has M a
    up_there a r =
        let b = ((row_bit inputs M (place inputs a)).0 (r.each (row inputs M) h)).1 in
        subst (Has M) (place_one inputs b.at a b.input r.input b.placed) b.is_up

    not_there : (a : ℕ) → NoRow inputs rows a → Has M a → ⊥
    not_there a r m =
        r.none (row inputs M) h
        ((row_bit inputs M (place inputs a)).1 (
          r.place_lt,
          record { at = a; at_lt = has_lt inputs ATOMS fits r.input; input = r.input; is_up = m; placed = refl },
        ))
