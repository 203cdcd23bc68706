-- Half blocks exchanged: one law for every size, and what all six rounds come to.
use Rattle.relay_rows.proofs.Prelude.{◌≡◌, refl, sym, ap, ◌∙◌, subst, Bool, true, false, not, ◌↔◌, ◌⊎◌, inl, inr, List, ℕ, suc, ◌+◌, ◌-◌, ◌*◌, ◌/◌}
use Rattle.relay_rows.proofs.Prelude.{◌%◌, ◌^◌, ◌≤◌, ◌<◌, arith, dec_lt, ℕ_discrete, get_or, and_shifted, shl_exact, shl-shr, pow_mono, pow_pos, pow-suc}
use Rattle.relay_rows.proofs.Prelude.{ATOMS, Has, has, apart, ◌∩◌, ◌∪◌, ◌∖◌, ◌⊆◌, atom, below, all_below, decided_true, decided_false, not_both, ext}
use Rattle.relay_rows.proofs.Prelude.{has_lt, lt_of_has, decides_has, has_dec, has_cut, cut_left, cut_right, has_left, has_right, union_cases}
use Rattle.relay_rows.proofs.Prelude.{has_without, without_left, without_right, has_atom, atom_only, has_below, below_lt, apart_of_cut, subset_le}
use Rattle.relay_rows.proofs.Prelude.{word_has, word_at, all-at, FilledColumns, swapped, mixed, exchanged_word, Halved, Alternates, Exchangeable}
use Rattle.relay_rows.proofs.Prelude.{Crossed}
use Rattle.atoms.proofs.Singles.{lacks_of_test, has_of_test}
use Rattle.atoms.proofs.Digits.{shifted_digit}

both : {A B C : Type 0} → A ↔ B → B ↔ C → A ↔ C
both f g = (λ a. g.0 (f.0 a), λ c. f.1 (g.1 c))

back : {A B : Type 0} → A ↔ B → B ↔ A
back f = (f.1, f.0)

-- ---- the bits of a place

module _ (e k c : ℕ) where
  swapped_here : Has (swapped e k c) e ↔ Has c e
  unfolding swapped
  swapped_here =
      (λ h. go (union_cases (k ∖ atom e) (c ∩ atom e) h), λ h. has_right (k ∖ atom e) (c ∩ atom e) (has_cut c (atom e) h (has_atom e)))
    where
      go : Has (k ∖ atom e) e ⊎ Has (c ∩ atom e) e → Has c e
      go (inl x) = absurd (without_right k (atom e) x (has_atom e))
      go (inr x) = cut_left c (atom e) x

  swapped_other : (i : ℕ) → ¬ (i ≡ e) → Has (swapped e k c) i ↔ Has k i
  unfolding swapped
  swapped_other i d = (
    λ h. go (union_cases (k ∖ atom e) (c ∩ atom e) h),
    λ h. has_left (k ∖ atom e) (c ∩ atom e) (has_without k (atom e) h (λ x. d (sym (atom_only e x)))),
  )
    where
      go : Has (k ∖ atom e) i ⊎ Has (c ∩ atom e) i → Has k i
      go (inl x) = without_left k (atom e) x
      go (inr x) = absurd (d (sym (atom_only e (cut_right c (atom e) x))))

  mixed_low : (i : ℕ) → i < e → Has (mixed e k c) i ↔ Has k i
  unfolding mixed
  mixed_low i l =
      (λ h. go (union_cases (c ∖ below e) (k ∩ below e) h), λ h. has_right (c ∖ below e) (k ∩ below e) (has_cut k (below e) h (has_below e i l)))
    where
      go : Has (c ∖ below e) i ⊎ Has (k ∩ below e) i → Has k i
      go (inl x) = absurd (without_right c (below e) x (has_below e i l))
      go (inr x) = cut_left k (below e) x

  mixed_high : (i : ℕ) → e ≤ i → Has (mixed e k c) i ↔ Has c i
  unfolding mixed
  mixed_high i l = (
    λ h. go (union_cases (c ∖ below e) (k ∩ below e) h),
    λ h. has_left (c ∖ below e) (k ∩ below e) (has_without c (below e) h (λ x. omega (arith, below_lt e x))),
  )
    where
      go : Has (c ∖ below e) i ⊎ Has (k ∩ below e) i → Has c i
      go (inl x) = without_left c (below e) x
      go (inr x) = absurd (omega (arith, below_lt e (cut_right k (below e) x)))

same : (a b : ℕ) → ((i : ℕ) → Has a i ↔ Has b i) → a ≡ b
same a b h = ext a b (λ i x. (h i).0 x) (λ i x. (h i).1 x)

-- one round more: what was mixed from e + 1 on is mixed from e on
pub mixed_step : (e k c : ℕ) → mixed (suc e) (swapped e k c) (swapped e c k) ≡ mixed e k c
mixed_step e k c = same _ _ (λ i. go i (dec_lt i e) (ℕ_discrete i e))
  where
    go : (i : ℕ) → Dec (i < e) → Dec (i ≡ e) → Has (mixed (suc e) (swapped e k c) (swapped e c k)) i ↔ Has (mixed e k c) i
    go i (yes l) d =
        both (mixed_low (suc e) (swapped e k c) (swapped e c k) i (omega arith))
        (both (swapped_other e k c i (λ q. omega arith)) (back (mixed_low e k c i l)))
    go i (no l) (yes q) =
        subst (λ (x : ℕ). Has (mixed (suc e) (swapped e k c) (swapped e c k)) x ↔ Has (mixed e k c) x) (sym q)
        (both (mixed_low (suc e) (swapped e k c) (swapped e c k) e (omega arith)) (both (swapped_here e k c) (back (mixed_high e k c e (omega arith)))))
    go i (no l) (no q) =
        both (mixed_high (suc e) (swapped e k c) (swapped e c k) i (omega arith))
        (both (swapped_other e c k i q) (back (mixed_high e k c i (omega arith))))

pub mixed_none : (k c : ℕ) → mixed 0 k c ≡ c
mixed_none k c = same _ _ (λ i. mixed_high 0 k c i (omega arith))

pub mixed_all : (k c : ℕ) → k < ATOMS → c < ATOMS → mixed 6 k c ≡ k
mixed_all k c lk lc = same _ _ (λ i. go i (dec_lt i 6))
  where
    go : (i : ℕ) → Dec (i < 6) → Has (mixed 6 k c) i ↔ Has k i
    go i (yes l) = mixed_low 6 k c i l
    go i (no l) =
        both (mixed_high 6 k c i (omega arith))
        (λ h. absurd (l (has_lt c 6 (omega arith) h)), λ h. absurd (l (has_lt k 6 (omega arith) h)))

pub swapped_lt : (e k c : ℕ) → e < 6 → k < ATOMS → swapped e k c < ATOMS
swapped_lt e k c l lk = omega (arith, lt_of_has (swapped e k c) 6 (λ i h. go i h (ℕ_discrete i e)))
  where
    go : (i : ℕ) → Has (swapped e k c) i → Dec (i ≡ e) → i < 6
    go i h (yes q) = omega arith
    go i h (no q) = has_lt k 6 (omega arith) ((swapped_other e k c i q).0 h)

-- ---- the rounds

pub halved_start : (block : List ℕ) → Halved 6 block block
halved_start block =
    record {
      bits = λ k c lk lc.
          let a = mixed_all k c lk lc in
          let b = mixed_all c k lc lk in
          rw (a, b) (λ h. h, λ h. h);
    }

exchanged_bit : (e : ℕ) (block : List ℕ) (k c : ℕ) → c < ATOMS
    → Has (exchanged_word e block k) c ↔ Has (get_or block (swapped e k c) 0) (swapped e c k)
unfolding exchanged_word
exchanged_bit e block k c l = (
  λ h. (decides_has _ _).yes (word_at ATOMS (λ b. has (get_or block (swapped e k b) 0) (swapped e b k)) c h).1,
  λ h. word_has ATOMS (λ b. has (get_or block (swapped e k b) 0) (swapped e b k)) c l (decided_true (decides_has _ _) h),
)

pub halved_step : (e : ℕ) {block mid after : List ℕ} → e < 6 → Halved (suc e) block mid
    → ((k : ℕ) → k < ATOMS → get_or after k 0 ≡ exchanged_word e mid k) → Halved e block after
halved_step e {block} {mid} {after} l h words =
    record {
      bits = λ k c lk lc.
          let b = h.bits (swapped e k c) (swapped e c k) (swapped_lt e k c l lk) (swapped_lt e c k l lc) in
          let x = exchanged_bit e mid k c lc in
          rw (words k lk) (both x (rw (mixed_step e k c, mixed_step e c k) at b));
    }

pub halved_end : {block after : List ℕ} → Halved 0 block after → (k c : ℕ) → k < ATOMS → c < ATOMS → Has (get_or after k 0) c ↔ Has (get_or block c 0) k
halved_end h k c lk lc = rw (mixed_none k c, mixed_none c k) at (h.bits k c lk lc)

-- ---- one atom more or less, as a number

atom_within : (c e : ℕ) → Has c e → atom e ⊆ c
atom_within c e h = record { each = λ i x. subst (λ (j : ℕ). Has c j) (atom_only e x) h }

cut_atom : (c e : ℕ) → Has c e → c ∩ atom e ≡ atom e
cut_atom c e h = ext _ _ (λ i x. cut_right c (atom e) x) (λ i x. has_cut c (atom e) ((atom_within c e h).each i x) x)

pub less_atom : (c e : ℕ) → Has c e → (c ∖ atom e) + atom e ≡ c
unfolding ◌∖◌ ◌∩◌
less_atom c e h = omega (arith, cut_atom c e h, subset_le (atom_within c e h))

pub more_atom : (b e : ℕ) → ¬ Has b e → b + atom e ≡ b ∪ atom e
more_atom b e d = ap (λ (x : ℕ). x + atom e) (sym gone) ∙ less_atom (b ∪ atom e) e (has_right b (atom e) (has_atom e))
  where
    left : (i : ℕ) → ¬ Has (atom e) i → Has b i ⊎ Has (atom e) i → Has b i
    left i no_atom (inl x) = x
    left i no_atom (inr x) = absurd (no_atom x)

    gone : (b ∪ atom e) ∖ atom e ≡ b
    gone =
        ext _ _ (λ i x. left i (without_right (b ∪ atom e) (atom e) x) (union_cases b (atom e) (without_left (b ∪ atom e) (atom e) x)))
        (λ i x. has_without (b ∪ atom e) (atom e) (has_left b (atom e) x) (λ y. d (subst (λ (j : ℕ). Has b j) (sym (atom_only e y)) x)))

-- ---- where a bit comes from

module _ (e k c : ℕ) where
  swapped_alike : (Has k e ↔ Has c e) → swapped e k c ≡ k
  swapped_alike a = same _ _ (λ i. go i (ℕ_discrete i e))
    where
      go : (i : ℕ) → Dec (i ≡ e) → Has (swapped e k c) i ↔ Has k i
      go i (yes q) = subst (λ (x : ℕ). Has (swapped e k c) x ↔ Has k x) (sym q) (both (swapped_here e k c) (back a))
      go i (no q) = swapped_other e k c i q

  swapped_up : ¬ Has k e → Has c e → swapped e k c ≡ k ∪ atom e
  swapped_up dk hc = same _ _ (λ i. go i (ℕ_discrete i e))
    where
      old : (i : ℕ) → ¬ (i ≡ e) → Has k i ⊎ Has (atom e) i → Has k i
      old i q (inl x) = x
      old i q (inr x) = absurd (q (sym (atom_only e x)))

      go : (i : ℕ) → Dec (i ≡ e) → Has (swapped e k c) i ↔ Has (k ∪ atom e) i
      go i (yes q) =
          subst (λ (x : ℕ). Has (swapped e k c) x ↔ Has (k ∪ atom e) x) (sym q)
          (λ h. has_right k (atom e) (has_atom e), λ h. (swapped_here e k c).1 hc)
      go i (no q) =
          both (swapped_other e k c i q) (λ h. has_left k (atom e) h, λ h. old i q (union_cases k (atom e) h))

  swapped_down : Has k e → ¬ Has c e → swapped e k c ≡ k ∖ atom e
  swapped_down hk dc = same _ _ (λ i. go i (ℕ_discrete i e))
    where
      go : (i : ℕ) → Dec (i ≡ e) → Has (swapped e k c) i ↔ Has (k ∖ atom e) i
      go i (yes q) =
          subst (λ (x : ℕ). Has (swapped e k c) x ↔ Has (k ∖ atom e) x) (sym q)
          (λ h. absurd (dc ((swapped_here e k c).0 h)), λ h. absurd (without_right k (atom e) h (has_atom e)))
      go i (no q) =
          both (swapped_other e k c i q) (λ h. has_without k (atom e) h (λ x. q (sym (atom_only e x))), λ h. without_left k (atom e) h)

-- ---- shifted words

right_has : (x n c : ℕ) → Has (x / 2 ^ n) c ↔ Has x (n + c)
right_has x n c =
    (λ h. record { bit = sym (shifted_digit x n c) ∙ h.bit }, λ h. record { bit = shifted_digit x n c ∙ h.bit })

left_has : (x n i : ℕ) → Has (x * 2 ^ n) (n + i) ↔ Has x i
left_has x n i = both (back (right_has (x * 2 ^ n) n i)) (rw (shl-shr x n) (λ h. h, λ h. h))

left_low : (x n c : ℕ) → c < n → ¬ Has (x * 2 ^ n) c
unfolding ◌∩◌ atom
left_low x n c l h =
    let more : 2 ^ suc c ≤ 2 ^ n = pow_mono (omega arith) in
    let small : 2 ^ c < 2 ^ n = omega (arith, pow-suc 2 c, pow_pos c) in
    (apart_of_cut (x * 2 ^ n) (atom c) (and_shifted x n (2 ^ c) small)).none c h (has_atom c)

left_from : (x n c : ℕ) → Has (x * 2 ^ n) c → (n ≤ c) × Has x (c - n)
left_from x n c h = go (dec_lt c n)
  where
    go : Dec (c < n) → (n ≤ c) × Has x (c - n)
    go (yes l) = absurd (left_low x n c l h)
    go (no l) =
        let e : c ≡ n + (c - n) = omega arith in
        (omega arith, (left_has x n (c - n)).0 (subst (λ (j : ℕ). Has (x * 2 ^ n) j) e h))

-- ---- the rows across

pub up_lt : (e k : ℕ) → e < 6 → k < ATOMS → k ∪ atom e < ATOMS
up_lt e k l lk = omega (arith, lt_of_has (k ∪ atom e) 6 (λ i h. go i (union_cases k (atom e) h)))
  where
    go : (i : ℕ) → Has k i ⊎ Has (atom e) i → i < 6
    go i (inl x) = has_lt k 6 (omega arith) x
    go i (inr x) = let q : e ≡ i = atom_only e x in omega arith

pub down_lt : (e k : ℕ) → k < ATOMS → k ∖ atom e < ATOMS
unfolding ◌∖◌
down_lt e k l = omega arith

pub half_lt : {e half : ℕ} → e < 6 → half ≡ atom e → half < ATOMS
unfolding atom
half_lt {e} l q = let m : suc e ≤ 6 = omega arith in omega (arith, pow_mono {j = 6} m, pow-suc 2 e, pow_pos e)

-- ---- one round, row by row

exchanged_lt : (e : ℕ) (block : List ℕ) (k c : ℕ) → Has (exchanged_word e block k) c → c < ATOMS
unfolding exchanged_word
exchanged_lt e block k c h = (word_at ATOMS (λ b. has (get_or block (swapped e k b) 0) (swapped e b k)) c h).0

moved : {x y i j : ℕ} → x ≡ y → i ≡ j → Has x i → Has y j
moved {x} {y} {i} {j} p q h = subst (λ (a : ℕ). Has a j) p (subst (λ (b : ℕ). Has x b) q h)

module _ {e mask half : ℕ} (alt : Alternates e mask) (is-half : half ≡ atom e) (block : List ℕ) (k : ℕ) where
  -- a bit from block (r, b) is one of word k
  into : (c r b : ℕ) → c < ATOMS → swapped e k c ≡ r → swapped e c k ≡ b → Has (get_or block r 0) b → Has (exchanged_word e block k) c
  into c r b l p q h = (exchanged_bit e block k c l).1 (moved (ap (λ (x : ℕ). get_or block x 0) (sym p)) (sym q) h)

  from : (c r b : ℕ) → swapped e k c ≡ r → swapped e c k ≡ b → Has (exchanged_word e block k) c → Has (get_or block r 0) b
  from c r b p q h =
      moved (ap (λ (x : ℕ). get_or block x 0) p) q ((exchanged_bit e block k c (exchanged_lt e block k c h)).0 h)

  neither : {a b : ℕ} → ¬ Has a e → ¬ Has b e → Has a e ↔ Has b e
  neither p q = (λ h. absurd (p h), λ h. absurd (q h))

  each : {a b : ℕ} → Has a e → Has b e → Has a e ↔ Has b e
  each p q = (λ h. q, λ h. p)

  -- a place of the mask and one half more is below 64
  place_fits : (c : ℕ) → Has mask c → c + atom e < ATOMS
  place_fits c m =
      let p = (alt.places c).0 m in
      omega (arith, more_atom c e p.1, lt_of_has (c ∪ atom e) 6 (λ i h. go i p.0 (union_cases c (atom e) h)))
    where
      go : (i : ℕ) → c < ATOMS → Has c i ⊎ Has (atom e) i → i < 6
      go i l (inl x) = has_lt c 6 (omega arith) x
      go i l (inr x) = let q : e ≡ i = atom_only e x in omega (arith, alt.small)

  half_fits : half ≤ ATOMS
  unfolding atom
  half_fits = let l : e ≤ 6 = omega (arith, alt.small) in omega (arith, is-half, pow_mono {j = 6} l)

  shifts : (high : ℕ) → (high ∩ mask) * 2 ^ half % 2 ^ 64 ≡ (high ∩ mask) * 2 ^ half
  shifts high =
      shl_exact (64 - half) half 64
      (lt_of_has (high ∩ mask) (64 - half) (λ i h. omega (arith, is-half, place_fits i (cut_right high mask h)))) (omega (arith, half_fits))

  pub low_row : ¬ Has k e → (get_or block k 0 ∩ mask) ∪ ((get_or block (k ∪ atom e) 0 ∩ mask) * 2 ^ half % 2 ^ 64) ≡ exchanged_word e block k
  low_row dk =
      ap (λ (x : ℕ). (low ∩ mask) ∪ x) (shifts high)
      ∙ ext _ _ (λ c h. to c (union_cases (low ∩ mask) ((high ∩ mask) * 2 ^ half) h)) (λ c h. fro c h (has_dec c e))
    where
      low : ℕ
      low = get_or block k 0

      high : ℕ
      high = get_or block (k ∪ atom e) 0

      to : (c : ℕ) → Has (get_or block k 0 ∩ mask) c ⊎ Has ((get_or block (k ∪ atom e) 0 ∩ mask) * 2 ^ half) c → Has (exchanged_word e block k) c
      to c (inl x) =
          let p = (alt.places c).0 (cut_right low mask x) in
          into c k c p.0 (swapped_alike e k c (neither dk p.1)) (swapped_alike e c k (neither p.1 dk)) (cut_left low mask x)
      to c (inr x) =
          let y = left_from (high ∩ mask) half c x in
          let m = cut_right high mask y.1 in
          let p = (alt.places (c - half)).0 m in
          let whole : c ≡ (c - half) + atom e = omega (arith, is-half, y.0) in
          let above : c ≡ (c - half) ∪ atom e = whole ∙ more_atom (c - half) e p.1 in
          let hc : Has c e = subst (λ (j : ℕ). Has j e) (sym above) (has_right (c - half) (atom e) (has_atom e)) in
          let rest : c ∖ atom e ≡ c - half = omega (arith, less_atom c e hc) in
          into c (k ∪ atom e) (c - half) (omega (arith, place_fits (c - half) m)) (swapped_up e k c dk hc) (swapped_down e c k hc dk ∙ rest)
          (cut_left high mask y.1)

      fro : (c : ℕ) → Has (exchanged_word e block k) c → Dec (Has c e) → Has ((get_or block k 0 ∩ mask) ∪ ((get_or block (k ∪ atom e) 0 ∩ mask) * 2 ^ half)) c
      fro c h (no d) =
          has_left _ _
          (has_cut low mask (from c k c (swapped_alike e k c (neither dk d)) (swapped_alike e c k (neither d dk)) h)
          ((alt.places c).1 (exchanged_lt e block k c h, d)))
      fro c h (yes hc) =
          let whole = less_atom c e hc in
          let lt = exchanged_lt e block k c h in
          let bare : ¬ Has (c ∖ atom e) e = λ x. without_right c (atom e) x (has_atom e) in
          let bit = from c (k ∪ atom e) (c ∖ atom e) (swapped_up e k c dk hc) (swapped_down e c k hc dk) h in
          let there : Has (high ∩ mask) (c ∖ atom e) = has_cut high mask bit ((alt.places (c ∖ atom e)).1 (omega arith, bare)) in
          let at : half + (c ∖ atom e) ≡ c = omega (arith, is-half) in
          has_right _ _ (subst (λ (j : ℕ). Has ((high ∩ mask) * 2 ^ half) j) at ((left_has (high ∩ mask) half (c ∖ atom e)).1 there))

  pub high_row : Has k e → get_or block k 0 < 2 ^ 64
      → ((get_or block (k ∖ atom e) 0 / 2 ^ half) ∩ mask) ∪ (get_or block k 0 ∖ mask) ≡ exchanged_word e block k
  high_row hk fits =
      ext _ _ (λ c h. to c (union_cases ((low / 2 ^ half) ∩ mask) (high ∖ mask) h)) (λ c h. fro c h (has_dec c e))
    where
      low : ℕ
      low = get_or block (k ∖ atom e) 0

      high : ℕ
      high = get_or block k 0

      kept : (c : ℕ) → Has (get_or block k 0) c → ¬ Has mask c → Dec (Has c e) → Has (exchanged_word e block k) c
      kept c x m (yes hc) =
          into c k c (has_lt high 64 fits x) (swapped_alike e k c (each hk hc)) (swapped_alike e c k (each hc hk)) x
      kept c x m (no d) = absurd (m ((alt.places c).1 (has_lt high 64 fits x, d)))

      to : (c : ℕ) → Has ((get_or block (k ∖ atom e) 0 / 2 ^ half) ∩ mask) c ⊎ Has (get_or block k 0 ∖ mask) c → Has (exchanged_word e block k) c
      to c (inl x) =
          let p = (alt.places c).0 (cut_right (low / 2 ^ half) mask x) in
          let at : half + c ≡ c ∪ atom e = omega (arith, is-half, more_atom c e p.1) in
          into c (k ∖ atom e) (half + c) p.0 (swapped_down e k c hk p.1) (swapped_up e c k p.1 hk ∙ sym at)
          ((right_has low half c).0 (cut_left (low / 2 ^ half) mask x))
      to c (inr x) = kept c (without_left high mask x) (without_right high mask x) (has_dec c e)

      fro : (c : ℕ) → Has (exchanged_word e block k) c → Dec (Has c e) → Has (((get_or block (k ∖ atom e) 0 / 2 ^ half) ∩ mask) ∪ (get_or block k 0 ∖ mask)) c
      fro c h (no d) =
          let at : half + c ≡ c ∪ atom e = omega (arith, is-half, more_atom c e d) in
          has_left _ _
          (has_cut (low / 2 ^ half) mask
          ((right_has low half c).1 (from c (k ∖ atom e) (half + c) (swapped_down e k c hk d) (swapped_up e c k d hk ∙ sym at) h))
          ((alt.places c).1 (exchanged_lt e block k c h, d)))
      fro c h (yes hc) =
          has_right _ _
          (has_without high mask (from c k c (swapped_alike e k c (each hk hc)) (swapped_alike e c k (each hc hk)) h)
          (λ m. ((alt.places c).0 m).1 hc))

-- ---- what a row of code gives

pub low_across : {block : List ℕ} {k e mask half across : ℕ} → Exchangeable block k e mask → half ≡ atom e → across ≡ k ∪ half → across < ATOMS
low_across {k = k} {e} {half = half} x is-half q =
    let up : k ∪ half ≡ k ∪ atom e = ap (λ (h : ℕ). k ∪ h) is-half in
    omega (arith, up_lt e k x.alternates.small x.row)

pub high_across : {block : List ℕ} {k e mask half across : ℕ} → Exchangeable block k e mask → half ≡ atom e → across ≡ k ∖ half → across < ATOMS
high_across {k = k} {e} {half = half} x is-half q =
    let down : k ∖ half ≡ k ∖ atom e = ap (λ (h : ℕ). k ∖ h) is-half in
    omega (arith, down_lt e k x.row)

module _ {block : List ℕ} {k e mask half across r : ℕ} {t : Bool} (x : Exchangeable block k e mask) (is-half : half ≡ atom e)
    (test : t ≡ apart k half) where
  pub low_word : t ≡ true → across ≡ k ∪ half → r ≡ (get_or block k 0 ∩ mask) ∪ ((get_or block across 0 ∩ mask) * 2 ^ half % 2 ^ 64)
      → r ≡ exchanged_word e block k
  low_word yes-test q w =
      let lacks : ¬ Has k e = (decides_has k e).no (lacks_of_test k e is-half test yes-test) in
      let place : across ≡ k ∪ atom e = q ∙ ap (λ (h : ℕ). k ∪ h) is-half in
      w ∙ ap (λ (a : ℕ). (get_or block k 0 ∩ mask) ∪ ((get_or block a 0 ∩ mask) * 2 ^ half % 2 ^ 64)) place
      ∙ low_row x.alternates is-half block k lacks

  pub high_word : t ≡ false → across ≡ k ∖ half → get_or block k 0 < 2 ^ 64
      → r ≡ ((get_or block across 0 / 2 ^ half) ∩ mask) ∪ (get_or block k 0 ∖ mask) → r ≡ exchanged_word e block k
  high_word no_test q fits w =
      let there : Has k e = (decides_has k e).yes (has_of_test k e is-half test no_test) in
      let place : across ≡ k ∖ atom e = q ∙ ap (λ (h : ℕ). k ∖ h) is-half in
      w ∙ ap (λ (a : ℕ). ((get_or block a 0 / 2 ^ half) ∩ mask) ∪ (get_or block k 0 ∖ mask)) place
      ∙ high_row x.alternates is-half block k there fits

-- ---- the six masks

eqv : Bool → Bool → Bool
eqv true b = b
eqv false b = not b

eqv_true : (a b : Bool) → eqv a b ≡ true → a ≡ b
unfolding eqv
eqv_true true b h = sym h
eqv_true false true h = h
eqv_true false false h = refl

-- the mask is right at each of the 64 places
alternates : (e mask : ℕ) → e < 6 → mask < 2 ^ 64 → all_below 64 (λ c. eqv (has mask c) (not (has c e))) ≡ true → Alternates e mask
alternates e mask l fits every =
    record {
      small = l;
      places = λ c. (
        λ h. let lt = has_lt mask 64 fits h in (
          lt,
          λ y. not_both (sym (at c lt) ∙ decided_true (decides_has mask c) h)
              (ap not (decided_true (decides_has c e) y)),
        ),
        λ h. (decides_has mask c).yes (at c h.0 ∙ ap not (decided_false (decides_has c e) h.1)),
      );
    }
  where
    at : (c : ℕ) → c < 64 → has mask c ≡ not (has c e)
    at c lt = eqv_true (has mask c) (not (has c e)) (all-at 64 (λ b. eqv (has mask b) (not (has b e))) every c lt)

pub mask_5 : Alternates 5 0x00000000ffffffff
unfolding has all_below eqv
mask_5 = alternates 5 0x00000000ffffffff (omega arith) (omega arith) refl

pub mask_4 : Alternates 4 0x0000ffff0000ffff
unfolding has all_below eqv
mask_4 = alternates 4 0x0000ffff0000ffff (omega arith) (omega arith) refl

pub mask_3 : Alternates 3 0x00ff00ff00ff00ff
unfolding has all_below eqv
mask_3 = alternates 3 0x00ff00ff00ff00ff (omega arith) (omega arith) refl

pub mask_2 : Alternates 2 0x0f0f0f0f0f0f0f0f
unfolding has all_below eqv
mask_2 = alternates 2 0x0f0f0f0f0f0f0f0f (omega arith) (omega arith) refl

pub mask_1 : Alternates 1 0x3333333333333333
unfolding has all_below eqv
mask_1 = alternates 1 0x3333333333333333 (omega arith) (omega arith) refl

pub mask_0 : Alternates 0 0x5555555555555555
unfolding has all_below eqv
mask_0 = alternates 0 0x5555555555555555 (omega arith) (omega arith) refl

-- ---- the whole turn

-- a round after the rounds before it
pub halved_round : (e : ℕ) {block mid before after : List ℕ} → e < 6 → Halved (suc e) block mid → FilledColumns (exchanged_word e mid) before after ATOMS
    → Halved e block after
halved_round e l h f = halved_step e l h f.filled

exchanged_fits : (e : ℕ) (block : List ℕ) (k : ℕ) → exchanged_word e block k < 2 ^ ATOMS
exchanged_fits e block k = lt_of_has (exchanged_word e block k) ATOMS (λ c h. exchanged_lt e block k c h)

-- the last round
pub crossed : {block mid before after : List ℕ} → Halved 1 block mid → FilledColumns (exchanged_word 0 mid) before after ATOMS → Crossed block after
crossed {block} {mid} h f =
    record {
      bits = halved_end (halved_round 0 (omega arith) h f);
      fits = λ k l. subst (λ (x : ℕ). x < 2 ^ ATOMS) (sym (f.filled k l)) (exchanged_fits 0 mid k);
    }
