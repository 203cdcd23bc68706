-- Cuts of wanted positions, and members that were met.
use Rattle.searching.proofs.Prelude.{◌≡◌, refl, sym, ◌∙◌, subst, true, false≢true, ◌⊎◌, inl, inr, List, [], ◌∷◌, List-as-Memᴰ, Memᴰ-head}
use Rattle.searching.proofs.Prelude.{Memᴰ-tail, Memᴰ-not-nil, ℕ, ◌≤◌, ◌<◌, ◌^◌, arith, length, replicate, eqb-true, ATOMS, Has, ◌∩◌}
use Rattle.searching.proofs.Prelude.{ext, empty, has_cut, cut_left, cut_right, has_lt, has_none, above_cons, Rising, rising_cons, CutOf, LIST_WORDS}
use Rattle.searching.proofs.Prelude.{OVERFULL, Completes, undecided, State, decided_cases, Gathered, fits, over, Grown, Witnessed, met, none, Met}
use Rattle.searching.proofs.Prelude.{Option, Some, None}
use Rattle.atoms.proofs.Kit.{eqb}
use Rattle.searching.specs.Witness.{enough}

-- ---- cuts

pub grown_for : {A B : ℕ → Type 0} (list : List ℕ) (count : ℕ) → ((x : ℕ) → A x → B x) → (x : ℕ) → Grown list count A x → Grown list count B x
grown_for list count f x (inl m) = inl m
grown_for list count f x (inr a) = inr (f x a)

-- completions of a state that has decided every atom that shows have the same cut
pub same_cut : (t : State) (shown : ℕ) {left : ℕ} → left ≡ undecided t.up t.dropped ∩ shown → left ≡ 0 → (M N : ℕ) → M < 2 ^ ATOMS
    → N < 2 ^ ATOMS → Completes t M → Completes t N → M ∩ shown ≡ N ∩ shown
same_cut t shown e z M N m n c d = ext (M ∩ shown) (N ∩ shown) (shared M N m c d) (shared N M n d c)
  where
    shared : (K L : ℕ) → K < 2 ^ ATOMS → Completes t K → Completes t L → (i : ℕ) → Has (K ∩ shown) i → Has (L ∩ shown) i
    shared K L k p q i h =
        go (decided_cases t.up t.dropped i (has_lt K ATOMS k (cut_left K shown h))
        (λ u. has_none (subst (λ (w : ℕ). Has w i) (sym e ∙ z) (has_cut (undecided t.up t.dropped) shown u (cut_right K shown h)))))
      where
        go : Has t.up i ⊎ Has t.dropped i → Has (L ∩ shown) i
        go (inl u) = has_cut L shown (q.has_up.each i u) (cut_right K shown h)
        go (inr u) = absurd (p.no_dropped.none i u (cut_left K shown h))

-- ---- members that were met

pub witnessed_iff : {Q R : ℕ → Type 0} {w : Option ℕ} → ((M : ℕ) → Q M → R M) → ((M : ℕ) → R M → Q M) → Witnessed Q w → Witnessed R w
witnessed_iff f g (met {M} q) = met (f M q)
witnessed_iff f g (none n) = none (λ M r. n M (g M r))

pub witnessed_met : {Q : ℕ → Type 0} {w : Option ℕ} → (m : Met w) → Witnessed Q w → Q m.member
witnessed_met {Q} m q = go (subst (Witnessed Q) m.is q)
  where
    go : {M : ℕ} → Witnessed Q (Some M) → Q M
    go (met q) = q

pub enough_met : (w : Option ℕ) {left : ℕ} → enough w left ≡ true → (left ≡ 0) × Met w
enough_met (Some M) {left} e = (eqb-true left 0 e, record { member = M; is = refl })
enough_met None e = absurd (false≢true e)

pub enough_is : {w : Option ℕ} {M : ℕ} (left : ℕ) → w ≡ Some M → eqb left 0 ≡ enough w left
enough_is left e = rw e refl

-- ---- nothing shows: the list has one member at most

pub hidden_few : {Q : ℕ → Type 0} {list : List ℕ} {r : ℕ} → Gathered (Grown (replicate {A = ℕ} LIST_WORDS 0) 0 (CutOf 0 Q)) list r → r ≤ LIST_WORDS
hidden_few (fits o s c) = o.small
hidden_few {Q} (over o l) = absurd (go o.many o.rising o.long (λ x m. zero_of x (o.sound x m)))
  where
    zero_of : (x : ℕ) → Grown (replicate {A = ℕ} LIST_WORDS 0) 0 (CutOf 0 Q) x → x ≡ 0
    zero_of x (inl m) = absurd (Memᴰ-not-nil m)
    zero_of x (inr k) = k.is ∙ empty (k.whole ∩ 0) (λ i h. has_none (cut_right k.whole 0 h))

    go : (xs : List ℕ) → Rising xs → length xs ≡ OVERFULL → ((x : ℕ) → List-as-Memᴰ x xs → x ≡ 0) → ⊥
    go [] r e f = omega arith
    go (x ∷ []) r e f = omega arith
    go (x ∷ (y ∷ ys)) (rising_cons (above_cons l a) r) e f =
        omega (arith, l, f x (Memᴰ-head refl), f y (Memᴰ-tail (Memᴰ-head refl)))
