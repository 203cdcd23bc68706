-- The pass over the constraints, as it is computed: one number more, what is held before and behind, and that the pass of `few_constraints` is the same.
use Rattle.blaming.proofs.Prelude.{◌≡◌, refl, sym, ◌∙◌, subst, Bool, true, false, List, ℕ, zero, suc, ◌≤◌, ◌<◌, arith, dec_lt, Has, ◌⊆◌, ◌∪◌, ◌∖◌}
use Rattle.blaming.proofs.Prelude.{atom, decides_has, has_dec, has_none, has_without, without_left, without_right, has_atom, atom_only, subset_refl}
use Rattle.blaming.proofs.Prelude.{subset_trans, decided_true, decided_false, NoneSettled, OneSettled, Tried, drops, keeps, Going, done, tries, tried}
use Rattle.blaming.proofs.Prelude.{passed}

-- c is dropped, or what is held stays
data Step (held c : ℕ) : ℕ → Type 0 where
  same : {next : ℕ} → next ≡ held → Step held c next
  drop : {next : ℕ} → next ≡ held ∖ atom c → Step held c next

step_within : {held c next : ℕ} → Step held c next → next ⊆ held
step_within {held} {c} (same e) = rw e subset_refl
step_within {held} {c} (drop e) = rw e (record { each = λ i h. without_left held (atom c) h })

step_other : {held c next d : ℕ} → Step held c next → ¬ (c ≡ d) → Has held d → Has next d
step_other {held} {c} {next} {d} (same e) n h = rw e h
step_other {held} {c} {next} {d} (drop e) n h = rw e (has_without held (atom c) h (λ q. n (atom_only c q)))

-- m is n or later
data Later (n : ℕ) : ℕ → Type 0 where
  same_place : Later n n
  one_more : {m : ℕ} → Later n m → Later n (suc m)

later_le : {n m : ℕ} → Later n m → n ≤ m
later_le same_place = omega arith
later_le (one_more k) = omega (arith, later_le k)

later_next : (n m : ℕ) → n ≤ suc m → (n ≤ m → Later n m) → Dec (m < n) → Later n (suc m)
later_next n m l f (yes k) = let e : n ≡ suc m = omega arith in subst (Later n) e same_place
later_next n m l f (no k) = one_more (f (omega arith))

later : (n m : ℕ) → n ≤ m → Later n m
later n zero l = let e : n ≡ 0 = omega arith in subst (Later n) e same_place
later n (suc m) l = later_next n m l (λ k. later n m k) (dec_lt m n)

module _ (test : ℕ → Bool) (all : ℕ) where
  tried_step : (held c : ℕ) → Step held c (tried test held c)
  tried_step held c = go (test (held ∖ atom c))
    where
      go : (b : Bool) → Step held c (elim b [ true ↦ held | false ↦ held ∖ atom c ])
      go true = same refl
      go false = drop refl

  -- a number that is no constraint is passed over
  pass_over : (c : ℕ) → ¬ Has all c → passed test all (suc c) ≡ passed test all c
  unfolding passed
  pass_over c n = rw (decided_false (decides_has all c) n, passed)

  pass_try : (c : ℕ) → Has all c → passed test all (suc c) ≡ tried test (passed test all c) c
  unfolding passed
  pass_try c h = rw (decided_true (decides_has all c) h, passed)

  pub pass_kept : (c : ℕ) → Has all c → test (passed test all c ∖ atom c) ≡ true → passed test all (suc c) ≡ passed test all c
  pass_kept c h e = pass_try c h ∙ rw (e, tried)

  pub pass_dropped : (c : ℕ) → Has all c → test (passed test all c ∖ atom c) ≡ false → passed test all (suc c) ≡ passed test all c ∖ atom c
  pass_dropped c h e = pass_try c h ∙ rw (e, tried)

  pass_step : (c : ℕ) → Step (passed test all c) c (passed test all (suc c))
  pass_step c = go (has_dec all c)
    where
      go : Dec (Has all c) → Step (passed test all c) c (passed test all (suc c))
      go (yes h) = rw (pass_try c h) (tried_step (passed test all c) c)
      go (no n) = same (pass_over c n)

  -- ---- what is held before and behind a number

  pub pass_within : (n : ℕ) → passed test all n ⊆ all
  unfolding passed
  pass_within zero = subset_refl
  pass_within (suc n) = subset_trans (step_within (pass_step n)) (pass_within n)

  -- those that are not yet tried are held
  pub pass_untried : (n d : ℕ) → n ≤ d → Has all d → Has (passed test all n) d
  unfolding passed
  pass_untried zero d l h = h
  pass_untried (suc n) d l h = step_other (pass_step n) (λ e. absurd (omega (arith, e))) (pass_untried n d (omega arith) h)

  -- and of those that are tried nothing changes
  stays_more : {n m d : ℕ} → Later n m → d < n → Has (passed test all n) d → Has (passed test all m) d
  stays_more same_place l h = h
  stays_more (one_more {m = m} k) l h = step_other (pass_step m) (λ e. absurd (omega (arith, e, later_le k))) (stays_more k l h)

  stayed_more : {n m d : ℕ} → Later n m → Has (passed test all m) d → Has (passed test all n) d
  stayed_more same_place h = h
  stayed_more {d = d} (one_more {m = m} k) h = stayed_more k ((step_within (pass_step m)).each d h)

  pub pass_stays : (n m d : ℕ) → n ≤ m → d < n → Has (passed test all n) d → Has (passed test all m) d
  pass_stays n m d l k h = stays_more (later n m l) k h

  pub pass_stayed : (n m d : ℕ) → n ≤ m → Has (passed test all m) d → Has (passed test all n) d
  pass_stayed n m d l h = stayed_more (later n m l) h

  -- nothing is tried where there are no constraints
  idle_more : {n m : ℕ} → Later n m → ((d : ℕ) → n ≤ d → d < m → ¬ Has all d) → passed test all m ≡ passed test all n
  idle_more same_place f = refl
  idle_more (one_more {m = m} k) f = pass_over m (f m (later_le k) (omega arith)) ∙ idle_more k (λ d l h. f d l (omega arith))

  pass_idle : (n m : ℕ) → n ≤ m → ((d : ℕ) → n ≤ d → d < m → ¬ Has all d) → passed test all m ≡ passed test all n
  pass_idle n m l f = idle_more (later n m l) f

  -- ---- the pass of few_constraints

  module _ {rules : List ℕ} {top facts : ℕ} (count : ℕ) (few : (d : ℕ) → Has all d → d < count)
      (none : (w : ℕ) → w ⊆ all → NoneSettled rules (top ∪ w) facts → test w ≡ false)
      (one : (w : ℕ) → w ⊆ all → OneSettled rules (top ∪ w) facts → test w ≡ true) where
    tried_is : {c next : ℕ} → Has all c → Tried rules top (passed test all c) facts c next → next ≡ passed test all (suc c)
    tried_is {c} {next} h t = go t
      where
        part : passed test all c ∖ atom c ⊆ all
        part = record { each = λ i k. (pass_within c).each i (without_left (passed test all c) (atom c) k) }

        go : Tried rules top (passed test all c) facts c next → next ≡ passed test all (suc c)
        go (drops e n) = e ∙ sym (pass_dropped c h (none (passed test all c ∖ atom c) part n))
        go (keeps e o) = e ∙ sym (pass_kept c h (one (passed test all c ∖ atom c) part o))

    going_passed : (n : ℕ) → n ≤ count → {rest held r : ℕ} → ((d : ℕ) → Has rest d → Has all d × (n ≤ d))
        → ((d : ℕ) → Has all d → n ≤ d → Has rest d) → held ≡ passed test all n → Going rules top facts rest held r → r ≡ passed test all count
    going_passed n l f g e done = e ∙ sym (pass_idle n count l (λ d k m h. has_none (g d h k)))
    going_passed n l {rest} {held} {r} f g e (tries {c = c} {next = next} low t more) =
        let at = f c low.here in
        let idle : passed test all c ≡ passed test all n = pass_idle n c at.1 (λ d k m h. low.least d m (g d h k)) in
        let now : held ≡ passed test all c = e ∙ sym idle in
        going_passed (suc c) (few c at.0) left right (tried_is at.0 (subst (λ (x : ℕ). Tried rules top x facts c next) now t)) more
      where
        left : (d : ℕ) → Has (rest ∖ atom c) d → Has all d × (suc c ≤ d)
        left d h =
            let k = without_left rest (atom c) h in
            ((f d k).0, above (dec_lt d c) (λ q. without_right rest (atom c) h (subst (Has (atom c)) q (has_atom c))) k)
          where
            above : Dec (d < c) → ¬ (c ≡ d) → Has rest d → suc c ≤ d
            above (yes m) n k = absurd (low.least d m k)
            above (no m) n k = omega (arith, n)

        right : (d : ℕ) → Has all d → suc c ≤ d → Has (rest ∖ atom c) d
        right d h k =
            has_without rest (atom c) (g d h (omega (arith, (f c low.here).1))) (λ q. absurd (omega (arith, atom_only c q)))

    pub going_is : {r : ℕ} → Going rules top facts all all r → r ≡ passed test all count
    unfolding passed
    going_is g = going_passed 0 (omega arith) (λ d h. (h, omega arith)) (λ d h l. h) refl g
